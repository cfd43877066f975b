use denote.Param.Send.{sendable}
use Rattle.std.proofs.Common.{◌+◌, arith, slice_index_or, subst, sym}
use Rattle.std.proofs.Crossing.{crosses}
use Rattle.mdbox_threads.specs.Work.{HasWorkedAway, IsReadySeat}
use Rattle.mdbox_threads.proofs.SendLemmas.{Handed-send, TurnLock-sync, TurnSeat-send}
use Rattle.mdbox_threads.proofs.work.run_workers.Goals as goal

pub for_each_mut-requires-clause-accepts : goal.for_each_mut-requires-clause-accepts
for_each_mut-requires-clause-accepts g c = λ lifetimes bounds i p h e.
    let r = c.requires.count in
    (subst (λ s. IsReadySeat c.args.lock.now c.args.first.now.value s) (sym e) (c.requires.ready i p.now h), omega arith, omega arith)

pub returns-clause-each : goal.returns-clause-each
returns-clause-each g c = λ i d h.
    let x = (c.for_each_mut.ensures i d h).1 in
    subst (λ y. HasWorkedAway c.args.lock.now c.args.first.now.value (i + 1) (slice_index_or c.args.seats.now i d) y) x.left
    (subst (λ y. HasWorkedAway c.args.lock.now c.args.first.now.value (i + 1) y x.after_call.now) x.argument_is x.call)

pub for_each_mut-requires-send-T : goal.for_each_mut-requires-send-T
for_each_mut-requires-send-T g c κs within = search (TurnSeat-send, Handed-send, sendable) depth 200 fits 100000

pub for_each_mut-requires-sync-F : goal.for_each_mut-requires-sync-F
for_each_mut-requires-sync-F g c κs within = search (TurnLock-sync, Handed-send, sendable, crosses) depth 200 fits 100000
