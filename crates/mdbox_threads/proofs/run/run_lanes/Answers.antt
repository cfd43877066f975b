use Rattle.std.proofs.Common.{◌∙◌, ◌≤◌, All, ap, length, subst, sym, true}
use Rattle.std.specs.Prelude.{sum_by}
use denote.Param.Send.{sendable}
use Rattle.turn_lock.specs.LockRule.{StartsWith}
use Rattle.turn_lock.specs.Seats.{IsFreeSeat, IsUnder, parts_with, seen_by}
use Rattle.lanes.specs.Turned.{HasRun}
use Rattle.lanes.specs.Worlds.{turn_of}
use Rattle.mdbox_threads.specs.Traces.{HasMarkOrIsFull, turn_numbers}
use Rattle.mdbox_threads.proofs.JobLemmas.{given_back}
use Rattle.mdbox_threads.proofs.SeatLemmas.{all_done, all_free, all_parts, all_ready, all_under}
use Rattle.mdbox_threads.proofs.SendLemmas.{Handed-send}
use Rattle.mdbox_threads.proofs.TraceLemmas.{marked_so}
use Rattle.mdbox_threads.proofs.run.run_lanes.Goals as goal

pub make_lock-requires-send-W : goal.make_lock-requires-send-W
make_lock-requires-send-W g c κs within = search (Handed-send, sendable) depth 200 fits 100000

pub close_lock-requires-send-W : goal.close_lock-requires-send-W
close_lock-requires-send-W g c κs within = search (Handed-send, sendable) depth 200 fits 100000

pub run_workers-requires-clause-ready : goal.run_workers-requires-clause-ready
run_workers-requires-clause-ready g c κs within =
    all_ready c.in-Ok.lock c.of-first.result.value c.of.result c.in-Ok.seats c.as_mut_slice.result.now (c.of.ensures ∙ ap (λ w. record { world = w; first = w }) (sym c.of-first.ensures)) (c.as_mut_slice.ensures.value ∙ c.into_vec-seats.ensures) c.in-Ok.ensures.free c.in-Ok.ensures.charter

pub close_lock-requires-clause-free : goal.close_lock-requires-clause-free
close_lock-requires-clause-free g c κs within =
    let back = c.of-in-Ok.ensures ∙ given_back c.into_vec-seats.result.len c.run_workers.new.seats _ (c.run_workers.ensures.count ∙ c.as_mut_slice.ensures.len) in
    subst (λ l. All (IsFreeSeat c.in-Ok.lock) l) (sym back) (all_free c.in-Ok.lock c.of-first.result.value c.as_mut_slice.result.now c.run_workers.new.seats c.run_workers.ensures.count c.run_workers.ensures.each)

pub close_lock-requires-clause-all : goal.close_lock-requires-clause-all
close_lock-requires-clause-all g c κs within =
    let back = c.of-in-Ok.ensures ∙ given_back c.into_vec-seats.result.len c.run_workers.new.seats _ (c.run_workers.ensures.count ∙ c.as_mut_slice.ensures.len) in
    let is = c.as_mut_slice.ensures.value ∙ c.into_vec-seats.ensures in
    ap (sum_by parts_with) back
    ∙ all_parts c.in-Ok.lock c.of-first.result.value c.as_mut_slice.result.now c.run_workers.new.seats c.run_workers.ensures.count c.run_workers.ensures.each (ap (sum_by parts_with) is ∙ c.in-Ok.ensures.all)

pub returns-in-Ok-clause-ran : goal.returns-in-Ok-clause-ran
returns-in-Ok-clause-ran g c =
    let H = g.D.Disk.history in
    let F = g.D.Disk.faults in
    let first = c.of-first.result.value in
    let back = c.of-in-Ok.ensures ∙ given_back c.into_vec-seats.result.len c.run_workers.new.seats _ (c.run_workers.ensures.count ∙ c.as_mut_slice.ensures.len) in
    let under = subst (λ l. All (IsUnder first first.finished) l) (sym back) (all_under c.in-Ok.lock first c.as_mut_slice.result.now c.run_workers.new.seats c.run_workers.ensures.count c.run_workers.ensures.each) in
    let is = (c.close_lock.ensures.charter first first.finished under).0 ∙ c.of-first.ensures in
    subst (λ t. HasRun H F c.args.world t c.finish.result) (sym c.finish.ensures.traced) (subst (λ w. HasRun H F w c.close_lock.result.world.turns c.finish.result) is c.finish.ensures)

pub returns-in-Ok-clause-marked : goal.returns-in-Ok-clause-marked
returns-in-Ok-clause-marked g c = λ lane some most.
    let first = c.of-first.result.value in
    let back = c.of-in-Ok.ensures ∙ given_back c.into_vec-seats.result.len c.run_workers.new.seats _ (c.run_workers.ensures.count ∙ c.as_mut_slice.ensures.len) in
    let trace = turn_numbers c.close_lock.result.world.turns in
    let starts = subst (λ l. All (λ seat. StartsWith trace (seen_by seat)) l) back c.close_lock.ensures.trace in
    let is = c.as_mut_slice.ensures.value ∙ c.into_vec-seats.ensures in
    let count = ap length is ∙ c.in-Ok.ensures.count ∙ c.lanes-lanes.ensures.0 in
    let done = all_done c.in-Ok.lock first c.as_mut_slice.result.now c.run_workers.new.seats c.run_workers.ensures.count c.run_workers.ensures.each trace starts lane some (subst (λ n. lane ≤ n) (sym count) most) in
    subst (λ t. HasMarkOrIsFull (turn_of lane true) c.args.world.turn_room t) (sym c.finish.ensures.traced)
    (subst (λ w. HasMarkOrIsFull (turn_of lane true) w.turn_room c.close_lock.result.world.turns) c.of-first.ensures (marked_so (turn_of lane true) first.turn_room c.close_lock.result.world.turns done))

pub returns-clause-marked : goal.returns-clause-marked
returns-clause-marked g c = λ lane some most.
    let is = c.in-Err.ensures.refused ∙ c.of.ensures in
    let lanes = subst (λ n. lane ≤ n) (sym c.lanes-lanes.ensures.0) most in
    subst (λ t. HasMarkOrIsFull (turn_of lane true) c.args.world.turn_room t) (sym c.finish-in-Err.ensures.traced)
    (subst (λ h. HasMarkOrIsFull (turn_of lane true) h.first.turn_room c.run_alone.new.handed.world.turns) is (c.run_alone.ensures.done lane some lanes))
