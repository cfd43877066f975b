use Rattle.std.proofs.Common.{refl, sym, ◌∙◌}
use Rattle.disk_model.proofs.IdleLemmas.{idle-on}
use Rattle.disk_model.proofs.NameOrderLemmas.{walk_shrinks}
use Rattle.disk_model.proofs.FaultCountLemmas.{no_fault-then, no_fault-of_counts}
use Rattle.store_open.proofs.OldLogLemmas.{in_range}
use Rattle.store_open.proofs.OldLogLemmas.{Walked, walk-begins, walk-looks, walk-goes_on, walk-fails, walk-ends, walk-none, none_of}
use Rattle.store_open.proofs.old_logs.remove_logs.Given.{Over}
use Rattle.store_open.proofs.old_logs.remove_logs.Goals.{In_ok-name}
use Rattle.store_open.proofs.old_logs.remove_logs.Goals as goal

-- the walk behind a look for the next log
looked : (g : Over) (c : In_ok-name g) → Walked c.loop-name.after (g.D.Disk.history c.args.disk.now) (g.D.Disk.history c.next_log.new.disk)
looked g c = walk-looks _ _ _ _ c.loop-name.invariant.walked c.in_ok-name.ensures.idle

pub loop-name-init : goal.loop-name-init
loop-name-init g c = record { walked = walk-begins _; faults = refl }

pub returns-in_err-name-clause-any_moment : goal.returns-in_err-name-clause-any_moment
returns-in_err-name-clause-any_moment g c = (walk-looks _ _ _ _ c.loop-name.invariant.walked c.in_err-name.ensures.idle).each

pub returns-in_err-remove-clause-any_moment : goal.returns-in_err-remove-clause-any_moment
returns-in_err-remove-clause-any_moment g c = λ never.
    walk-fails _ c.in-Some.name _ _ _ (looked g (goal.at.returns-in_err-remove-clause-any_moment g c).In_ok-name)
    (idle-on _ _ _ c.in_ok-name.ensures.idle (rw c.in-Some.is at c.in_ok-name.ensures.first)) c.in_err-remove.ensures.failed never

pub loop-name-smaller : goal.loop-name-smaller
loop-name-smaller g c = walk_shrinks c.loop-name.after c.in-Some.name (in_range c.loop-name.after c.loop-name.invariant.walked.named) (rw c.in-Some.is at c.in_ok-name.ensures.named).1 (rw c.in-Some.is at c.in_ok-name.ensures.past)

pub loop-name-preserved : goal.loop-name-preserved
loop-name-preserved g c = record {
  walked = walk-goes_on _ c.in-Some.name _ _ _ (looked g (goal.at.loop-name-preserved g c).In_ok-name)
      (idle-on _ _ _ c.in_ok-name.ensures.idle (rw c.in-Some.is at c.in_ok-name.ensures.first))
      (rw c.in-Some.is at c.in_ok-name.ensures.named) c.in_ok-remove.ensures.state;
  faults = no_fault-then _ _ _ c.loop-name.invariant.faults (no_fault-then _ _ _ c.in_ok-name.ensures.unfailed (no_fault-of_counts _ _ c.in_ok-remove.ensures.cause.reads (c.in_ok-remove.ensures.cause.unfailed refl)));
}

pub returns-clause-any_moment : goal.returns-clause-any_moment
returns-clause-any_moment g c = (looked g (goal.at.returns-clause-any_moment g c).In_ok-name).each

pub returns-clause-taken : goal.returns-clause-taken
returns-clause-taken g c =
    walk-ends _ _ _ (looked g (goal.at.returns-clause-taken g c).In_ok-name) (idle-on _ _ _ c.in_ok-name.ensures.idle (rw c.in_default.is at c.in_ok-name.ensures.first))

pub returns-clause-any : goal.returns-clause-any
returns-clause-any g c = λ none.
    walk-none _ _ _ (none_of c.loop-name.after (sym c.is_some.ensures ∙ none)) (looked g (goal.at.returns-clause-any g c).In_ok-name) (idle-on _ _ _ c.in_ok-name.ensures.idle (rw c.in_default.is at c.in_ok-name.ensures.first))
