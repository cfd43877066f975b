use Rattle.disk_model.proofs.IdleLemmas.{idle-on}
use Rattle.disk_model.specs.Disk.{change, removed}
use Rattle.disk_model.specs.declared.name.FileName.TheVariants as file
use Rattle.model_rebuild.specs.RebuildMoments.{IsBeforeLogs}
use Rattle.store_rebuild.proofs.RootLemmas.{changed_images, failed_images, looked_images, none_taken, root_taken}
use Rattle.store_rebuild.proofs.root.take_root.Goals as goal

pub returns-in_err-has_root-clause-any_moment : goal.returns-in_err-has_root-clause-any_moment
returns-in_err-has_root-clause-any_moment g c = λ first before. looked_images first _ _ c.in_err-has_root.ensures.idle before

pub returns-then-not-branch-clause-any_moment : goal.returns-then-not-branch-clause-any_moment
returns-then-not-branch-clause-any_moment g c = λ first before. looked_images first _ _ c.in_ok-has_root.ensures.idle before

pub returns-then-not-branch-clause-taken : goal.returns-then-not-branch-clause-taken
returns-then-not-branch-clause-taken g c = none_taken _ _ c.in_ok-has_root.ensures.idle (rw c.if-not-branch.true at c.in_ok-has_root.ensures.told)

pub returns-in_err-remove-clause-any_moment : goal.returns-in_err-remove-clause-any_moment
returns-in_err-remove-clause-any_moment g c = λ first before.
    failed_images first _ (g.D.Disk.history c.has_root.new.disk) _ (looked_images first _ _ c.in_ok-has_root.ensures.idle before) c.in_err-remove.ensures.failed
    (idle-on (IsBeforeLogs first) _ _ c.in_ok-has_root.ensures.idle before) (idle-on _ _ _ c.in_ok-has_root.ensures.idle (rw c.if-not-branch.false at c.in_ok-has_root.ensures.told))

pub returns-clause-any_moment : goal.returns-clause-any_moment
returns-clause-any_moment g c = λ first before.
    changed_images first (change file.Root removed) _ (g.D.Disk.history c.has_root.new.disk) _ (looked_images first _ _ c.in_ok-has_root.ensures.idle before) c.in_ok-remove.ensures.state
    (c.a_rebuild_can_crash.ensures.removed first) (idle-on (IsBeforeLogs first) _ _ c.in_ok-has_root.ensures.idle before)

pub returns-clause-taken : goal.returns-clause-taken
returns-clause-taken g c = root_taken c.a_rebuild_can_crash.ensures.removed _ (g.D.Disk.history c.has_root.new.disk) _ c.in_ok-has_root.ensures.idle c.in_ok-remove.ensures.state
