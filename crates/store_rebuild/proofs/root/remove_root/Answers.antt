use Rattle.disk_model.proofs.BetweenLemmas.{between-on}
use Rattle.disk_model.proofs.MomentLemmas.{if_told-after}
use Rattle.disk_model.specs.Disk.{IsThere, change_all, named}
use Rattle.disk_model.specs.declared.name.FileName.TheVariants as file
use Rattle.model_rebuild.specs.RebuildMoments.{IsBeforeLogs}
use Rattle.store_rebuild.proofs.RootLemmas.{changed_images, rootless, unsynced_images}
use Rattle.store_rebuild.specs.Rootless.{IsRootTaken}
use Rattle.store_rebuild.specs.Writing.{IsRootless}
use Rattle.store_rebuild.proofs.FileLemmas.{named_gone}
use Rattle.store_rebuild.proofs.root.remove_root.Goals as goal

pub returns-in_err-sync_names-clause-any_moment : goal.returns-in_err-sync_names-clause-any_moment
returns-in_err-sync_names-clause-any_moment g c = λ first before. unsynced_images first _ _ _ (c.take_root.ensures.any_moment first before) c.in_err-sync_names.ensures.failed

pub returns-clause-any_moment : goal.returns-clause-any_moment
returns-clause-any_moment g c = λ first before.
    changed_images first (change_all named) _ (g.D.Disk.history c.take_root.new.disk) _ (c.take_root.ensures.any_moment first before) c.in_ok-sync_names.ensures.state (c.a_rebuild_can_crash.ensures.named first)
    (between-on IsRootTaken (IsBeforeLogs first) (IsBeforeLogs first) _ _ (λ a b taken b0. taken.before first b0) c.in_ok-take_root.ensures.taken before)

pub returns-clause-rootless : goal.returns-clause-rootless
returns-clause-rootless g c = λ first before.
    if_told-after (λ disk. IsBeforeLogs first disk × (IsThere (disk file.Root) → ⊥)) (IsRootless first) (change_all named) _ _ c.in_ok-sync_names.ensures.state (λ disk p. record { gone = named_gone (disk file.Root) p.1; before = rootless first disk p.0 p.1 })
    (between-on IsRootTaken (IsBeforeLogs first) (λ disk. IsBeforeLogs first disk × (IsThere (disk file.Root) → ⊥)) _ _ (λ a b taken b0. (taken.before first b0, taken.gone)) c.in_ok-take_root.ensures.taken before)
