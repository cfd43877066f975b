use Rattle.disk_model.proofs.BetweenLemmas.{between-step}
use Rattle.disk_model.proofs.IdleLemmas.{idle-begins}
use Rattle.disk_model.specs.Disk.{change, synced}
use Rattle.store_rebuild.proofs.RootLemmas.{looked_images, unsynced_images}
use Rattle.store_rebuild.specs.Writing.{IsOnlySynced}
use Rattle.store_rebuild.proofs.SyncLemmas.{only_synced, sync_before, sync_images, sync_stays, sync_synced}
use Rattle.store_rebuild.proofs.sync.sync_file.Goals as goal

pub returns-in_err-sync-clause-any_moment : goal.returns-in_err-sync-clause-any_moment
returns-in_err-sync-clause-any_moment g c = λ first before. unsynced_images first _ _ _ (looked_images first _ _ (idle-begins _) before) c.in_err-sync.ensures.failed

pub returns-clause-any_moment : goal.returns-clause-any_moment
returns-clause-any_moment g c = λ first before.
    sync_images first c.args.name _ _ c.in_ok-sync.ensures.state
    (sync_stays first c.args.name _ (λ disk b i t. c.a_rebuild_can_crash.ensures.synced first disk c.args.name b i t) c.requires (g.met.D.Disk.reads_image c.args.disk.now) before) before

pub returns-clause-before : goal.returns-clause-before
returns-clause-before g c = λ first before.
    sync_before first c.args.name _ _ c.in_ok-sync.ensures.state
    (sync_stays first c.args.name _ (λ disk b i t. c.a_rebuild_can_crash.ensures.synced first disk c.args.name b i t) c.requires (g.met.D.Disk.reads_image c.args.disk.now) before)

pub returns-clause-synced : goal.returns-clause-synced
returns-clause-synced g c = sync_synced c.args.name _ _ c.in_ok-sync.ensures.state c.requires

pub returns-clause-same : goal.returns-clause-same
returns-clause-same g c = between-step IsOnlySynced (change c.args.name synced) _ _ c.in_ok-sync.ensures.state (only_synced c.args.name)
