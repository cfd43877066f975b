use Rattle.disk_model.specs.Disk.{synced}
use Rattle.disk_model.proofs.OneFileLemmas.{along-goes_on, along-fails_still}
use Rattle.storage_files.proofs.AddLemmas.{L, sync-along, sync-holds, synced-between}
use Rattle.storage_files.proofs.device.sync.Goals as goal

pub returns-in_err-sync-clause-any_moment : goal.returns-in_err-sync-clause-any_moment
returns-in_err-sync-clause-any_moment g c =
    along-fails_still c.args.name (L c.args.name _) _ _ _ (sync-along c.args.name _ (g.met.D.Disk.reads_image c.args.disk.now)) c.in_err-sync.ensures.failed

pub returns-clause-any_moment : goal.returns-clause-any_moment
returns-clause-any_moment g c =
    let i = g.met.D.Disk.reads_image c.args.disk.now in
    (along-goes_on c.args.name (L c.args.name _) synced _ _ _ (sync-along c.args.name _ i) c.in_ok-sync.ensures.state (sync-holds c.args.name _ c.requires i)).each

pub returns-clause-synced : goal.returns-clause-synced
returns-clause-synced g c = synced-between c.args.name _ _ c.requires (g.met.D.Disk.reads_image c.args.disk.now) c.in_ok-sync.ensures.state

pub returns-clause-others : goal.returns-clause-others
returns-clause-others g c =
    let i = g.met.D.Disk.reads_image c.args.disk.now in
    (along-goes_on c.args.name (L c.args.name _) synced _ _ _ (sync-along c.args.name _ i) c.in_ok-sync.ensures.state (sync-holds c.args.name _ c.requires i)).same
