use Rattle.folder_disk.proofs.Common.{true, false}
use Rattle.disk_record.specs.declared.change.Change.TheVariants as change
use Rattle.folder_disk.proofs.ChangedLemmas.{synced_seen}
use Rattle.folder_disk.proofs.SeenLemmas.{half_seen}
use Rattle.folder_disk.proofs.UnseenLemmas.{on_ok_both, on_err_map}
use Rattle.folder_disk.proofs.folders.sync_names.Goals as goal

pub returns-clause-ok : goal.returns-clause-ok
returns-clause-ok g c =
    on_ok_both c.sync_changed.result (λ unseen synced. synced_seen (g.F.Folder.modelled c.args.folder.now) (g.F.Folder.modelled c.sync_changed.new.folder) (g.F.Folder.past c.args.folder.now) (g.F.Folder.past c.sync_changed.new.folder) unseen synced) c.sync_changed.ensures.unseen c.sync_changed.ensures.synced

pub returns-clause-err : goal.returns-clause-err
returns-clause-err g c =
    on_err_map c.sync_changed.result (λ e. half_seen change.Nothing true (g.F.Folder.modelled c.args.folder.now) (g.F.Folder.modelled c.sync_changed.new.folder) (g.F.Folder.past c.args.folder.now) (g.F.Folder.past c.sync_changed.new.folder) tt e) c.sync_changed.ensures.failed
