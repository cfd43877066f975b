use Rattle.folder_model.specs.System.{Nothing, with_node}
use Rattle.folder_kept.proofs.KeptLemmas.{kept_among, kept_apart, put_keeps, removed_keeps}
use Rattle.folder_kept.proofs.kept.KeptFolderFolder.remove.Goals as goal

pub invariant_of-self : goal.invariant_of-self
invariant_of-self g c =
    let self = c.args.self.now in
    let old = g.F.Folder.modelled self.folder in
    let new = g.F.Folder.modelled c.remove.new.self in
    let files = c.close.new.self.files.items in
    let path = c.args.path.now in
    record {
      kept = kept_apart g.F.Folder.number path old new files (removed_keeps c.remove.result path (with_node path Nothing) old new (put_keeps path Nothing) c.remove.ensures.removed c.remove.ensures.failed)
          c.close.ensures.closed (kept_among g.F.Folder.number old self.files.files.items files c.close.ensures.same self.kept);
    }
