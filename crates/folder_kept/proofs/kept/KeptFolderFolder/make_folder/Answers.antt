use Rattle.folder_model.specs.System.{AFolder, with_node}
use Rattle.folder_kept.proofs.KeptLemmas.{kept_apart, put_keeps, folder_keeps, not_free}
use Rattle.folder_kept.proofs.kept.KeptFolderFolder.make_folder.Goals as goal

pub invariant_of-self : goal.invariant_of-self
invariant_of-self g c =
    let self = c.args.self.now in
    let old = g.F.Folder.modelled self.folder in
    let new = g.F.Folder.modelled c.make_folder.new.self in
    let path = c.args.path.now in
    record {
      kept = kept_apart g.F.Folder.number path old new self.files.files.items (folder_keeps c.make_folder.result path (with_node path AFolder) old new (put_keeps path AFolder) c.make_folder.ensures.made c.make_folder.ensures.kept c.make_folder.ensures.failed)
          (c.has.ensures.not_open c.if-has.false) self.kept;
    }

pub returns-then-has-clause-there : goal.returns-then-has-clause-there
returns-then-has-clause-there g c =
    let self = c.args.self.now in
    not_free g.F.Folder.number (g.F.Folder.modelled self.folder) c.args.path.now self.files.files.items self.kept (c.has.ensures.open c.if-has.true)
