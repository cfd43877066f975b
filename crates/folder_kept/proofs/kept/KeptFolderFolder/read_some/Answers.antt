use Rattle.folder_kept.proofs.KeptLemmas.{kept_same}
use Rattle.folder_kept.proofs.kept.KeptFolderFolder.read_some.Goals as goal

pub invariant_of-self : goal.invariant_of-self
invariant_of-self g c =
    let self = c.args.self.now in
    record { kept = kept_same g.F.Folder.number (g.F.Folder.modelled self.folder) (g.F.Folder.modelled c.read_some.new.self) self.files.files.items c.read_some.ensures.same self.kept }
