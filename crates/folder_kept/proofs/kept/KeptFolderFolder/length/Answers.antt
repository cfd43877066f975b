use Rattle.folder_kept.proofs.KeptLemmas.{kept_same}
use Rattle.folder_kept.proofs.kept.KeptFolderFolder.length.Goals as goal

pub invariant_of-self : goal.invariant_of-self
invariant_of-self g c =
    let self = c.args.self.now in
    record { kept = kept_same g.F.Folder.number (g.F.Folder.modelled self.folder) (g.F.Folder.modelled c.length.new.self) self.files.files.items c.length.ensures.same self.kept }
