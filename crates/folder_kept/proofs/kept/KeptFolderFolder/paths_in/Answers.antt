use Rattle.folder_kept.proofs.KeptLemmas.{kept_same}
use Rattle.folder_kept.proofs.kept.KeptFolderFolder.paths_in.Goals as goal

pub invariant_of-self : goal.invariant_of-self
invariant_of-self g c =
    let self = c.args.self.now in
    record { kept = kept_same g.F.Folder.number (g.F.Folder.modelled self.folder) (g.F.Folder.modelled c.paths_in.new.self) self.files.files.items c.paths_in.ensures.same self.kept }
