use Rattle.folder_kept.proofs.KeptLemmas.{kept_through, lock_keeps}
use Rattle.folder_kept.proofs.kept.KeptFolderFolder.try_lock.Goals as goal

pub invariant_of-self : goal.invariant_of-self
invariant_of-self g c =
    let self = c.args.self.now in
    let old = g.F.Folder.modelled self.folder in
    let new = g.F.Folder.modelled c.try_lock.new.self in
    record { kept = kept_through g.F.Folder.number old new self.files.files.items (lock_keeps c.try_lock.result old new c.try_lock.ensures.locked c.try_lock.ensures.refused c.try_lock.ensures.failed) self.kept }
