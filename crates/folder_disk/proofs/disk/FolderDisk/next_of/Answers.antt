use Rattle.folder_disk.proofs.Common.{Option, subst, History, IfTold, IsNext, ghosts, told_history}
use Rattle.folder_disk.proofs.KnownLemmas.{next_known}
use Rattle.folder_disk.proofs.NextLemmas.{next_past}
use Rattle.folder_disk.proofs.disk.FolderDisk.next_of.Goals as goal

pub returns-clause-past : goal.returns-clause-past
returns-clause-past g c = next_past c.in_ok-names.names c.args.after c.next_in-next.result c.next_in-next.ensures

pub returns-clause-next : goal.returns-clause-next
returns-clause-next g c =
    let self = c.known_names.new.self in
    let F : Option History → Type 0 = λ h. IfTold h (IsNext ghosts.cmp c.args.after c.next_in-next.result) in
    subst F c.ready.ensures.told (subst F c.known_names.ensures.told (next_known (told_history (g.F.Folder.modelled self.folder) self.record.changes) c.in_ok-names.names c.args.after c.next_in-next.result c.in_ok-names.ensures.are c.next_in-next.ensures))
