use Rattle.folder_disk.proofs.Common.{false, IsUnseen}
use Rattle.folder_disk.proofs.lock.has_lock.Given as goal

abbrev pub invariant-loop : goal.invariant-loop
invariant-loop g l = IsUnseen (g.F.Folder.modelled l.fn.folder) (g.F.Folder.past l.fn.folder) (g.F.Folder.modelled l.folder) (g.F.Folder.past l.folder) false
