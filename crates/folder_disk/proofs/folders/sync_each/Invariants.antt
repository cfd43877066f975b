use Rattle.folder_disk.proofs.Common.{false, IfModelled, IsLocked, Becomes, KeepsNames, IsSoundSystem, folder_text, IsSyncedFolder, HasSameNodes, IsUnseen}
use Rattle.folder_disk.proofs.EachLemmas.{EachSoFar}
use Rattle.folder_disk.proofs.folders.sync_each.Given as goal

abbrev pub invariant-loop-name : goal.invariant-loop-name
invariant-loop-name g l =
    EachSoFar (λ name. IfModelled (g.F.Folder.modelled l.folder) (λ s. IsSyncedFolder s (folder_text name))) l.names l.name-index
    × Becomes HasSameNodes (g.F.Folder.modelled l.fn.folder) (g.F.Folder.modelled l.folder)
    × IsUnseen (g.F.Folder.modelled l.fn.folder) (g.F.Folder.past l.fn.folder) (g.F.Folder.modelled l.folder) (g.F.Folder.past l.folder) false
    × IsSoundSystem (g.F.Folder.modelled l.folder)
    × Becomes KeepsNames (g.F.Folder.modelled l.fn.folder) (g.F.Folder.modelled l.folder)
