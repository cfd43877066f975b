use Rattle.folder_disk.proofs.Common.{◌≡◌, IfModelled, KeepsAll, HasFoldersOf}
use Rattle.folder_disk.proofs.EachLemmas.{EachSoFar}
use Rattle.folder_disk.proofs.listing.folders_there.Given as goal

abbrev pub invariant-loop-outer : goal.invariant-loop-outer
invariant-loop-outer g l =
    EachSoFar (λ first. IfModelled (g.F.Folder.modelled l.fn.folder) (λ s. HasFoldersOf s first l.names.items)) l.outer-items l.outer-index
    × KeepsAll l.initial.names.items l.names.items
    × (g.F.Folder.modelled l.folder ≡ g.F.Folder.modelled l.fn.folder)
    × (g.F.Folder.past l.folder ≡ g.F.Folder.past l.fn.folder)
