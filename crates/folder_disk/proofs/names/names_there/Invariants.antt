use Rattle.folder_disk.proofs.Common.{◌≡◌, string_bytes, ghosts, folder_at, IfModelled, folder_text, AddsFiles}
use Rattle.folder_disk.proofs.EachLemmas.{EachSoFar}
use Rattle.folder_disk.proofs.NamesLemmas.{HasFilesAt, NoPath}
use Rattle.folder_disk.proofs.names.names_there.Given as goal

abbrev pub invariant-loop-within : goal.invariant-loop-within
invariant-loop-within g l =
    IfModelled (g.F.Folder.modelled l.fn.folder) (λ s. AddsFiles ghosts.cmp NoPath s l.initial.names l.names)
    × EachSoFar (λ within. IfModelled (g.F.Folder.modelled l.fn.folder) (HasFilesAt (λ p. folder_at p ≡ folder_text within) l.names)) l.within-items l.within-index
    × (g.F.Folder.modelled l.folder ≡ g.F.Folder.modelled l.fn.folder)
    × (g.F.Folder.past l.folder ≡ g.F.Folder.past l.fn.folder)
