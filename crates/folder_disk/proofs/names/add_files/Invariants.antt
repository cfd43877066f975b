use Rattle.folder_disk.proofs.Common.{◌≡◌, string_bytes, ghosts, IfModelled, AddsFiles}
use Rattle.folder_disk.proofs.EachLemmas.{EachSoFar}
use Rattle.folder_disk.proofs.NamesLemmas.{HasFilesAt, NoPath}
use Rattle.folder_disk.proofs.names.add_files.Given as goal

abbrev pub invariant-loop-path : goal.invariant-loop-path
invariant-loop-path g l =
    IfModelled (g.F.Folder.modelled l.fn.folder) (λ s. AddsFiles ghosts.cmp NoPath s l.fn.names l.names)
    × EachSoFar (λ path. IfModelled (g.F.Folder.modelled l.fn.folder) (HasFilesAt (λ p. p ≡ string_bytes path) l.names)) l.path-items l.path-index
    × (g.F.Folder.modelled l.folder ≡ g.F.Folder.modelled l.fn.folder)
    × (g.F.Folder.past l.folder ≡ g.F.Folder.past l.fn.folder)
