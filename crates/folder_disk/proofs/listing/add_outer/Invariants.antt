use Rattle.folder_disk.proofs.Common.{◌≡◌, Contains, AFolder, IfModelled, folder_text, KeepsAll}
use Rattle.folder_disk.specs.declared.folder_name.FolderName.TheVariants as folder
use Rattle.folder_disk.proofs.EachLemmas.{EachSoFar}
use Rattle.folder_disk.proofs.listing.add_outer.Given as goal

abbrev pub invariant-loop-inner : goal.invariant-loop-inner
invariant-loop-inner g l =
    EachSoFar (λ second. IfModelled (g.F.Folder.modelled l.fn.folder) (λ s. s.node (folder_text (folder.Inner l.outer second)) ≡ AFolder → Contains l.names.items (folder.Inner l.outer second))) l.inner-items l.inner-index
    × KeepsAll l.initial.names.items l.names.items
    × (g.F.Folder.modelled l.folder ≡ g.F.Folder.modelled l.fn.folder)
    × (g.F.Folder.past l.folder ≡ g.F.Folder.past l.fn.folder)
