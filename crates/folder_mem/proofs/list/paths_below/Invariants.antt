use Rattle.std.proofs.Common.{◌≡◌, ℕ, ◌<◌, List, map, Contains, slice_get, Some, string_bytes, Global}
use Rattle.folder_model.specs.System.{StandsIn}
use Rattle.folder_mem.specs.declared.note.Change.{Change}
use Rattle.folder_mem.specs.Notes.{system_after}
use Rattle.folder_mem.specs.Listing.{path_made, AllStandIn}
use Rattle.folder_mem.proofs.list.paths_below.Given as goal

abbrev pub invariant-loop-change : goal.invariant-loop-change
invariant-loop-change l =
    let paths = map (string_bytes {Z = Global}) l.paths.items in
    let s = system_after l.changes in
    AllStandIn s l.folder paths
    × ((k : ℕ) (change : Change) (path : List ℕ) → k < l.change-index → slice_get l.changes k ≡ Some change → path_made change ≡ Some path → StandsIn s l.folder path → Contains paths path)
