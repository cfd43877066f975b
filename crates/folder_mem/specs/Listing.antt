-- Which paths a listing has.
use Rattle.std.specs.Prelude.{◌≡◌, ◌<◌, ℕ, List, length, slice_get, Option, Some, None, Contains, string_bytes}
use Rattle.folder_model.specs.System.{System, StandsIn}
use Rattle.folder_mem.specs.declared.note.Change.{Change}
use Rattle.folder_mem.specs.declared.note.Change.TheVariants.{MadeFile, MadeFolder}

-- the path at which a change made something
abbrev pub path_made : Change → Option (List ℕ)
path_made (MadeFile path) = Some (string_bytes path)
path_made (MadeFolder path) = Some (string_bytes path)
path_made _ = None

-- each of these stands in the folder
abbrev pub AllStandIn : System → List ℕ → List (List ℕ) → Type 0
AllStandIn s folder paths = (path : List ℕ) → Contains paths path → StandsIn s folder path

-- a change made something at this path
abbrev pub IsMadeAmong : List Change → List ℕ → Type 0
IsMadeAmong changes path = (k : ℕ) × (change : Change) × (k < length changes) × (slice_get changes k ≡ Some change) × (path_made change ≡ Some path)
