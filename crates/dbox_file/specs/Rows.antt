-- The lines of a block of metadata.
use Rattle.std.specs.Prelude.{◌≡◌, ◌≤◌, ℕ, List, [], ◌∷◌, ◌++◌, length, drop, flat_map}
use Rattle.std.specs.List.{AllByRecursion}
use Rattle.model_storage.specs.StorageFile.{Line, IsLine, line_text}

-- lines and an empty line, with so many octets at most
pub record IsRows (room : ℕ) (octets : List ℕ) (lines : List Line) : Type 0 where
  pub each : AllByRecursion IsLine lines
  pub spelled : octets ≡ flat_map line_text lines ++ 10 ∷ []
  pub short : length octets ≤ room

-- a line of this length stands at the front
abbrev pub HasLine : List ℕ → ℕ → Type 0
HasLine text length_of_line = (line : Line) × IsLine line × (text ≡ line_text line ++ drop length_of_line text) × (length (line_text line) ≡ length_of_line)
