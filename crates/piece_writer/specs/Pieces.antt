-- What reaches an output when a text is gathered in pieces.
use Rattle.std.specs.Prelude.{◌≡◌, ℕ, List, [], ◌++◌, Option, ◌⊎◌}
use Rattle.mdbox_base.specs.Streams.{Appended, Rose}
use Rattle.piece_writer.specs.declared.error.PrintError.{PrintError}
use Rattle.piece_writer.specs.declared.error.PrintError.TheVariants as print

-- A prefix of the piece and the text after it was given to the output, and the rest is the piece now.
abbrev pub Gathers : Option (List ℕ) → List ℕ → List ℕ → Option (List ℕ) → List ℕ → Type 0
Gathers held piece text later rest = (given : List ℕ) × (piece ++ text ≡ given ++ rest) × Appended held given later

-- A prefix of the piece and the text after it was given to the output.
abbrev pub WritesPrefix : Option (List ℕ) → List ℕ → List ℕ → Option (List ℕ) → Type 0
WritesPrefix held piece text later = (given : List ℕ) × (rest : List ℕ) × (piece ++ text ≡ given ++ rest) × Appended held given later

-- A text was given to a sink, or a prefix of it and the sink's count of faults rose.
abbrev pub WritesOrFaults : Option (List ℕ) → ℕ → List ℕ → Option (List ℕ) → ℕ → Type 0
WritesOrFaults held faults text later later_faults = Appended held text later ⊎ (WritesPrefix held [] text later × Rose faults later_faults)

-- A write fault comes only if the output's count of faults rose, and out of memory only if it stayed.
abbrev pub IsPrintError : ℕ → ℕ → PrintError → Type 0
IsPrintError faults later print.NoMemory = later ≡ faults
IsPrintError faults later print.WriteFault = Rose faults later
