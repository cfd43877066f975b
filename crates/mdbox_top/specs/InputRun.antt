-- How the commands end that read standard input, or nothing at all.
use Rattle.std.specs.Prelude.{◌≡◌, ◌≤◌, ◌<◌, ℕ, List, [], ◌∷◌, length, Option, None, IfSome, ◌⊎◌, Result, Ok, Err}
use Rattle.mdbox_base.specs.Streams.{Appended}
use Rattle.model_logs.specs.declared.log_head.LogHead.{LogHead}
use Rattle.model_logs.specs.LogFile.{IsLog, IsDamagedAt}
use Rattle.model_storage.specs.declared.places.ScanError.{ScanError}
use Rattle.model_storage.specs.declared.places.ScanError.TheVariants as scan
use Rattle.model_storage.specs.StorageFile.{IsRefused}
use Rattle.piece_writer.specs.Pieces.{WritesPrefix}
use Rattle.piece_writer.specs.declared.error.PrintError.{PrintError}
use Rattle.piece_writer.specs.declared.error.PrintError.TheVariants as print
use Rattle.dump_text.specs.DumpText.{IsDumpOf}
use Rattle.dump_text.specs.LogDumpText.{log_dump_text}
use Rattle.request_text.specs.declared.outcome.FileRefusal.{FileRefusal}
use Rattle.request_text.specs.declared.outcome.FileRefusal.TheVariants as file
use Rattle.request_text.specs.declared.outcome.InputRefusal.{InputRefusal}
use Rattle.request_text.specs.declared.outcome.InputRefusal.TheVariants as refusal
use Rattle.request_text.specs.declared.outcome.Outcome.{Outcome}
use Rattle.request_text.specs.declared.outcome.Outcome.TheVariants as outcome

-- a refusal of a storage file, as its scan answers it
abbrev pub scan_error : FileRefusal → ScanError
scan_error file.BadHeader = scan.BadHeader
scan_error (file.HeaderSize size) = scan.HeaderSize size
scan_error (file.Truncated offset) = scan.Truncated offset
scan_error (file.BadMessage offset) = scan.BadMessage offset

-- what a scan answers, as the end of a run
abbrev pub scan_outcome : ScanError → Outcome
scan_outcome scan.BadHeader = outcome.InputRefused (refusal.File file.BadHeader)
scan_outcome (scan.HeaderSize size) = outcome.InputRefused (refusal.File (file.HeaderSize size))
scan_outcome (scan.Truncated offset) = outcome.InputRefused (refusal.File (file.Truncated offset))
scan_outcome (scan.BadMessage offset) = outcome.InputRefused (refusal.File (file.BadMessage offset))
scan_outcome scan.NoMemory = outcome.NoMemory

-- what a printing answers, as the end of a run
abbrev pub printed_outcome : Result (Unit {0}) PrintError → Outcome
printed_outcome (Ok done) = outcome.Done
printed_outcome (Err print.NoMemory) = outcome.NoMemory
printed_outcome (Err print.WriteFault) = outcome.WriteFault

-- `dump` prints this text of this input, a storage file of at most 256 MiB.
abbrev pub DumpPrints : List ℕ → List ℕ → Type 0
DumpPrints input text = (length input ≤ 268435456) × IsDumpOf input text

-- `dump` refuses this input: it is longer than 256 MiB, or no storage file.
abbrev pub DumpRefuses : List ℕ → InputRefusal → Type 0
DumpRefuses input (refusal.TooLong limit) = (limit ≡ 268435456) × (268435456 < length input)
DumpRefuses input (refusal.File why) = (length input ≤ 268435456) × IsRefused input (scan_error why)
DumpRefuses input (refusal.Log place) = ⊥
DumpRefuses input (refusal.Script flaw) = ⊥

-- `logdump` prints this text of this input, a log of at most 256 MiB.
abbrev pub LogDumpPrints : List ℕ → List ℕ → Type 0
LogDumpPrints input text = (length input ≤ 268435456) × ((head : LogHead) × (entries : List (List ℕ)) × IsLog input head entries × (text ≡ log_dump_text head entries))

-- `logdump` refuses this input: it is longer than 256 MiB, or damaged as a log.
abbrev pub LogDumpRefuses : List ℕ → InputRefusal → Type 0
LogDumpRefuses input (refusal.TooLong limit) = (limit ≡ 268435456) × (268435456 < length input)
LogDumpRefuses input (refusal.Log place) = (length input ≤ 268435456) × IsDamagedAt None input place
LogDumpRefuses input (refusal.File why) = ⊥
LogDumpRefuses input (refusal.Script flaw) = ⊥

-- If the source is modelled, what was left is this input, of which the fact holds.
abbrev pub OfInput : Option (List ℕ) → (List ℕ → Type 0) → Type 0
OfInput left holds = (input : List ℕ) × IfSome left (λ all. all ≡ input) × holds input

-- a prefix of the text was printed
abbrev pub PrintsPrefix : (List ℕ → List ℕ → Type 0) → Option (List ℕ) → Option (List ℕ) → Option (List ℕ) → Type 0
PrintsPrefix Prints left held later = (text : List ℕ) × OfInput left (λ input. Prints input text) × WritesPrefix held [] text later

-- How a command ends that prints texts of its input and refuses others: this was left of the input, and the output held
-- this before and holds that now.
abbrev pub InputOutcome : (List ℕ → List ℕ → Type 0) → (List ℕ → InputRefusal → Type 0) → Option (List ℕ) → Option (List ℕ) → Option (List ℕ) → Outcome → Type 0
InputOutcome Prints Refuses left held later outcome.Done = (text : List ℕ) × OfInput left (λ input. Prints input text) × Appended held text later
InputOutcome Prints Refuses left held later (outcome.InputRefused why) = OfInput left (λ input. Refuses input why) × (later ≡ held)
InputOutcome Prints Refuses left held later outcome.NoMemory = (later ≡ held) ⊎ PrintsPrefix Prints left held later
InputOutcome Prints Refuses left held later outcome.ReadFault = later ≡ held
InputOutcome Prints Refuses left held later outcome.WriteFault = PrintsPrefix Prints left held later
InputOutcome Prints Refuses left held later other = ⊥

-- How the printing of a text ends.
abbrev pub ShowsText : List ℕ → Option (List ℕ) → Option (List ℕ) → Outcome → Type 0
ShowsText text held later outcome.Done = Appended held text later
ShowsText text held later outcome.WriteFault = WritesPrefix held [] text later
ShowsText text held later other = ⊥

-- a number is one of these
abbrev pub IsOneOf : List ℕ → ℕ → Type 0
IsOneOf [] n = ⊥
IsOneOf (m ∷ rest) n = (n ≡ m) ⊎ IsOneOf rest n

-- A refused input is answered as such, but for out of memory and a read fault; one in the grammar is printed, but for these
-- and a write fault.
abbrev pub InputStatus : (List ℕ → List ℕ → Type 0) → (List ℕ → InputRefusal → Type 0) → Option (List ℕ) → ℕ → Type 0
InputStatus Prints Refuses left status = IfSome left (λ all. ((why : InputRefusal) → Refuses all why → IsOneOf (4 ∷ 5 ∷ 7 ∷ []) status)
    × ((text : List ℕ) → Prints all text → IsOneOf (0 ∷ 5 ∷ 7 ∷ 8 ∷ []) status))
