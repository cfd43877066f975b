-- One request at a time, taken from a source.
use Rattle.std.specs.Prelude.{◌≡◌, ◌≤◌, ◌<◌, ◌⊎◌, ℕ, List, [], ◌∷◌, ◌++◌, length, IsTrue, IfSome, Option, Some, None, nat_eq}
use Rattle.std.specs.List.{count_by, list_all}
use Rattle.mdbox_base.specs.Numbers.{decimal_text}
use Rattle.mdbox_base.specs.Streams.{IsAtEnd, Rose, Taken}
use Rattle.mdbox_base.specs.Words.{is_other_than}
use Rattle.mdbox_base.specs.declared.requests.Request.{Request}
use Rattle.script_text.specs.Flaws.{IsNeeded}
use Rattle.script_text.specs.Script.{BeginsNoRequest, FitsLanes, request_text, request_words, spaced}
use Rattle.script_text.specs.declared.take.Extent.{Extent}
use Rattle.script_text.specs.declared.error.TakeError.{TakeError}
use Rattle.script_text.specs.declared.error.TakeError.TheVariants as take_error

-- If the source is modelled, this was left of it, of which the fact holds.
abbrev pub OfSource : Option (List ℕ) → (List ℕ → Type 0) → Type 0
OfSource left holds = (octets : List ℕ) × IfSome left (λ all. all ≡ octets) × holds octets

-- how far a text goes: its octets, and those of them that are LF
abbrev pub extent : List ℕ → Extent
extent text = record { octets = length text; lines = count_by (λ octet. nat_eq octet 10) text }

-- The request that stood in front of a source was taken, no more of it, and it goes so far; or the source was at its end.
abbrev pub IsTakenFront : ℕ → Option (List ℕ) → Option (List ℕ) → Option ((ℕ × Request) × Extent) → Type 0
IsTakenFront lanes old new (Some (asked, size)) = FitsLanes lanes asked × Taken old (request_text asked) new × (size ≡ extent (request_text asked))
IsTakenFront lanes old new None = IsAtEnd old × (new ≡ old)

-- Why none was taken: more is left of the source, and no request stands there, of which this is missing; it failed; or out of memory.
abbrev pub IsUntaken : ℕ → Option (List ℕ) → ℕ → ℕ → TakeError → Type 0
IsUntaken lanes old faults later (take_error.Bad need) = OfSource old (λ all. (0 < length all) × BeginsNoRequest lanes all × IsNeeded lanes all need) × (later ≡ faults)
IsUntaken lanes old faults later take_error.Fault = Rose faults later
IsUntaken lanes old faults later take_error.NoMemory = later ≡ faults

-- ---- the parts of a request

-- the line of a request, without its LF
abbrev pub request_line : ℕ × Request → List ℕ
request_line asked = spaced (decimal_text asked.0 ∷ request_words asked.1)

-- no LF stands there
abbrev pub HasNoLf : List ℕ → Type 0
HasNoLf text = IsTrue (list_all (is_other_than 10) text)

-- What was taken is a line and its LF; or all that was left of the source, or more than 4,096 octets, without an LF.
abbrev pub IsLineTaken : List ℕ → Option (List ℕ) → Type 0
IsLineTaken text left = ((line : List ℕ) × (text ≡ line ++ 10 ∷ []) × HasNoLf line) ⊎ (HasNoLf text × (IsAtEnd left ⊎ (4096 < length text)))

-- So many octets were added to a text from a source, or fewer, all that were left of it.
abbrev pub TakesUpTo : ℕ → List ℕ → List ℕ → Option (List ℕ) → Option (List ℕ) → Type 0
TakesUpTo count before text old new = (octets : List ℕ) × (text ≡ before ++ octets) × Taken old octets new × (length octets ≤ count) × ((length octets ≡ count) ⊎ IsAtEnd new)

-- Why octets were not taken: the source failed, or out of memory.
abbrev pub IsTakeError : ℕ → ℕ → TakeError → Type 0
IsTakeError faults later (take_error.Bad need) = ⊥
IsTakeError faults later take_error.Fault = Rose faults later
IsTakeError faults later take_error.NoMemory = later ≡ faults
