-- How `serve` ends.
use Rattle.std.specs.Prelude.{◌≡◌, ◌++◌, ◌∷◌, ℕ, List, [], Option}
use Rattle.disk_model.specs.Disk.{Faults, History}
use Rattle.model_lists.specs.Lists.{Lists}
use Rattle.model_store.specs.Settled.{IsSettledFor}
use Rattle.journal.specs.Journal.{Requests}
use Rattle.request_text.specs.declared.outcome.Outcome.{Outcome}
use Rattle.script_run.specs.Done.{MayBeServed}
use Rattle.script_text.specs.Script.{script_text}
use Rattle.session.specs.Session.{IsSessionDone}
use Rattle.mdbox_top.specs.BatchRun.{OpenedOutcome, ScriptMoments, ScriptRests}
use Rattle.mdbox_top.specs.InputRun.{IsOneOf, OfInput}

-- The requests of this script stand in front of the input.
abbrev pub ReadsFirst : Requests → List ℕ → Type 0
ReadsFirst script input = (rest : List ℕ) × (input ≡ script_text script ++ rest)

abbrev pub OfRequests : Option (List ℕ) → (Requests → Type 0) → Type 0
OfRequests left holds = (script : Requests) × OfInput left (ReadsFirst script) × holds script

-- The store was opened, and the session ended so, which left something of the input.
abbrev pub IsServeDone : Option (List ℕ) → Option (List ℕ) → Option (List ℕ) → Option History → Option History → Faults → Faults → Outcome → Type 0
IsServeDone left held later old new began now ended = (after : Option (List ℕ)) × OfInput left (λ input. IsSessionDone input after held later old new began now ended)

-- How `serve` ends: the store was not opened, and nothing was printed; or so the session ended.
abbrev pub ServeOutcome : Option (List ℕ) → Option (List ℕ) → Option (List ℕ) → Option History → Option History → Faults → Faults → Outcome → Type 0
ServeOutcome left held later old new began now ended = OpenedOutcome (IsServeDone left held later old new began now) held later old new began now ended

-- What a crash at any moment may leave, and what `serve` leaves of the disk when it ends: as a script of requests that stand in front of the
-- input.
abbrev pub ServeMoments : Option (List ℕ) → Option History → Option History → Type 0
ServeMoments left old new = OfRequests left (λ script. ScriptMoments script old new)

abbrev pub ServeRests : Option (List ℕ) → Type 0 → Faults → Faults → Option History → Option History → Type 0
ServeRests left failed began now old new = OfRequests left (λ script. ScriptRests script failed began now old new)

-- Whatever requests stand in front of the input, there are lists from which they may be served. Then it is said which calls of the disk
-- failed.
abbrev pub TellsServeFaults : Option (List ℕ) → Option History → Type 0
TellsServeFaults left old = (script : Requests) → OfInput left (ReadsFirst script) → MayBeServed script old

-- a fault of the disk may come before each of these ends; a session that ended as no more than refused had none
abbrev pub MayEndFailed : ℕ → Type 0
MayEndFailed status = IsOneOf (0 ∷ 4 ∷ 5 ∷ 6 ∷ 7 ∷ 8 ∷ []) status

-- No file of a settled disk refuses it.
abbrev pub ServeStatus : Option History → ℕ → Type 0
ServeStatus old status = (lists : Lists) → IsSettledFor lists old → IsOneOf (0 ∷ 1 ∷ 4 ∷ 5 ∷ 6 ∷ 7 ∷ 8 ∷ []) status
