-- How `batch` ends.
use Rattle.std.specs.Prelude.{◌≡◌, ◌≤◌, ◌<◌, ◌⊎◌, ℕ, List, [], ◌∷◌, length, map, Option, Some, IfSome}
use Rattle.disk_model.specs.Disk.{History, Faults, EachImage}
use Rattle.disk_model.specs.FaultCounts.{AnyFaultCounted, NoFault}
use Rattle.mdbox_base.specs.declared.replies.Reply.{Reply}
use Rattle.mdbox_base.specs.declared.script.JournalEntry.{JournalEntry}
use Rattle.mdbox_base.specs.declared.script.Script.{Script}
use Rattle.mdbox_base.specs.Streams.{Appended}
use Rattle.model_lists.specs.Lists.{Lists}
use Rattle.model_store.specs.Safe.{Safe}
use Rattle.model_store.specs.Settled.{IsSettledFor}
use Rattle.journal.specs.Journal.{Requests, left_by}
use Rattle.store_sweep.specs.Moments.{NoFailedChange}
use Rattle.piece_writer.specs.Pieces.{WritesPrefix}
use Rattle.request_text.specs.BatchText.{batch_text}
use Rattle.request_text.specs.Outcomes.{replies_outcome, status_of}
use Rattle.request_text.specs.declared.outcome.InputRefusal.{InputRefusal}
use Rattle.request_text.specs.declared.outcome.InputRefusal.TheVariants as refusal
use Rattle.request_text.specs.declared.outcome.Outcome.{Outcome}
use Rattle.request_text.specs.declared.outcome.Outcome.TheVariants as outcome
use Rattle.script_run.specs.Done.{IsScriptDone, MayBeServed}
use Rattle.script_run.specs.Script.{ServesScript}
use Rattle.script_run.specs.Worked.{IsWorkedOut}
use Rattle.script_text.specs.Flaws.{IsFlawOf}
use Rattle.script_text.specs.Script.{IsScript}
use Rattle.mdbox_top.specs.InputRun.{OfInput, IsOneOf}
use Rattle.mdbox_top.specs.Served.{IsNotOpened}

-- ---- the script

-- `batch` reads this script for so many lanes from this input, which has 256 MiB at the most.
abbrev pub ReadsScript : ℕ → List ℕ → Script → Type 0
ReadsScript lanes input script = (length input ≤ 268435456) × IsScript lanes input script

-- `batch` refuses this input: it is longer than 256 MiB, or goes wrong so.
abbrev pub RefusesScript : ℕ → List ℕ → InputRefusal → Type 0
RefusesScript lanes input (refusal.TooLong limit) = (limit ≡ 268435456) × (268435456 < length input)
RefusesScript lanes input (refusal.Script flaw) = (length input ≤ 268435456) × IsFlawOf lanes input flaw
RefusesScript lanes input (refusal.File why) = ⊥
RefusesScript lanes input (refusal.Log place) = ⊥

-- There is no script: the input is refused, there was no memory for it or for its messages, or the source failed.
abbrev pub HasNoScript : ℕ → Option (List ℕ) → Outcome → Type 0
HasNoScript lanes left (outcome.InputRefused why) = OfInput left (λ input. RefusesScript lanes input why)
HasNoScript lanes left outcome.NoMemory = Unit {0}
HasNoScript lanes left outcome.ReadFault = Unit {0}
HasNoScript lanes left other = ⊥

-- ---- how a script ends

-- How replies with this text are printed: whole; or a prefix of it, for a fault of the output or out of memory.
abbrev pub ShowsReplies : List ℕ → List (Option Reply) → Option (List ℕ) → Option (List ℕ) → Outcome → Type 0
ShowsReplies text replies held later outcome.WriteFault = WritesPrefix held [] text later
ShowsReplies text replies held later outcome.NoMemory = WritesPrefix held [] text later
ShowsReplies text replies held later ended = (ended ≡ replies_outcome replies) × Appended held text later

-- The store was opened and the script done. Each request has its reply, and the replies are printed in the script's order, each with
-- the places of its steps in the journal. Replies and journal are those that the lanes' world had at its end, which is said whatever the
-- disk, also where a message is damaged. It ends as a fault of the disk only if a call of it failed, and no call failed but where it may
-- have: so it is said of every script that reads no message, and of others if the disk was settled.
pub record IsBatchDone (D : Type 0) (script : Script) (held later : Option (List ℕ)) (old new : Option History) (began now : Faults) (ended : Outcome) : Type 0 where
  pub given : List Reply
  pub journal : List JournalEntry
  pub done : IsScriptDone script.requests given journal old new began now
  pub worked : IsWorkedOut D script.requests script.lanes (map Some given) journal old new began now
  pub printed : ShowsReplies (batch_text journal (map Some given)) (map Some given) held later ended
  pub fault : MayBeServed script.requests old → AnyFaultCounted (ended ≡ outcome.DiskFault) began now
  pub quiet : MayBeServed script.requests old → (IsOneOf (5 ∷ 6 ∷ 8 ∷ []) (status_of ended) → ⊥) → NoFault began now

-- The store was not opened; or it was, and then it ends so.
abbrev pub OpenedOutcome : (Outcome → Type 0) → Option (List ℕ) → Option (List ℕ) → Option History → Option History → Faults → Faults → Outcome → Type 0
OpenedOutcome Done held later old new began now ended = IsNotOpened held later old new began now ended ⊎ Done ended

-- So a script ends.
abbrev pub ScriptOutcome : Type 0 → Script → Option (List ℕ) → Option (List ℕ) → Option History → Option History → Faults → Faults → Outcome → Type 0
ScriptOutcome D script held later old new began now ended = OpenedOutcome (IsBatchDone D script held later old new began now) held later old new began now ended

-- From these lists the script was served, with some replies and some faults.
pub record WasServed (script : Requests) (lists : Lists) (old new : Option History) : Type 0 where
  pub given : List Reply
  pub entries : List JournalEntry
  pub began : Faults
  pub now : Faults
  pub opened : Option History
  pub served : ServesScript script lists given entries began now old opened new

-- A crash at any moment leaves of a disk that was settled for lists one that is safe for these; or the script was served from them, and
-- each image is safe for lists that its journal reaches (`crash` of `ServesScript`).
abbrev pub ScriptMoments : Requests → Option History → Option History → Type 0
ScriptMoments script old new = (lists : Lists) → IsSettledFor lists old → EachImage (λ _ image. Safe image lists) old new ⊎ WasServed script lists old new

-- If no change of the disk failed, a disk that was settled for lists is settled for these; or the script was served from them, and it
-- is settled for those that the journal leaves.
abbrev pub ScriptRests : Requests → Type 0 → Faults → Faults → Option History → Option History → Type 0
ScriptRests script failed began now old new = NoFailedChange failed began now → (lists : Lists) → IsSettledFor lists old
    → IsSettledFor lists new ⊎ ((was : WasServed script lists old new) × IsSettledFor (left_by lists was.served.journal) new)

-- ---- how `batch` ends

abbrev pub OfScript : ℕ → Option (List ℕ) → (Script → Type 0) → Type 0
OfScript lanes left holds = (script : Script) × OfInput left (λ input. ReadsScript lanes input script) × holds script

-- How `batch` ends: there is no script, nothing is printed, no call of the disk is made, and none failed; or as the script that the input is.
abbrev pub BatchOutcome : Type 0 → ℕ → Option (List ℕ) → Option (List ℕ) → Option (List ℕ) → Option History → Option History → Faults → Faults → Outcome → Type 0
BatchOutcome D lanes left held later old new began now ended =
    (HasNoScript lanes left ended × (later ≡ held) × (new ≡ old) × NoFault began now)
    ⊎ OfScript lanes left (λ script. ScriptOutcome D script held later old new began now ended)

-- What a crash at any moment may leave, and what `batch` leaves of the disk when it ends: no call of it was made, or as the script.
abbrev pub BatchMoments : ℕ → Option (List ℕ) → Option History → Option History → Type 0
BatchMoments lanes left old new = (new ≡ old) ⊎ OfScript lanes left (λ script. ScriptMoments script.requests old new)

abbrev pub BatchRests : ℕ → Option (List ℕ) → Type 0 → Faults → Faults → Option History → Option History → Type 0
BatchRests lanes left failed began now old new = (new ≡ old) ⊎ OfScript lanes left (λ script. ScriptRests script.requests failed began now old new)

-- Whatever script the input is, there are lists from which it may be served: if it reads a message, the disk was settled for them. Of such
-- a script it is said which calls of the disk failed.
abbrev pub TellsScriptFaults : ℕ → Option (List ℕ) → Option History → Type 0
TellsScriptFaults lanes left old = (script : Script) → OfInput left (λ input. ReadsScript lanes input script) → MayBeServed script.requests old

-- An input that is no script is refused, but for out of memory and faults of the source; with a script no file of a settled disk refuses
-- it.
abbrev pub BatchStatus : ℕ → Option (List ℕ) → Option History → ℕ → Type 0
BatchStatus lanes left old status = IfSome left (λ all. ((why : InputRefusal) → RefusesScript lanes all why → IsOneOf (4 ∷ 5 ∷ 7 ∷ []) status)
    × ((script : Script) → ReadsScript lanes all script → (lists : Lists) → IsSettledFor lists old → IsOneOf (0 ∷ 1 ∷ 5 ∷ 6 ∷ 7 ∷ 8 ∷ []) status))
