-- What the events since the beginning have made of a store.
use Rattle.journal.specs.Events.{is_faulted, Around}
use Rattle.std.specs.Prelude.{◌≡◌, ◌≢◌, ◌≤◌, ◌<◌, ◌+◌, ℕ, count_by, Bool, true, false, List, [], All, Option, Some, None, length, slice_get, take}
use Rattle.std.specs.List.{list_any}
use Rattle.disk_model.specs.Disk.{Files, DiskState, History, EachImage, IfTold, state_at}
use Rattle.store_core.specs.StoreInstances.{AreInstancesFirm}
use Rattle.mdbox_base.specs.Streams.{Rose}
use Rattle.mdbox_base.specs.declared.entries.MapEntry.{MapEntry}
use Rattle.mdbox_base.specs.declared.entries.MapEntry.TheVariants as map_entry
use Rattle.mdbox_base.specs.declared.progress.Did.{Did}
use Rattle.mdbox_base.specs.declared.progress.Did.TheVariants as did
use Rattle.mdbox_base.specs.declared.requests.Request.{Request}
use Rattle.mdbox_base.specs.declared.replies.Refusal.TheVariants as refusal
use Rattle.mdbox_base.specs.declared.replies.Reply.{Reply}
use Rattle.mdbox_base.specs.declared.replies.Reply.TheVariants as reply
use Rattle.model_kept.specs.Kept.{MailIsKept}
use Rattle.model_lists.specs.Lists.{Lists}
use Rattle.list_machine.specs.Run.{RunEvent, Run, before}
use Rattle.journal.specs.Journal.{Requests, JournalStep, left_by, IsLegal, Broken, no_broken, AreBroken, IsOfFailure, Reached, HasReply, RoseBy, steps_of}
use Rattle.journal.specs.Found.{AgreeWithRun}
use Rattle.journal.specs.GoesOn.{broken_by}
use Rattle.journal.specs.Makes.{HasCome, AreNextEvents, lists_before}
use Rattle.model_store.specs.Safe.{Safe}
use Rattle.model_store.specs.Settled.{IsSettled, IsSettledFor}
use Rattle.task_steps.specs.Step.{Seen, ShowsSeen, HasComeTo}

-- At this moment the image is safe for lists that a crash may leave.
abbrev pub IsReached : Lists → Run → List JournalStep → Broken → ℕ → Files → Type 0
IsReached start run journal broken m image = (lists : Lists) × Reached start run journal broken m lists × Safe image lists

-- no event was refused by a stopped store
abbrev pub NoneStopped : List RunEvent → Type 0
NoneStopped events = All (λ event. event.refused ≢ Some refusal.Stopped) events

-- an entry of the map log that moves records to another storage file, or drops them
abbrev pub moves_records : MapEntry → Bool
moves_records (map_entry.P file target moved dropped) = true
moves_records entry = false

-- no event appended one
abbrev pub NoneMoved : List RunEvent → Type 0
NoneMoved events = All (λ event. list_any moves_records event.map_entries ≡ false) events

-- the disk was in this state after so many calls
abbrev pub WasAt : Option History → ℕ → DiskState → Type 0
WasAt None calls state = ⊥
WasAt (Some history) calls state = state_at history calls ≡ Some state

-- The moment of an event is that at which the disk came to what its step left: then the disk was settled for the lists of the
-- steps up to it, unless the store had stopped. Of events of one moment this is said of the last.
abbrev pub IsLastThen : Run → ℕ → RunEvent → Type 0
IsLastThen run n event = (k : ℕ) (later : RunEvent) → n < k → slice_get run.events k ≡ Some later → later.moment ≢ event.moment

abbrev pub AreTimely : Lists → Run → List JournalStep → Option History → Type 0
AreTimely start run journal history = (n : ℕ) (event : RunEvent) (state : DiskState) → slice_get run.events n ≡ Some event → IsLastThen run n event
    → NoneStopped (take (n + 1) run.events) → WasAt history event.moment state → IsSettled state (lists_before start journal (n + 1))

-- A run of events, from these lists and from a store as it was seen then: the run began with the
-- map and the numbers drawn of that store, the journal and the replies are legal, the run has
-- come to the store, which shows what the journal left; a store that is stopped replied so, and no other. Of a disk that was
-- settled at the start each image since is safe for lists that are reached, and at the moment of each event before the store
-- stopped it was settled for what the steps up to it left; unless the store is stopped, no step is broken, no event was refused
-- as by one that is, the disk is settled for the present lists, and a record that is made may name each known instance. Broken steps are those of the append that stopped the store.
-- Until an event moves or drops records, storage files and instances have at each moment what the map needed at the start, of a
-- damaged store too.
pub record Serves (start : Lists) (script : Requests) (run : Run) (journal : List JournalStep) (broken : Broken) (replies : List (Option Reply)) (began now : Seen) : Type 0 where
  pub legal : IsLegal start script run journal replies began.faults now.faults
  pub begins : HasCome (before 0 run) began.map began.drawn 0
  pub come : HasComeTo run now
  pub shown : ShowsSeen now (left_by start journal)
  pub within : broken.place ≤ length run.events
  pub broken_is : AreBroken run script start journal broken
  pub of_failure : IsOfFailure run broken
  pub crash : IsSettledFor start began.history → EachImage (IsReached start run journal broken) began.history now.history
  pub timely : IsSettledFor start began.history → AreTimely start run journal now.history
  pub unbroken : now.stopped ≡ false → broken ≡ no_broken
  pub stopped_by : now.stopped ≡ true → NoneStopped run.events → ⊥
  pub unrefused : now.stopped ≡ false → NoneStopped run.events
  pub settled : now.stopped ≡ false → IsSettledFor start began.history → IsSettledFor (left_by start journal) now.history
  pub firm : now.stopped ≡ false → IsSettledFor start began.history → IfTold now.history (AreInstancesFirm now.known now.map)
  pub mail : NoneMoved run.events → MailIsKept began.map began.history now.history
  pub reads : RoseBy (count_by is_faulted run.events) began.faults.reads now.faults.reads
  pub changes : began.faults.changes ≤ now.faults.changes
  pub fell : now.stopped ≡ true → Rose began.faults.changes now.faults.changes
  pub halted : (i : ℕ) → HasReply replies i (reply.Refused refusal.Stopped) → now.stopped ≡ true

-- It is a request's turn: the request is the script's at this place, of this lane, and isn't answered; no step of the lane is
-- of a later request, and those have no reply.
pub record IsTurn (script : Requests) (journal : List JournalStep) (replies : List (Option Reply)) (lane place : ℕ) (request : Request) : Type 0 where
  pub asked : slice_get script place ≡ Some (lane, request)
  pub unanswered : slice_get replies place ≡ Some None
  pub first : All (λ s. s.lane ≡ lane → s.request ≤ place) journal
  pub later : (j : ℕ) (q : ℕ × Request) → place < j → slice_get script j ≡ Some q → q.0 ≡ lane → (steps_of j journal ≡ []) × (slice_get replies j ≡ Some None)

-- Each event was the next of its lane, and what it saw of files and instances agrees with the run.
pub record Follows (start : Lists) (script : Requests) (run : Run) (journal : List JournalStep) : Type 0 where
  pub around : ℕ → Around
  pub after : ℕ → Around
  pub next : AreNextEvents around after script start run journal
  pub found : AgreeWithRun around script run

-- Which steps are broken after an event: those that it would have made, if its append failed, which began as the event did; else
-- those that were.
abbrev pub BreaksBy : Did → Run → RunEvent → ℕ → Broken → Broken → Type 0
BreaksBy (did.Broken half) run event began old next = (would : RunEvent) × (step : JournalStep) × (next ≡ broken_by run would began step) × (step.lane ≡ event.lane) × (step.request ≡ event.request) × (step.half ≡ half)
BreaksBy other run event began old next = next ≡ old
