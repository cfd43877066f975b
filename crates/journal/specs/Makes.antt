-- What a step of a task made, of every run that has come to where the store stood: neither the world nor its journal is
-- named.
use Rattle.std.specs.Prelude.{◌+◌, ◌≡◌, ◌⊎◌, AllPairs, ◌≤◌, ◌<◌, nat_lt, filter, slice_get, ◌∷◌, ℕ, List, [], length, Option, Some, None, All, is_some, true, Contains}
use Rattle.disk_model.specs.Disk.{Faults}
use Rattle.mdbox_base.specs.declared.entries.Highest.{Highest}
use Rattle.mdbox_base.specs.declared.requests.Request.{Request}
use Rattle.mdbox_base.specs.declared.replies.Refusal.TheVariants as refusal
use Rattle.mdbox_base.specs.declared.replies.Reply.{Reply}
use Rattle.model_lists.specs.Lists.{Lists}
use Rattle.model_meaning.specs.MapMeaning.{MapMeaning}
use Rattle.list_machine.specs.Run.{RunEvent, Run, before, and_then, map_of, drawn_of, reply_of}
use Rattle.list_machine.specs.Machine.{Answers}
use Rattle.journal.specs.Journal.{Requests, half_of, JournalStep, left_by, refusal_in, IsLegal, Broken, as_if, AreBroken, IsOfFailure}
use Rattle.journal.specs.Found.{AgreeWithRun}
use Rattle.journal.specs.Events.{Around, DidPart, IsEvent, IsNextEvent, makes_step}

-- A run has come to where a store stands: its entries mean the store's map, its numbers are those that the store has drawn,
-- and no event of it ended later than now, in device calls.
pub record HasCome (run : Run) (m : MapMeaning) (drawn : Highest) (calls : ℕ) : Type 0 where
  pub map_is : map_of run ≡ m
  pub drawn_is : drawn_of run ≡ drawn
  pub moments : All (λ e. e.moment ≤ calls) run.events

-- What an event did to the lists: a step answers as the machine does, and every other event changes none.
abbrev pub StepOf : Run → Request → Lists → RunEvent → Option Reply → Lists → Type 0
StepOf run request old event None new = new ≡ old
StepOf run request old event (Some answer) new = Answers run old request event answer new × (event.refused ≡ refusal_in answer)

-- What an event would have made whose append failed: the same part, which does what that part does, and the step that it
-- would have been. No part that makes a step reads what its event found.
pub record WouldMake (run : Run) (request : Request) (old : Lists) (event : RunEvent) : Type 0 where
  pub would : RunEvent
  pub lane_is : would.lane ≡ event.lane
  pub request_is : would.request ≡ event.request
  pub part_is : would.part ≡ event.part
  pub did : (around : Around) → would.refused ≡ None → DidPart around run old request would would.part
  pub answer : Reply
  pub left : Lists
  pub made : StepOf run request old would (Some answer) left

-- A step of a task was an event of its request, at this place of the script and of this lane: the lists after it, and that
-- the run with it has come to where the store stands now. The step ended its request with a reply, or didn't.
pub record Makes (around after : Around) (run : Run) (lane place : ℕ) (request : Request) (old new : Lists) (m : MapMeaning) (drawn : Highest) (calls : ℕ) (ended : Option Reply) : Type 0 where
  pub event : RunEvent
  pub lane_is : event.lane ≡ lane
  pub request_is : event.request ≡ place
  pub moment_is : event.moment ≡ calls
  pub ended_is : event.reply ≡ ended
  pub is_event : IsEvent around after run old request event
  pub answer : Option Reply
  pub is_told : is_some answer ≡ makes_step request event.part event.refused
  pub made : StepOf run request old event answer new
  pub come : HasCome (and_then run event) m drawn calls

-- the entry that the event adds to the journal, if it made a step
abbrev pub steps_made : Run → Request → RunEvent → Option Reply → Lists → List JournalStep
steps_made run request event None left = []
steps_made run request event (Some answer) left = record {
  lane = event.lane;
  request = event.request;
  half = half_of request event.part;
  event = length run.events;
  answer = answer;
  left = left;
} ∷ []

-- ---- a whole run

-- the lists as an event began: what the steps of the events before it left
abbrev pub lists_before : Lists → List JournalStep → ℕ → Lists
lists_before start journal n = left_by start (filter (λ step. nat_lt step.event n) journal)

-- Every event of the run was the next of its lane, on the lists as it began. What each found of files and instances stands
-- by the place of the event: before it, and as it ended.
abbrev pub AreNextEvents : (ℕ → Around) → (ℕ → Around) → Requests → Lists → Run → List JournalStep → Type 0
AreNextEvents around after script start run journal = (n : ℕ) (event : RunEvent) → slice_get run.events n ≡ Some event
    → IsNextEvent (around n) (after n) script (before n run) (lists_before start journal n) event

-- The replies are those that the events gave.
abbrev pub AreReplies : Requests → Run → List (Option Reply) → Type 0
AreReplies script run replies = (length replies ≡ length script) × ((i : ℕ) → i < length script → slice_get replies i ≡ Some (reply_of i run))

-- Every event that makes a step has its entry.
abbrev pub AreTold : Requests → Run → List JournalStep → Type 0
AreTold script run journal = (n : ℕ) (event : RunEvent) (asked : ℕ × Request) → slice_get run.events n ≡ Some event → slice_get script event.request ≡ Some asked
    → makes_step asked.1 event.part event.refused ≡ true → (step : JournalStep) × Contains journal step × (step.event ≡ n)

-- Every event looks first at whether the store is stopped. So once one was refused because it is, each later one is refused
-- so, or for lack of memory.
abbrev pub StaysStopped : List RunEvent → Type 0
StaysStopped events = AllPairs (λ a b. a.refused ≡ Some refusal.Stopped → (b.refused ≡ Some refusal.Stopped) ⊎ (b.refused ≡ Some refusal.NoMemory)) events

-- What a failed append would have done is what its parts do, one after another, on the lists that the journal left.
abbrev pub WouldDo : Requests → Lists → Run → List JournalStep → Broken → Type 0
WouldDo script start run journal broken = (n : ℕ) (event : RunEvent) (asked : ℕ × Request) (around : Around) → slice_get broken.events n ≡ Some event → slice_get script event.request ≡ Some asked → event.refused ≡ None
    → DidPart around (before (broken.place + n) (as_if run broken)) (lists_before (left_by start journal) broken.steps (broken.place + n)) asked.1 event event.part

-- A script was served from these lists: the run began with the first map and the numbers that it names, each event was the next of
-- its lane, what it found agrees with the run, and each step has its entry, the journal and the replies are legal, the broken steps
-- are what a failed append would have made, a store that is stopped stays so, and the run has come to this map, these numbers drawn
-- and so many device calls.
pub record IsServed (start : Lists) (script : Requests) (run : Run) (journal : List JournalStep) (broken : Broken) (replies : List (Option Reply)) (old new : Faults) (first m : MapMeaning) (drawn : Highest) (calls : ℕ) : Type 0 where
  pub around : ℕ → Around
  pub after : ℕ → Around
  pub begins : HasCome (before 0 run) first first.highest 0
  pub next : AreNextEvents around after script start run journal
  pub found : AgreeWithRun around script run
  pub told : AreTold script run journal
  pub given : AreReplies script run replies
  pub legal : IsLegal start script run journal replies old new
  pub broken_is : AreBroken run script start journal broken
  pub of_failure : IsOfFailure run broken
  pub would : WouldDo script start run journal broken
  pub stays_stopped : StaysStopped run.events
  pub come : HasCome run m drawn calls
