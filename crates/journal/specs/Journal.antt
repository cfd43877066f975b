-- The journal of a run: which steps were made, in their order, and when it is legal.
use Rattle.std.specs.Prelude.{◌≡◌, ◌≢◌, ◌≤◌, ◌<◌, ◌+◌, ◌-◌, ◌^◌, ◌==◌, nat_le, min, ℕ, Bool, true, false, List, [], ◌∷◌, ◌++◌, length, map, filter, take, count_by, slice_get, if◌then◌else◌, Option, Some, None, AllPairs, ◌⊎◌, All, drop}
use Rattle.std.specs.Option.{option_map_or}
use Rattle.mdbox_base.specs.Streams.{Rose}
use Rattle.disk_model.specs.Disk.{Faults}
use Rattle.mdbox_base.specs.declared.script.Half.{Half}
use Rattle.mdbox_base.specs.declared.script.JournalEntry.{JournalEntry}
use Rattle.mdbox_base.specs.declared.script.Half.TheVariants.{Whole, CopyHalf, ExpungeHalf}
use Rattle.mdbox_base.specs.declared.requests.Request.{Request}
use Rattle.mdbox_base.specs.declared.requests.Request.TheVariants as request
use Rattle.mdbox_base.specs.declared.replies.Refusal.{Refusal}
use Rattle.mdbox_base.specs.declared.replies.Refusal.TheVariants as refusal
use Rattle.mdbox_base.specs.declared.replies.Reply.{Reply}
use Rattle.mdbox_base.specs.declared.replies.Reply.TheVariants as reply
use Rattle.model_lists.specs.Lists.{Lists}
use Rattle.list_machine.specs.Run.{EventPart, SecondHalf, RunEvent, Run, before}
use Rattle.list_machine.specs.Machine.{Answers}

-- A script: requests, each with its lane.
abbrev pub Requests : Type 0
Requests = List (ℕ × Request)

-- A move makes two steps, first its copy and then its expunge; every other request makes one.
abbrev pub half_of : Request → EventPart → Half
half_of (request.Move name uid target) SecondHalf = ExpungeHalf
half_of (request.Move name uid target) part = CopyHalf
half_of request part = Whole

abbrev pub halves_of : Request → List Half
halves_of (request.Move name uid target) = CopyHalf ∷ ExpungeHalf ∷ []
halves_of request = Whole ∷ []

-- An entry of the journal: a lane, a request, which half of it, the event that made the step (by its place in the run),
-- what the step answered, and the lists that it left.
pub record JournalStep : Type 0 where
  pub lane : ℕ
  pub request : ℕ
  pub half : Half
  pub event : ℕ
  pub answer : Reply
  pub left : Lists

-- the moment of a step: the number of device calls as its event ended
abbrev pub moment_of : Run → JournalStep → ℕ
moment_of run step = option_map_or (λ e. e.moment) (slice_get run.events step.event) 0

-- What a store keeps of a step: its moment is the number of device calls as the run began, and the calls of the entry. Both
-- numbers of calls stand still at the top of a u64.
pub record IsEntryOf (run : Run) (began : ℕ) (step : JournalStep) (entry : JournalEntry) : Type 0 where
  pub lane_is : entry.lane ≡ step.lane
  pub request_is : entry.request ≡ step.request
  pub half_is : entry.half ≡ step.half
  pub calls_are : entry.calls ≡ min (moment_of run step) (2 ^ 64 - 1) - min began (2 ^ 64 - 1)

-- each entry is that of its step
abbrev pub AreEntriesOf : Run → ℕ → List JournalStep → List JournalEntry → Type 0
AreEntriesOf run began [] [] = Unit {0}
AreEntriesOf run began (step ∷ steps) (entry ∷ entries) = IsEntryOf run began step entry × AreEntriesOf run began steps entries
AreEntriesOf run began steps entries = ⊥

-- the refusal that an answer is
abbrev pub refusal_in : Reply → Option Refusal
refusal_in (reply.Refused refusal) = Some refusal
refusal_in reply = None

-- An entry is a step on these lists: its request is that of its lane in the script, its event is one of the run and did
-- a part of that request, and what the machine answers at that event is what the entry says.
pub record IsStep (run : Run) (script : Requests) (old : Lists) (step : JournalStep) : Type 0 where
  pub asked : ℕ × Request
  pub request_is : slice_get script step.request ≡ Some asked
  pub lane_is : step.lane ≡ asked.0
  pub event : RunEvent
  pub event_is : slice_get run.events step.event ≡ Some event
  pub own_request : event.request ≡ step.request
  pub own_lane : event.lane ≡ step.lane
  pub half_is : step.half ≡ half_of asked.1 event.part
  pub says : event.refused ≡ refusal_in step.answer
  pub answers : Answers (before step.event run) old asked.1 event step.answer step.left

-- Each entry is a step on the lists that the entries before it left.
abbrev pub AreSteps : Run → Requests → Lists → List JournalStep → Type 0
AreSteps run script old [] = Unit {0}
AreSteps run script old (step ∷ steps) = IsStep run script old step × AreSteps run script step.left steps

-- the lists that entries leave, from those at the start, and those after the first so many entries
abbrev pub left_by : Lists → List JournalStep → Lists
left_by old [] = old
left_by old (step ∷ steps) = left_by step.left steps

abbrev pub lists_at : Lists → List JournalStep → ℕ → Lists
lists_at start journal p = left_by start (take p journal)

-- the steps of one request
abbrev pub steps_of : ℕ → List JournalStep → List JournalStep
steps_of request journal = filter (λ step. step.request == request) journal

-- the places of a request's steps in the journal, counted from this number
abbrev pub places_of : ℕ → ℕ → List JournalStep → List ℕ
places_of request n [] = []
places_of request n (step ∷ steps) = if step.request == request then n ∷ places_of request (n + 1) steps else places_of request (n + 1) steps

-- the list begins the other
abbrev pub IsFirstPart : {X : Type 0} → List X → List X → Type 0
IsFirstPart xs ys = (rest : _) × (xs ++ rest ≡ ys)

-- Entries stand in the order of their events, each of which makes one at most. A request's entries are its steps, each at
-- most once, a move's copy before its expunge. Entries of one lane stand in script order.
pub record StandInOrder (script : Requests) (journal : List JournalStep) : Type 0 where
  pub events : AllPairs (λ a b. a.event < b.event) journal
  pub halves : (i : ℕ) (asked : ℕ × Request) → slice_get script i ≡ Some asked → IsFirstPart (map (λ step. step.half) (steps_of i journal)) (halves_of asked.1)
  pub lanes : AllPairs (λ a b. a.lane ≡ b.lane → a.request ≤ b.request) journal

-- ---- replies

-- A request has all its steps, and this is what the last of them answered: two for a move whose copy was not refused, with
-- the UID of its copy, else one.
abbrev pub HasAllSteps : Request → List Reply → Reply → Type 0
HasAllSteps (request.Move name uid target) steps (reply.Refused refusal) = steps ≡ reply.Refused refusal ∷ []
HasAllSteps (request.Move name uid target) steps (reply.Moved copied gone) = steps ≡ reply.Copied copied ∷ reply.Moved copied gone ∷ []
HasAllSteps (request.Move name uid target) steps last = ⊥
HasAllSteps request steps last = steps ≡ last ∷ []

-- What a request replies, whose steps answered this: lack of memory has no step, damage has that of the fetch, after a
-- fault there are the first steps, none or some; every other reply is that of the last step, and none is missing.
abbrev pub IsReplyOf : Request → List Reply → Reply → Type 0
IsReplyOf request steps (reply.Refused refusal.NoMemory) = steps ≡ []
IsReplyOf request steps (reply.Refused refusal.ReadFault) = Unit {0}
IsReplyOf request steps (reply.Refused refusal.Stopped) = Unit {0}
IsReplyOf (request.Fetch name uid) steps (reply.Refused (refusal.Damaged file offset)) = (octets : List ℕ) × (steps ≡ reply.Fetched octets ∷ [])
IsReplyOf request steps (reply.Refused (refusal.Damaged file offset)) = ⊥
IsReplyOf request steps last = HasAllSteps request steps last

-- the reply of a request, where it has one
abbrev pub HasReply : List (Option Reply) → ℕ → Reply → Type 0
HasReply replies i given = slice_get replies i ≡ Some (Some given)

abbrev pub AreReplied : Requests → List JournalStep → List (Option Reply) → Type 0
AreReplied script journal replies = (i : ℕ) (asked : ℕ × Request) (given : Reply) → slice_get script i ≡ Some asked → HasReply replies i given
    → IsReplyOf asked.1 (map (λ step. step.answer) (steps_of i journal)) given

-- ---- faults

abbrev pub is_read_fault : Option Reply → Bool
is_read_fault (Some (reply.Refused refusal.ReadFault)) = true
is_read_fault reply = false

-- a count rose by so many at least, or stands at the top of a u64
abbrev pub RoseBy : ℕ → ℕ → ℕ → Type 0
RoseBy many old new = min (old + many) (2 ^ 64 - 1) ≤ new

-- these steps were made before this event
abbrev pub AreBefore : List JournalStep → ℕ → Type 0
AreBefore [] n = Unit {0}
AreBefore (step ∷ steps) n = (step.event < n) × AreBefore steps n

-- a request lacks a step, or has an event behind its last one
abbrev pub LacksOrGoesOn : Run → Requests → List JournalStep → ℕ → Type 0
LacksOrGoesOn run script journal i =
    ((asked : ℕ × Request) × (slice_get script i ≡ Some asked) × (length (steps_of i journal) < length (halves_of asked.1)))
    ⊎ ((n : ℕ) × (event : RunEvent) × (slice_get run.events n ≡ Some event) × (event.request ≡ i) × AreBefore (steps_of i journal) n)

-- a later request of the lane that can't go on: it has no step, and no reply but for lack of memory or the fault
abbrev pub IsHalted : List JournalStep → List (Option Reply) → ℕ → Type 0
IsHalted journal replies i = (steps_of i journal ≡ []) × ((given : Reply) → HasReply replies i given → (given ≡ reply.Refused refusal.NoMemory) ⊎ (given ≡ reply.Refused refusal.Stopped))

-- The replies of read faults are at most as many as reads failed. One of a stopped store comes only if a change failed,
-- to a request that lacks a step or has events behind its last one, and then no later request of its lane has a step.
pub record HaveCauses (run : Run) (script : Requests) (journal : List JournalStep) (replies : List (Option Reply)) (old new : Faults) : Type 0 where
  pub reads : RoseBy (count_by is_read_fault replies) old.reads new.reads
  pub changes : (i : ℕ) → HasReply replies i (reply.Refused refusal.Stopped) → Rose old.changes new.changes
  pub unfinished : (i : ℕ) → HasReply replies i (reply.Refused refusal.Stopped) → LacksOrGoesOn run script journal i
  pub later : (i j : ℕ) (first second : ℕ × Request) → HasReply replies i (reply.Refused refusal.Stopped) → i < j → slice_get script i ≡ Some first → slice_get script j ≡ Some second → first.0 ≡ second.0
      → IsHalted journal replies j

-- ---- legal

-- The journal and the replies so far are legal from these lists, for the script and the run, in which the counts of faults
-- rose from the old ones to the new.
pub record IsLegal (start : Lists) (script : Requests) (run : Run) (journal : List JournalStep) (replies : List (Option Reply)) (old new : Faults) : Type 0 where
  pub moments : AllPairs (λ a b. a.moment ≤ b.moment) run.events
  pub steps : AreSteps run script start journal
  pub order : StandInOrder script journal
  pub replied : AreReplied script journal replies
  pub causes : HaveCauses run script journal replies old new

-- ---- a crash

-- What a failed append would have done: its events as they would have been, from this place of the run on, the number of
-- device calls at which it began, and the steps that they would have made. Where no append failed, there are none.
pub record Broken : Type 0 where
  pub place : ℕ
  pub events : List RunEvent
  pub began : ℕ
  pub steps : List JournalStep

abbrev pub no_broken : Broken
no_broken = record { place = 0; events = []; began = 0; steps = [] }

-- the run as it would have been
abbrev pub as_if : Run → Broken → Run
as_if run broken = record run { events = take broken.place run.events ++ broken.events }

-- The broken steps are steps on what the journal left, of the run as it would have been.
abbrev pub AreBroken : Run → Requests → Lists → List JournalStep → Broken → Type 0
AreBroken run script start journal broken = AreSteps (as_if run broken) script (left_by start journal) broken.steps

-- These events would have been those that a stopped store refused: each of the same request and part.
abbrev pub WouldHaveBeen : List RunEvent → List RunEvent → Type 0
WouldHaveBeen failed [] = Unit {0}
WouldHaveBeen [] (would ∷ rest) = ⊥
WouldHaveBeen (event ∷ failed) (would ∷ rest) =
    (event.refused ≡ Some refusal.Stopped) × (would.lane ≡ event.lane) × (would.request ≡ event.request) × (would.part ≡ event.part) × WouldHaveBeen failed rest

-- The broken steps are those of the append that failed, which is the one that stopped the store: no event before it was
-- refused so, and it is of one event. They stand behind the events before it, each event makes one at most, and it began no
-- earlier than those ended.
pub record IsOfFailure (run : Run) (broken : Broken) : Type 0 where
  pub first : All (λ event. event.refused ≢ Some refusal.Stopped) (take broken.place run.events)
  pub events : WouldHaveBeen (drop broken.place run.events) broken.events
  pub one : length broken.events ≤ 1
  pub steps : All (λ step. broken.place ≤ step.event) broken.steps
  pub once : AllPairs (λ a b. a.event < b.event) broken.steps
  pub began : All (λ event. event.moment ≤ broken.began) (take broken.place run.events)

-- how many entries are acknowledged at this moment
abbrev pub acked : Run → List JournalStep → ℕ → ℕ
acked run journal m = count_by (λ step. nat_le (moment_of run step) m) journal

-- A crash at this moment may leave these lists: those after the first entries, every acknowledged one among them, or those
-- after all entries and the broken steps, where the failed append had begun.
abbrev pub Reached : Lists → Run → List JournalStep → Broken → ℕ → Lists → Type 0
Reached start run journal broken m lists =
    ((p : ℕ) × (acked run journal m ≤ p) × (lists ≡ lists_at start journal p)) ⊎ ((broken.began ≤ m) × (lists ≡ left_by (left_by start journal) broken.steps))
