-- A world: lanes that serve a script over one store, with what is kept of their events.
use Rattle.std.specs.Prelude.{◌≡◌, ◌≤◌, ◌<◌, ◌+◌, ◌*◌, ◌-◌, ◌^◌, ◌==◌, ◌&&◌, ◌++◌, ◌∷◌, ◌⊎◌, ℕ, Bool, true, false, List, [], All, count_by, length, map, min, nat_lt, if◌then◌else◌, is_some, replicate, slice_get, slice_index_or, slice_set, sum_by, Option, Some, None, vec_capacity, vec_len}
use Rattle.std.specs.Global.{Vec}
use Rattle.std.specs.Option.{option_map_or}
use Rattle.disk_model.specs.Disk.{Faults, Grows, History, IsMoment, IsTold}
use Rattle.mdbox_base.specs.declared.progress.Did.{Did}
use Rattle.mdbox_base.specs.declared.progress.Did.TheVariants as did
use Rattle.mdbox_base.specs.declared.replies.Reply.{Reply}
use Rattle.mdbox_base.specs.declared.requests.Request.{Request}
use Rattle.mdbox_base.specs.declared.script.JournalEntry.{JournalEntry}
use Rattle.model_lists.specs.Lists.{Lists}
use Rattle.list_machine.specs.Run.{Run, RunEvent, and_then}
use Rattle.journal.specs.Journal.{Broken, HasReply, IsFirstPart, JournalStep, Requests, moment_of}
use Rattle.serving.specs.Accounts.{LanesAccount}
use Rattle.serving.specs.Lanes.{queue_of, replies_behind}
use Rattle.serving.specs.Serving.{AreIdle}
use Rattle.serving.specs.Turns.{IsTraceOf, LaneTurn}
use Rattle.store_core.specs.Value.{StoreValue}
use Rattle.task_steps.specs.Step.{Seen, ended_by}
use Rattle.attach_detach.specs.Prepared.{IsTakenApart}
use Rattle.attach_detach.specs.declared.message.Prepared.{Prepared}
use Rattle.mdbox_base.specs.declared.requests.Request.TheVariants as request
use Rattle.lane_tasks.specs.Tasks.{BeginsTask, HasTask, IsReadyTask, claims_at, work_left}
use Rattle.lanes.specs.Going.{AddsEvent, AreFreshRows, IsGoing, WaitsWithTask}
use Rattle.lanes.specs.Rows.{LaneRow, RowGoesOn, lanes_of, queue_in}
use Rattle.lanes.specs.declared.lane.LaneEvent.{LaneEvent}
use Rattle.lanes.specs.declared.lane.Queued.{Queued}

-- ---- what is kept of the steps

-- A step's entry, of a moment: its number of calls is that of the device's calls since the world began, as a disk that is modelled
-- tells it. Both moments stand still at the top of a u64.
pub record IsEntryAt (history : Option History) (began moment : ℕ) (step : JournalStep) (entry : JournalEntry) : Type 0 where
  pub lane_is : entry.lane ≡ step.lane
  pub request_is : entry.request ≡ step.request
  pub half_is : entry.half ≡ step.half
  pub calls_are : IsTold history → entry.calls ≡ min moment (2 ^ 64 - 1) - min began (2 ^ 64 - 1)

-- each entry is that of its step, of the moment of that
abbrev pub AreEntriesAt : Option History → ℕ → (JournalStep → ℕ) → List JournalStep → List JournalEntry → Type 0
AreEntriesAt history began moment [] [] = Unit {0}
AreEntriesAt history began moment (step ∷ steps) (entry ∷ entries) = IsEntryAt history began (moment step) step entry × AreEntriesAt history began moment steps entries
AreEntriesAt history began moment steps entries = ⊥

-- how many requests of a lane are answered
abbrev pub replied_in : ℕ → Requests → List (Option Reply) → ℕ
replied_in lane (asked ∷ script) (given ∷ replies) = (if asked.0 == lane && is_some given then 1 else 0) + replied_in lane script replies
replied_in lane script replies = 0

-- each lane's number of replies
abbrev pub AreCounted : Requests → List (Option Reply) → List ℕ → Type 0
AreCounted script replies counts = (k count : ℕ) → slice_get counts k ≡ Some count → count ≡ replied_in (k + 1) script replies

-- ---- a world

-- The store, the lanes with their requests that aren't answered, the reply of each request as it was given, with how many requests the
-- world began, how many replies each lane has, the entries of the steps made and of those that a failed append would have made, the disk's
-- moment as the world began, the turns, for how many of them there is room without taking memory, and whether the lanes were finished.
pub record WorldValue (D : Type 0) : Type 0 where
  pub store : StoreValue D
  pub rows : List LaneRow
  pub replies : List (Option Reply)
  pub scripted : ℕ
  pub replied : List ℕ
  pub journal : List JournalEntry
  pub broken : List JournalEntry
  pub began : ℕ
  pub turns : List LaneTurn
  pub turn_room : ℕ
  pub finished : Bool

-- the world of these
abbrev pub world_value : {D : Type 0} → StoreValue D → List LaneRow → List (Option Reply) → ℕ → List ℕ → List JournalEntry → List JournalEntry → ℕ → List LaneTurn → ℕ → Bool → WorldValue D
world_value store rows replies scripted replied journal broken began turns turn_room finished = record {
  store = store;
  rows = rows;
  replies = replies;
  scripted = scripted;
  replied = replied;
  journal = journal;
  broken = broken;
  began = began;
  turns = turns;
  turn_room = turn_room;
  finished = finished;
}

-- how many turns a world has room for: 16 for each request, and one for each lane
abbrev pub turns_for : ℕ → ℕ → ℕ
turns_for requests lanes = 16 * requests + lanes

-- It is a world of this script, whose lanes serve it from these lists by the events of this run, with these replies: its journal has the
-- entries of these steps, each of the moment at which its event ended; its broken entries are those of the steps that a failed append
-- would have made, of the moment at which that began; and its turns are a trace of the run.
pub record IsWorldOf {D : Type 0} (start : Lists) (script : Requests) (run : Run) (steps : List JournalStep) (failed : Broken) (began : Seen) (history : Option History) (faults : Faults) (world : WorldValue D) : Type 0 where
  pub going : IsGoing start script run steps failed world.replies began world.store history faults world.rows
  pub entries : AreEntriesAt history world.began (moment_of run) steps world.journal
  pub broken : AreEntriesAt history world.began (λ step. failed.began) failed.steps world.broken
  pub counts : AreCounted script world.replies world.replied
  pub trace : IsTraceOf world.finished world.turns run (lanes_of world.rows)

-- This lane has no request left.
abbrev pub IsIdleLane : ℕ → List LaneRow → Type 0
IsIdleLane lane rows = (row : LaneRow) × (slice_get rows (lane - 1) ≡ Some row) × (row.current ≡ None) × (row.waiting ≡ [])

-- how often a request's place is among those that wait in lanes
abbrev pub times_waiting : ℕ → List LaneRow → ℕ
times_waiting place rows = sum_by (λ row. count_by (λ other. other == place) (queue_in row)) rows

-- a turn of a lane
abbrev pub turn_of : ℕ → Bool → LaneTurn
turn_of lane idle = record { lane = lane; idle = idle }

-- ---- how it begins

-- Each request is of one of so many lanes, which are numbered from 1.
abbrev pub AreOfLanes : ℕ → Requests → Type 0
AreOfLanes lanes script = All (λ asked. (0 < asked.0) × (asked.0 ≤ lanes)) script

-- What a request is given beside: a delivery its message, taken apart, of 67,108,864 octets at the most, and every other request nothing.
abbrev pub HasItsMessage : Request → Option Prepared → Type 0
HasItsMessage (request.Deliver name time octets) given = (length octets ≤ 67108864) × IsTakenApart octets given
HasItsMessage asked given = HasTask asked × (given ≡ None)

abbrev pub AreGiven : Requests → List (Option Prepared) → Type 0
AreGiven [] [] = Unit {0}
AreGiven (asked ∷ script) (given ∷ more) = HasItsMessage asked.1 given × AreGiven script more
AreGiven script given = ⊥

-- What a world has beside its store: the lanes, each with its requests, and room for what comes of so many.
pub record PartsValue : Type 0 where
  pub rows : List LaneRow
  pub requests : ℕ

-- some request has this task as it begins
abbrev pub BeginsSome : Queued → Type 0
BeginsSome queued = (asked : Request) × BeginsTask asked queued.task

-- the requests that aren't answered, with the tasks of those in turn and of those that wait
abbrev pub queued_in : LaneRow → List Queued
queued_in row = option_map_or (λ first. first ∷ row.waiting) row.current []

-- Its requests are 100,000 at the most, each of which waits in one lane, once, at its place, with the task with which some request begins.
-- None waits in a lane unless one is in turn.
pub record AreFreshParts (parts : PartsValue) : Type 0 where
  pub few : parts.requests ≤ 100000
  pub begin : (k : ℕ) (row : LaneRow) → slice_get parts.rows k ≡ Some row → All BeginsSome (queued_in row)
  pub places : (k : ℕ) (row : LaneRow) → slice_get parts.rows k ≡ Some row → All (λ place. place < parts.requests) (queue_in row)
  pub once : (place : ℕ) → place < parts.requests → times_waiting place parts.rows ≡ 1
  pub alone : (k : ℕ) (row : LaneRow) → slice_get parts.rows k ≡ Some row → row.current ≡ None → row.waiting ≡ []

-- They are those of this script and of so many lanes.
pub record ArePartsOf (script : Requests) (lanes : ℕ) (parts : PartsValue) : Type 0 where
  pub rows : AreFreshRows script parts.rows
  pub many : length parts.rows ≡ lanes
  pub requests : parts.requests ≡ length script

-- a lane without requests
abbrev pub empty_row : LaneRow
empty_row = record { current = None; waiting = [] }

-- A lane has the requests of it that stand in this part of a script, which begins at a place, each with the task with which it begins.
pub record IsRowFrom (script : Requests) (lane place : ℕ) (part : Requests) (row : LaneRow) : Type 0 where
  pub all : queue_in row ≡ queue_of lane place part
  pub begin : All (WaitsWithTask script lane) (queued_in row)
  pub alone : row.current ≡ None → row.waiting ≡ []

-- So many lanes have theirs.
abbrev pub AreRowsFrom : Requests → ℕ → ℕ → Requests → List LaneRow → Type 0
AreRowsFrom script lanes place part rows = (length rows ≡ lanes) × ((k : ℕ) (row : LaneRow) → slice_get rows k ≡ Some row → IsRowFrom script (k + 1) place part row)

-- a world that begins with these parts over a store, at this moment of its disk
abbrev pub world_begun : {D : Type 0} → StoreValue D → PartsValue → ℕ → WorldValue D
world_begun store parts moment = record {
  store = store;
  rows = parts.rows;
  replies = replicate parts.requests None;
  scripted = parts.requests;
  replied = replicate (length parts.rows) 0;
  journal = [];
  broken = [];
  began = moment;
  turns = [];
  turn_room = turns_for parts.requests (length parts.rows);
  finished = false;
}

-- A world begins with these parts over a store.
abbrev pub IsFreshWorld : {D : Type 0} → StoreValue D → PartsValue → Option History → WorldValue D → Type 0
IsFreshWorld store parts history world = (moment : ℕ) × IsMoment history moment × (world ≡ world_begun store parts moment)

-- ---- what every world keeps

-- Whatever script it is of: it has 64 lanes at the most, the requests that wait begin, and unless the store is stopped, the lanes
-- account for it. There are 100,000 requests at the most. Each has a place among the replies, and waits in one lane, once, as long as it
-- has none; each lane has its count; and a world that was finished has no request left.
pub record IsSoundWorld {D : Type 0} (history : Option History) (world : WorldValue D) : Type 0 where
  pub few : length world.rows ≤ 64
  pub waiting : (k : ℕ) (row : LaneRow) → slice_get world.rows k ≡ Some row → All BeginsSome row.waiting
  pub accounts : world.store.stopped ≡ false → LanesAccount claims_at IsReadyTask world.store history (lanes_of world.rows)
  pub places : (k : ℕ) (row : LaneRow) → slice_get world.rows k ≡ Some row → All (λ place. place < length world.replies) (queue_in row)
  pub once : (place : ℕ) (given : Option Reply) → slice_get world.replies place ≡ Some given → times_waiting place world.rows ≡ (if is_some given then 0 else 1)
  pub short : length world.replies ≤ 100000
  pub clock : world.began ≤ 2 ^ 64 - 1
  pub many : length world.replied ≡ length world.rows
  pub room : world.turn_room ≡ turns_for (length world.replies) (length world.rows)
  pub idle : world.finished ≡ true → AreIdle (lanes_of world.rows)

-- Each list of a world has the length of its vector, and there is room for two entries of each request, for 16 broken steps, and for
-- the turns.
pub record HasRoomOf (lanes : Vec LaneRow) (replies : List (Option Reply)) (replied : Vec ℕ) (journal broken : Vec JournalEntry) (turns : Vec LaneTurn) (turn_room : ℕ) : Type 0 where
  pub lanes_are : vec_len lanes ≡ length lanes.items
  pub replied_are : vec_len replied ≡ length replied.items
  pub journal_is : vec_len journal ≡ length journal.items
  pub journal_room : 2 * length replies ≤ vec_capacity journal
  pub broken_is : vec_len broken ≡ length broken.items
  pub broken_room : 16 ≤ vec_capacity broken
  pub turns_are : vec_len turns ≡ length turns.items
  pub turns_room : turn_room ≤ vec_capacity turns

-- Nothing has come of its requests: no reply, entry or turn.
pub record HaveNoneYet (requests lanes : ℕ) (replies : List (Option Reply)) (scripted : ℕ) (replied : Vec ℕ) (journal broken : Vec JournalEntry) (turns : Vec LaneTurn) (turn_room : ℕ) : Type 0 where
  pub unreplied : replies ≡ replicate requests None
  pub scripted_are : scripted ≡ requests
  pub none_replied : replied.items ≡ replicate lanes 0
  pub no_entries : journal.items ≡ []
  pub none_broken : broken.items ≡ []
  pub no_turns : turns.items ≡ []
  pub room_is : turn_room ≡ turns_for requests lanes

-- ---- an event of a lane, as a world keeps it

-- the lane's count after its request goes on, or is answered
abbrev pub replied_behind : Option Reply → ℕ → List ℕ → List ℕ
replied_behind None k counts = counts
replied_behind (Some given) k counts = slice_set counts k (min (slice_index_or counts k 0 + 1) (2 ^ 64 - 1))

-- what is added to the journal for an event that did this, and to the broken steps
abbrev pub entries_made : Did → ℕ → ℕ → ℕ → List JournalEntry
entries_made (did.Step half) lane place calls = record { lane = lane; request = place; half = half; calls = calls } ∷ []
entries_made other lane place calls = []

abbrev pub entries_broken : Did → ℕ → ℕ → ℕ → List JournalEntry
entries_broken (did.Broken half) lane place calls = record { lane = lane; request = place; half = half; calls = calls } ∷ []
entries_broken other lane place calls = []

-- What is kept of an event is added behind the rest, if there is room for it; without room all stays.
pub record AreAdded (room : Type 0) (added entries now : List JournalEntry) : Type 0 where
  pub all : room → now ≡ entries ++ added
  pub none : added ≡ [] → now ≡ entries
  pub some : (now ≡ entries) ⊎ (now ≡ entries ++ added)

-- An event of the lane at this place, of a request that had no reply, with what a world makes of it, whatever script it is of: its
-- reply, its entry, of the moments before it and after it, if there is room for that, and what stays.
pub record Works {D : Type 0} (k : ℕ) (old new : WorldValue D) (before after : Option History) (first second : Faults) : Type 0 where
  pub row : LaneRow
  pub now : LaneRow
  pub event : LaneEvent
  pub there : slice_get old.rows k ≡ Some row
  pub goes : RowGoesOn row now event old.store new.store before after first second
  pub rows_are : new.rows ≡ slice_set old.rows k now
  pub unanswered : slice_get old.replies event.place ≡ Some None
  pub replies_are : new.replies ≡ replies_behind (ended_by event.ended) event.place old.replies
  pub scripted_are : new.scripted ≡ old.scripted
  pub replied_are : new.replied ≡ replied_behind (ended_by event.ended) k old.replied
  pub earlier : ℕ
  pub earlier_is : IsMoment before earlier
  pub later : ℕ
  pub later_is : IsMoment after later
  pub journal : AreAdded (length old.journal < 2 * length old.replies) (entries_made event.did (k + 1) event.place (later - old.began)) old.journal new.journal
  pub broken : AreAdded (length old.broken < 16) (entries_broken event.did (k + 1) event.place (earlier - old.began)) old.broken new.broken
  pub began_is : new.began ≡ old.began
  pub turns_are : new.turns ≡ old.turns
  pub room_is : new.turn_room ≡ old.turn_room
  pub finished_is : new.finished ≡ old.finished

-- ---- how it goes on

-- An event of this lane, which had a request left. It is one by what a world makes of it, but for the turns (`Works`); and of whatever
-- script and run a world was, it is one of the run with that event and with what this adds (`AddsEvent`).
pub record IsLaneEvent {D : Type 0} (lane : ℕ) (old new : WorldValue D) (before after : Option History) (first second : Faults) : Type 0 where
  pub busy : IsIdleLane lane old.rows → ⊥
  pub works : Works (lane - 1) old (record new { turns = old.turns }) before after first second
  pub goes : (start : Lists) (script : Requests) (run : Run) (steps : List JournalStep) (failed : Broken) (began : Seen) → IsWorldOf start script run steps failed began before first old
      → (added : RunEvent) × (more : List JournalStep) × (broke : Broken) × AddsEvent lane works.event run old.store.map before after first second added more failed broke × IsWorldOf start script (and_then run added) (steps ++ more) broke began after second new

-- all lanes behind the one and before the other have no request left
abbrev pub AreIdleBetween : ℕ → ℕ → List LaneRow → Type 0
AreIdleBetween after before rows = (lane : ℕ) → after < lane → lane < before → IsIdleLane lane rows

-- How many turns behind a lane's another's comes, in rounds of so many lanes.
abbrev pub turns_behind : ℕ → ℕ → ℕ → ℕ
turns_behind lanes last lane = if nat_lt last lane then lane - last else lanes + lane - last

-- A lane is in turn behind this last one: it has a request left, and every lane whose turn comes sooner has none.
pub record IsNextBusy (last lane : ℕ) (rows : List LaneRow) : Type 0 where
  pub is_lane : (1 ≤ lane) × (lane ≤ length rows)
  pub busy : IsIdleLane lane rows → ⊥
  pub sooner : (other : ℕ) → 1 ≤ other → other ≤ length rows → turns_behind (length rows) last other < turns_behind (length rows) last lane → IsIdleLane other rows

-- Events of these lanes, one after another, each of the lane that is in turn behind the last one, and no turn is added. Of each the
-- disk tells what it did at the end of the one before.
abbrev pub GoesInRounds : {D : Type 0} → ℕ → List ℕ → WorldValue D → WorldValue D → Option History → Option History → Faults → Faults → Type 0
GoesInRounds last [] old new before after first second = (new ≡ old) × (after ≡ before) × (second ≡ first)
GoesInRounds last (lane ∷ lanes) old new before after first second =
    (mid : WorldValue _) × (between : Option History) × (counted : Faults) × IsNextBusy last lane old.rows × IsLaneEvent lane old mid before between first counted × (mid.turns ≡ old.turns) × GoesInRounds lane lanes mid new between after counted second

-- The world, finished, goes on by events of these lanes, in rounds from the first lane to the last.
abbrev pub GoesOnBy : {D : Type 0} → List ℕ → WorldValue D → WorldValue D → Option History → Option History → Faults → Faults → Type 0
GoesOnBy lanes old new before after first second = GoesInRounds 0 lanes (record old { finished = true }) new before after first second

-- a run that goes on by these events
abbrev pub and_events : Run → List RunEvent → Run
and_events run events = record run { events = run.events ++ events }

-- Of whatever script and run the one world was, the other is one of the run with events of these lanes.
abbrev pub IsServedOn : {D : Type 0} → List ℕ → WorldValue D → WorldValue D → Option History → Option History → Faults → Faults → Type 0
IsServedOn lanes old new before after first second =
    (start : Lists) (script : Requests) (run : Run) (steps : List JournalStep) (failed : Broken) (began : Seen) → IsWorldOf start script run steps failed began before first old
    → (added : List RunEvent) × (more : List JournalStep) × (broke : Broken) × (map (λ event. event.lane) added ≡ lanes) × IsWorldOf start script (and_events run added) (steps ++ more) broke began after second new

-- What events leave of a world, whatever its script and whatever its disk: a reply that was given stays, entries are only added behind
-- the others, and a store that is stopped stays so. The disk goes on, no count of its faults falls, and unless the store is stopped
-- then no change failed.
pub record KeepsWorld {D : Type 0} (old new : WorldValue D) (before after : Option History) (first second : Faults) : Type 0 where
  pub replies : (i : ℕ) (given : Reply) → HasReply old.replies i given → HasReply new.replies i given
  pub requests : length new.replies ≡ length old.replies
  pub scripted : new.scripted ≡ old.scripted
  pub lanes : length new.rows ≡ length old.rows
  pub journal : IsFirstPart old.journal new.journal
  pub broken : IsFirstPart old.broken new.broken
  pub stopped : old.store.stopped ≡ true → new.store.stopped ≡ true
  pub grows : Grows before after
  pub reads : first.reads ≤ second.reads
  pub changes : first.changes ≤ second.changes
  pub unfailed : new.store.stopped ≡ false → second.changes ≡ first.changes
  pub began : new.began ≡ old.began
  pub room : new.turn_room ≡ old.turn_room

-- ---- what is left to do

abbrev pub left_in : {D : Type 0} → StoreValue D → LaneRow → ℕ
left_in store row = sum_by (λ queued. work_left queued.task store) (queued_in row)

-- A bound of the events that are still to come: as each event of a stopped store answers its request, one for each.
abbrev pub world_left : {D : Type 0} → WorldValue D → ℕ
world_left world =
    sum_by (λ row. length (queued_in row)) world.rows + (if world.store.stopped then 0 else 1 + sum_by (left_in world.store) world.rows)
