-- A script that lanes of tasks serve.
use Rattle.std.specs.Prelude.{◌≡◌, ◌≢◌, ◌⊎◌, ◌≤◌, ◌+◌, ◌∷◌, ℕ, false, List, [], All, length, map, slice_get, Option, Some}
use Rattle.disk_model.specs.Disk.{History, Faults, Grows, told_calls}
use Rattle.disk_model.specs.FaultCounts.{NoFault}
use Rattle.mdbox_base.specs.Streams.{Rose}
use Rattle.mdbox_base.specs.declared.progress.Did.{Did}
use Rattle.mdbox_base.specs.declared.progress.Did.TheVariants as did
use Rattle.mdbox_base.specs.declared.replies.Refusal.{Refusal}
use Rattle.mdbox_base.specs.declared.replies.Refusal.TheVariants as refusal
use Rattle.mdbox_base.specs.declared.replies.Reply.{Reply}
use Rattle.mdbox_base.specs.declared.requests.Request.{Request}
use Rattle.mdbox_base.specs.declared.requests.Request.TheVariants as request
use Rattle.mdbox_base.specs.declared.ids.Uid.{Uid}
use Rattle.mdbox_base.specs.declared.script.Half.{Half}
use Rattle.model_kept.specs.Kept.{MailIsKept}
use Rattle.model_meaning.specs.MapMeaning.{MapMeaning}
use Rattle.model_store.specs.Settled.{IsSettledFor}
use Rattle.model_lists.specs.Lists.{Lists}
use Rattle.list_machine.specs.Run.{Run, RunEvent, own_events}
use Rattle.journal.specs.Journal.{Broken, HasReply, JournalStep, Requests, no_broken, refusal_in}
use Rattle.serving.specs.Accounts.{LanesAccount}
use Rattle.serving.specs.Lanes.{queue_of}
use Rattle.serving.specs.Serving.{HaveLanes, IsServing}
use Rattle.store_core.specs.Value.{StoreValue}
use Rattle.task_steps.specs.Serves.{BreaksBy}
use Rattle.task_steps.specs.Step.{FaultsGrow, IsFault, Seen, ended_by}
use Rattle.mail_fetch.specs.Clause.{ReadsSafe}
use Rattle.mail_fetch.specs.Task.{seen_in}
use Rattle.lane_tasks.specs.Tasks.{BeginsTask, IsReadyTask, StandsTask, claims_at}
use Rattle.lane_tasks.specs.declared.task.Task.{Task}
use Rattle.lanes.specs.Rows.{LaneRow, lanes_of, queue_in}
use Rattle.lanes.specs.declared.lane.LaneEvent.{LaneEvent}
use Rattle.lanes.specs.declared.lane.Queued.{Queued}

-- where a task stands, in a store and by what its disk tells
abbrev pub stands_in : {D : Type 0} → StoreValue D → Option History → Task → Request → Run → ℕ → List Reply → Type 0
stands_in store history task asked run place said = StandsTask task store history asked run place said

-- A request of a lane that waits has the task with which it begins.
abbrev pub WaitsWithTask : Requests → ℕ → Queued → Type 0
WaitsWithTask script lane queued = (asked : Request) × (slice_get script queued.place ≡ Some (lane, asked)) × BeginsTask asked queued.task

abbrev pub AreWaiting : Requests → ℕ → List Queued → Type 0
AreWaiting script lane waiting = All (WaitsWithTask script lane) waiting

-- a refusal says that a message is damaged
abbrev pub TellsDamage : Option Refusal → Type 0
TellsDamage (Some (refusal.Damaged file offset)) = Unit {0}
TellsDamage other = ⊥

abbrev pub IsUndamaged : RunEvent → Type 0
IsUndamaged event = TellsDamage event.refused → ⊥

-- No event of a fetch met damage, and no request was replied that a message is damaged.
pub record AreUndamaged (script : Requests) (run : Run) (replies : List (Option Reply)) : Type 0 where
  pub events : (place lane : ℕ) (name : List ℕ) (uid : Uid) → slice_get script place ≡ Some (lane, request.Fetch name uid) → All IsUndamaged (own_events place run)
  pub none_told : (i : ℕ) (given : Reply) → HasReply replies i given → TellsDamage (refusal_in given) → ⊥

-- A fetch finds that the files store what the lists have: the disk was settled for the lists at the start; or the request is the script's
-- only one, and the files read as safe for them before its first event.
abbrev pub FindsMessages : Lists → Requests → Run → Option History → Option History → Type 0
FindsMessages start script run began history = IsSettledFor start began ⊎ ((length script ≡ 1) × (run.events ≡ [] → ReadsSafe start history))

-- A script is being served by lanes, of which there are 64 at most, from these lists and from a store as it was seen then, by the
-- events of this run: with this journal, these broken steps and these replies so far, each lane's request in turn stands where its task
-- does, those behind it begin; and unless the store is stopped, the lanes account for it, and no call of the disk has failed but for those
-- that read faults tell. A script with a fetch is served so only if that finds the messages (`FindsMessages`), and no message that it reads is
-- damaged.
pub record IsGoing {D : Type 0} (start : Lists) (script : Requests) (run : Run) (journal : List JournalStep) (broken : Broken) (replies : List (Option Reply)) (began : Seen) (store : StoreValue D) (history : Option History) (faults : Faults) (rows : List LaneRow) : Type 0 where
  pub serving : IsServing (stands_in store history) start script run journal broken replies began (seen_in store history faults) (lanes_of rows)
  pub lanes : HaveLanes script (lanes_of rows)
  pub few : length rows ≤ 64
  pub waiting : (k : ℕ) (row : LaneRow) → slice_get rows k ≡ Some row → AreWaiting script (k + 1) row.waiting
  pub accounts : store.stopped ≡ false → LanesAccount claims_at IsReadyTask store history (lanes_of rows)
  pub quiet : store.stopped ≡ false → All (λ event. event.refused ≢ Some refusal.ReadFault) run.events → NoFault began.faults faults
  pub fetched : (place lane : ℕ) (name : List ℕ) (uid : Uid) → slice_get script place ≡ Some (lane, request.Fetch name uid) → FindsMessages start script run began.history history
  pub undamaged : AreUndamaged script run replies

-- ---- what an event of a lane adds to the run and to the journal

-- the step that it was, if it was one
abbrev pub halves_told : Did → List Half
halves_told (did.Step half) = half ∷ []
halves_told other = []

-- The step is one of this lane, this request and the event that comes next in the run.
pub record IsStepOf (lane place : ℕ) (run : Run) (step : JournalStep) : Type 0 where
  pub lane_is : step.lane ≡ lane
  pub request_is : step.request ≡ place
  pub event_is : step.event ≡ length run.events

-- It is an event of this lane and of its request, with the reply that it gave, and ended at the disk's present moment; it has an entry
-- in the journal if it was a step; and where its append failed, the step that it would have been is broken, from the moment on at which
-- the event began, and no other one is. At each moment of it storage files and instances have what the map needed as it began. The counts
-- of faults never fall; that of failed changes rose if one failed, that of failed reads if it was refused so, and else no call failed.
pub record AddsEvent (lane : ℕ) (event : LaneEvent) (run : Run) (m : MapMeaning) (before after : Option History) (first second : Faults) (added : RunEvent) (steps : List JournalStep) (broken failed : Broken) : Type 0 where
  pub lane_is : added.lane ≡ lane
  pub request_is : added.request ≡ event.place
  pub reply_is : added.reply ≡ ended_by event.ended
  pub moment_is : added.moment ≡ told_calls after
  pub halves_are : map (λ step. step.half) steps ≡ halves_told event.did
  pub steps_are : All (IsStepOf lane event.place run) steps
  pub breaks : BreaksBy event.did run added (told_calls before) broken failed
  pub once : (half : Half) → event.did ≡ did.Broken half → broken ≡ no_broken
  pub grows : Grows before after
  pub mail : MailIsKept m before after
  pub faults : FaultsGrow (IsFault event.did) first second
  pub reads : added.refused ≡ Some refusal.ReadFault → Rose first.reads second.reads
  pub unfailed : added.refused ≢ Some refusal.ReadFault → (IsFault event.did → ⊥) → NoFault first second

-- ---- how lanes begin

-- A lane begins with all its requests of the script, in order, each with the task with which it begins.
pub record IsFreshRow (script : Requests) (lane : ℕ) (row : LaneRow) : Type 0 where
  pub all : queue_in row ≡ queue_of lane 0 script
  pub first : (queued : Queued) → row.current ≡ Some queued → WaitsWithTask script lane queued
  pub behind : AreWaiting script lane row.waiting

abbrev pub AreFreshRows : Requests → List LaneRow → Type 0
AreFreshRows script rows = (k : ℕ) (row : LaneRow) → slice_get rows k ≡ Some row → IsFreshRow script (k + 1) row
