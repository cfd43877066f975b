-- A lane with the tasks of its requests, and an event of it.
use Rattle.std.specs.Prelude.{◌≡◌, ◌<◌, ℕ, true, false, List, [], ◌∷◌, map, Option, Some, None, option_map}
use Rattle.std.specs.Option.{option_map_or}
use Rattle.disk_model.specs.Disk.{History, Faults, IfTold, IsImage, reading}
use Rattle.mdbox_base.specs.declared.progress.Progress.TheVariants as progress
use Rattle.mdbox_base.specs.declared.replies.Refusal.TheVariants as refusal
use Rattle.mdbox_base.specs.declared.replies.Reply.{Reply}
use Rattle.mdbox_base.specs.declared.replies.Reply.TheVariants as reply
use Rattle.serving.specs.Lanes.{LaneValue}
use Rattle.storage_files.specs.Files.{AreFilesInOrder}
use Rattle.store_core.specs.Running.{IsStore}
use Rattle.store_core.specs.Value.{StoreValue}
use Rattle.task_claims.specs.Claims.{ClaimsNothing, MovesClaims}
use Rattle.task_claims.specs.Leaving.{LeavesOthers}
use Rattle.task_steps.specs.Step.{ended_by}
use Rattle.lane_tasks.specs.Clause.{TaskKeeps, StepsTask}
use Rattle.lane_tasks.specs.Tasks.{IsReadyTask, claims_at, did_of, work_left}
use Rattle.lane_tasks.specs.declared.task.Task.{Task}
use Rattle.lanes.specs.declared.lane.LaneEvent.{LaneEvent}
use Rattle.lanes.specs.declared.lane.Queued.{Queued}

-- The request in turn, if any, and those behind it.
pub record LaneRow : Type 0 where
  pub current : Option Queued
  pub waiting : List Queued

-- the places of its requests that aren't answered, and the task of the first
abbrev pub queue_in : LaneRow → List ℕ
queue_in row = option_map_or (λ first. first.place ∷ map (λ queued. queued.place) row.waiting) row.current []

abbrev pub lane_value : LaneRow → LaneValue Task
lane_value row = record { queue = queue_in row; task = option_map (λ first. first.task) row.current }

abbrev pub lanes_of : List LaneRow → List (LaneValue Task)
lanes_of rows = map lane_value rows

-- its task is ready for its next event
abbrev pub IsReadyRow : {D : Type 0} → LaneRow → StoreValue D → Option History → Type 0
IsReadyRow row store history = (queued : Queued) → row.current ≡ Some queued → IsReadyTask queued.task store history

-- the lane after an event of its first request, which goes on, or is answered: then the next one is in turn
abbrev pub next_in_turn : List Queued → LaneRow
next_in_turn [] = record { current = None; waiting = [] }
next_in_turn (next ∷ rest) = record { current = Some next; waiting = rest }

abbrev pub after_event : Option Reply → Queued → List Queued → LaneRow
after_event None queued waiting = record { current = Some queued; waiting = waiting }
after_event (Some given) queued waiting = next_in_turn waiting

-- An event of a request's task is one by the clause of a task's step: what it found, what it did and claims, what it keeps of the store
-- and its disk, and whether it goes on. The last five are of every open store and its disk.
pub record TaskGoesOn {D : Type 0} (queued : Queued) (next : Task) (event : LaneEvent) (old new : StoreValue D) (before after : Option History) (first second : Faults) : Type 0 where
  pub place_is : event.place ≡ queued.place
  pub did_is : event.did ≡ did_of next
  pub steps : StepsTask queued.task next old new before after first second (ended_by event.ended)
  pub claims : new.stopped ≡ false → MovesClaims (claims_at queued.task) (claims_at next) old new
  pub leaves : new.stopped ≡ false → LeavesOthers (claims_at queued.task) old new before after
  pub ready : event.ended ≡ progress.More → new.stopped ≡ false → IsReadyTask next new after
  pub unclaimed : (given : Reply) → event.ended ≡ progress.Done given → new.stopped ≡ false → ClaimsNothing (claims_at next)
  pub left : event.ended ≡ progress.More → work_left next new < work_left queued.task old
  pub stopped : new.stopped ≡ true → event.ended ≡ progress.Done (reply.Refused refusal.Stopped)
  pub halted : old.stopped ≡ true → new.stopped ≡ true
  pub keeps : TaskKeeps queued.task next old new before after first second (ended_by event.ended)
  pub store : IsStore before old
  pub ordered : AreFilesInOrder old.files
  pub store_then : IsStore after new
  pub ordered_then : AreFilesInOrder new.files
  pub image : IfTold before (λ disk. IsImage disk (λ name. reading (disk name)))

-- the request, if it goes on
abbrev pub goes_on_by : Option Reply → Queued → Option Queued
goes_on_by None queued = Some queued
goes_on_by (Some given) queued = None

-- An event of a lane is one of its first request's task; the rest of the lane stays, or the next request is in turn.
pub record RowGoesOn {D : Type 0} (row now : LaneRow) (event : LaneEvent) (old new : StoreValue D) (before after : Option History) (first second : Faults) : Type 0 where
  pub queued : Queued
  pub was : row.current ≡ Some queued
  pub next : Task
  pub goes : TaskGoesOn queued next event old new before after first second
  pub now_is : now ≡ after_event (ended_by event.ended) (record queued { task = next }) row.waiting
