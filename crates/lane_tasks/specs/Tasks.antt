-- A task of any kind: its request, where it stands, what it claims, and what it needs of the store.
use Rattle.std.specs.Prelude.{◌≡◌, ◌≢◌, ◌≤◌, ◌<◌, ◌⊎◌, ◌*◌, ◌+◌, ◌-◌, ℕ, false, List, [], All, AllPairs, flat_map, length, Option, None}
use Rattle.attach_detach.specs.Prepared.{IsPrepared}
use Rattle.attach_detach.specs.declared.message.Prepared.{Prepared}
use Rattle.disk_model.specs.Disk.{History}
use Rattle.mdbox_base.specs.declared.progress.Did.{Did}
use Rattle.mdbox_base.specs.declared.progress.Did.TheVariants as did
use Rattle.mdbox_base.specs.declared.replies.Reply.{Reply}
use Rattle.mdbox_base.specs.declared.requests.Request.{Request}
use Rattle.mdbox_base.specs.declared.requests.Request.TheVariants as request
use Rattle.list_machine.specs.Run.{Run, RunEvent, TakenFile, own_events}
use Rattle.journal.specs.Found.{is_storing}
use Rattle.journal.specs.Events.{instances_found}
use Rattle.model_meaning.specs.MapFits.{HasRecord}
use Rattle.store_core.specs.Value.{StoreValue}
use Rattle.task_claims.specs.Claims.{Claims, no_claims}
use Rattle.task_steps.specs.Step.{HasNotBegun}
use Rattle.mail_fetch.specs.Claims.{IsReadyToFetch, fetch_claims}
use Rattle.mail_fetch.specs.Stages.{IsAtFetch}
use Rattle.mail_fetch.specs.Task.{events_left}
use Rattle.mail_fetch.specs.declared.task.FetchStage.TheVariants as fetch_stage
use Rattle.mail_ops.specs.Claims.{copy_claims, expunge_claims, make_claims, move_claims}
use Rattle.mail_ops.specs.Copy.{IsAtCopy, IsReadyToCopy, copy_left}
use Rattle.mail_ops.specs.Deleting.{IsAtDelete, IsReadyToDelete, delete_left}
use Rattle.mail_ops.specs.Expunging.{IsAtExpunge, expunge_amounts, expunge_left}
use Rattle.mail_ops.specs.Making.{IsAtMake, IsReadyToMake, make_left}
use Rattle.mail_ops.specs.Moving.{IsAtMove, IsReadyToMove, move_left}
use Rattle.mail_ops.specs.Owing.{AreDueIn, map_room_left}
use Rattle.mail_ops.specs.Task.{IsAt}
use Rattle.mail_ops.specs.declared.copy.CopyStage.TheVariants as copy_stage
use Rattle.mail_ops.specs.declared.deleting.DeleteStage.TheVariants as delete_stage
use Rattle.mail_ops.specs.declared.expunging.ExpungeStage.TheVariants as expunge_stage
use Rattle.mail_ops.specs.declared.making.MakeStage.{MakeStage}
use Rattle.mail_ops.specs.declared.making.MakeStage.TheVariants as make_stage
use Rattle.mail_ops.specs.declared.moving.MoveStage.TheVariants as move_stage
use Rattle.mail_save.specs.Claims.{save_claims}
use Rattle.mail_save.specs.SaveSeen.{HasItsParts, IsAtSave}
use Rattle.mail_save.specs.Task.{IsReadyToDeliver, SaveValue, save_events_left}
use Rattle.mail_save.specs.declared.task.SaveStage.{SaveStage}
use Rattle.mail_save.specs.declared.task.SaveStage.TheVariants as save_stage
use Rattle.purge_task.specs.Claims.{purge_claims}
use Rattle.purge_task.specs.Keeping.{IsReadyToPurge}
use Rattle.purge_task.specs.Left.{purge_left}
use Rattle.purge_task.specs.Stages.{IsAtPurge}
use Rattle.purge_task.specs.declared.task.PurgeStage.TheVariants as purge_stage
use Rattle.resync_task.specs.Stages.{IsAtResync, ToList}
use Rattle.resync_task.specs.Task.{resync_left}
use Rattle.lane_tasks.specs.declared.task.Task.{Task}
use Rattle.lane_tasks.specs.declared.task.Task.TheVariants as task

-- ---- its request

-- The requests that have a task as they are. A delivery's message is prepared first.
abbrev pub HasTask : Request → Type 0
HasTask (request.Deliver name time octets) = ⊥
HasTask other = Unit {0}

-- A delivery's request is of its mailbox and time. Of the message the task keeps no octets, so these may be any.
abbrev pub IsDeliveryOf : SaveValue → Request → Type 0
IsDeliveryOf t (request.Deliver name time octets) = (name ≡ t.name) × (time ≡ t.time)
IsDeliveryOf t other = ⊥

-- The request is the task's. A listing and a setting of flags or keywords have one kind of task.
abbrev pub IsTaskOf : Task → Request → Type 0
IsTaskOf (task.Ops t) asked = asked ≡ t.request
IsTaskOf (task.Counts t) asked = asked ≡ request.Counts
IsTaskOf (task.Make t) asked = asked ≡ request.Make t.name
IsTaskOf (task.Copy t) asked = asked ≡ request.Copy t.name t.uid t.target
IsTaskOf (task.Move t) asked = asked ≡ request.Move t.name t.uid t.target
IsTaskOf (task.Expunge t) asked = asked ≡ request.Expunge t.name t.uid
IsTaskOf (task.Fetch t) asked = asked ≡ request.Fetch t.name t.uid
IsTaskOf (task.Deliver t) asked = IsDeliveryOf t asked
IsTaskOf (task.Resync t) asked = asked ≡ request.Resync
IsTaskOf (task.Purge t) asked = asked ≡ request.Purge
IsTaskOf (task.Delete t) asked = asked ≡ request.Delete t.name
IsTaskOf (task.Rename t) asked = asked ≡ request.Rename t.name t.target

-- what its last event did: nothing before the first
abbrev pub did_of : Task → Did
did_of (task.Ops t) = t.did
did_of (task.Counts t) = t
did_of (task.Make t) = t.did
did_of (task.Copy t) = t.did
did_of (task.Move t) = t.did
did_of (task.Expunge t) = t.did
did_of (task.Fetch t) = t.did
did_of (task.Deliver t) = t.did
did_of (task.Resync t) = t.did
did_of (task.Purge t) = t.did
did_of (task.Delete t) = t.did
did_of (task.Rename t) = t.did

-- a delivery that has begun nothing has the request's message, prepared
abbrev pub IsFreshDelivery : SaveValue → Request → Type 0
IsFreshDelivery t (request.Deliver name time octets) = (prepared : Prepared) × (t.stage ≡ save_stage.First prepared) × (t.size ≡ prepared.whole) × (length octets ≤ 67108864) × IsPrepared octets prepared
IsFreshDelivery t other = ⊥

-- It has begun nothing of this request: its next event is the first. A task of one event is always so.
abbrev pub IsAtFirst : Task → Request → Type 0
IsAtFirst (task.Make t) asked = t.stage ≡ make_stage.First
IsAtFirst (task.Copy t) asked = t.stage ≡ copy_stage.First
IsAtFirst (task.Move t) asked = t.stage ≡ move_stage.First
IsAtFirst (task.Expunge t) asked = t.stage ≡ expunge_stage.First
IsAtFirst (task.Fetch t) asked = t.stage ≡ fetch_stage.First
IsAtFirst (task.Deliver t) asked = IsFreshDelivery t asked
IsAtFirst (task.Resync t) asked = t.stage ≡ ToList
IsAtFirst (task.Purge t) asked = t.stage ≡ purge_stage.First
IsAtFirst (task.Delete t) asked = t.stage ≡ delete_stage.First
IsAtFirst other asked = Unit {0}

-- A request has this task as it begins.
pub record BeginsTask (asked : Request) (task : Task) : Type 0 where
  pub is_of : IsTaskOf task asked
  pub at : IsAtFirst task asked
  pub did : did_of task ≡ did.Quiet

-- ---- what it claims of the store, and what it needs of it

abbrev pub claims_at : Task → Claims
claims_at (task.Make t) = make_claims t.stage
claims_at (task.Copy t) = copy_claims t.stage
claims_at (task.Move t) = move_claims t.stage
claims_at (task.Expunge t) = expunge_claims t.stage
claims_at (task.Fetch t) = fetch_claims t.stage
claims_at (task.Deliver t) = save_claims t.stage
claims_at (task.Purge t) = purge_claims t.stage
claims_at other = no_claims

-- the number of the log that a make has made is in range
abbrev pub IsMakeNumber : MakeStage → Type 0
IsMakeNumber (make_stage.Naming number) = number.0 ≤ 4294967294
IsMakeNumber make_stage.First = Unit {0}

-- It is ready for its next event: a delivery is so for that of some message.
abbrev pub IsReadyTask : {D : Type 0} → Task → StoreValue D → Option History → Type 0
IsReadyTask (task.Make t) store history = IsReadyToMake t.stage store × IsMakeNumber t.stage
IsReadyTask (task.Copy t) store history = IsReadyToCopy t.name t.uid t.stage store
IsReadyTask (task.Move t) store history = IsReadyToMove t.name t.uid t.stage store
IsReadyTask (task.Expunge t) store history = AreDueIn store (expunge_amounts t.stage)
IsReadyTask (task.Fetch t) store history = IsReadyToFetch t.stage store
IsReadyTask (task.Deliver t) store history = (octets : List ℕ) × IsReadyToDeliver t.stage t.name t.time t.size octets store history
IsReadyTask (task.Purge t) store history = IsReadyToPurge t store history
IsReadyTask (task.Delete t) store history = IsReadyToDelete t.stage store
IsReadyTask other store history = Unit {0}

-- How many events are still to come at the most, also beside other tasks: a make may have to begin anew for each mailbox that others
-- make, and a purge to remove each instance that others place, as long as there are numbers; a copy and a move may have to begin again,
-- and each time they append to the map log themselves.
abbrev pub work_left : {D : Type 0} → Task → StoreValue D → ℕ
work_left (task.Make t) store = make_left t.stage store + 2 * (4294967295 - store.map.highest.mailbox)
work_left (task.Copy t) store = copy_left t.stage + 3 * map_room_left store
work_left (task.Move t) store = move_left t.stage + 3 * map_room_left store
work_left (task.Expunge t) store = expunge_left t.stage
work_left (task.Fetch t) store = events_left t.stage
work_left (task.Deliver t) store = save_events_left t.stage store.instances
work_left (task.Resync t) store = resync_left t.stage
work_left (task.Purge t) store = purge_left t.stage store
work_left (task.Delete t) store = delete_left t.stage
work_left other store = 1

-- ---- where it stands

-- The record that a delivery has stored names the instances that its events found, until it is added or its count is lowered.
abbrev pub HasNamedFound : {D : Type 0} → SaveStage → StoreValue D → Run → ℕ → Type 0
HasNamedFound (save_stage.Adding added room) store run place = HasRecord store.map added.map_uid.0 (λ row. row.instances ≡ instances_found place run)
HasNamedFound (save_stage.GivingBack uid why room) store run place = HasRecord store.map uid.0 (λ row. row.instances ≡ instances_found place run)
HasNamedFound now store run place = Unit {0}

-- A delivery is at its stage, knows how many attachments the request's message has, and, unless the store is stopped, is ready for
-- its next event with it, and what it has stored names what it found.
abbrev pub IsAtDelivery : {D : Type 0} → SaveValue → StoreValue D → Option History → Request → Run → ℕ → List Reply → Type 0
IsAtDelivery t store history (request.Deliver name time octets) run place said =
    IsAtSave t.stage run place said × HasItsParts t.stage octets × (store.stopped ≡ false → IsReadyToDeliver t.stage t.name t.time t.size octets store history) × (store.stopped ≡ false → HasNamedFound t.stage store run place)
IsAtDelivery t store history other run place said = ⊥

-- Of a store, of what its disk tells, and of the request: at which stage the task is, of a run, of its place in the script, and of the
-- answers of its steps.
abbrev pub IsAtTask : {D : Type 0} → Task → StoreValue D → Option History → Request → Run → ℕ → List Reply → Type 0
IsAtTask (task.Ops t) store history asked run place said = IsAt t.stage run place said
IsAtTask (task.Counts t) store history asked run place said = HasNotBegun run place said
IsAtTask (task.Make t) store history asked run place said = IsAtMake t.stage run place said
IsAtTask (task.Copy t) store history asked run place said = IsAtCopy t.stage run place said
IsAtTask (task.Move t) store history asked run place said = IsAtMove t.uid t.stage run place said
IsAtTask (task.Expunge t) store history asked run place said = IsAtExpunge t.stage run place said
IsAtTask (task.Fetch t) store history asked run place said = IsAtFetch t.stage store.stopped history run place said
IsAtTask (task.Deliver t) store history asked run place said = IsAtDelivery t store history asked run place said
IsAtTask (task.Resync t) store history asked run place said = IsAtResync t.stage run place said
IsAtTask (task.Purge t) store history asked run place said = IsAtPurge t store run place said
IsAtTask (task.Delete t) store history asked run place said = IsAtDelete t.stage run place said
IsAtTask (task.Rename t) store history asked run place said = HasNotBegun run place said

-- none of a request's events that wasn't refused took a storage file
abbrev pub TookNoFile : Run → ℕ → Type 0
TookNoFile run place = All (λ event. event.refused ≡ None → event.files ≡ []) (own_events place run)

-- what a purge took: a file of a number up to this one, and a target of a greater number, or none
abbrev pub IsTakenWithin : ℕ → TakenFile → Type 0
IsTakenWithin most t = (t.file ≤ most) × ((t.target ≡ 0) ⊎ (most < t.target))

-- an event that stores no record, and neither dooms nor removes a file of a greater number
abbrev pub DoomsWithin : ℕ → RunEvent → Type 0
DoomsWithin most event = (is_storing event.part ≡ false) × All (λ file. file ≤ most) event.doomed × All (λ file. file ≤ most) event.removed

-- The files that these events of a purge took and the targets that they drew are apart: targets have greater numbers than all that it took,
-- each its own, and none is doomed or removed.
pub record TookApart (own : List RunEvent) : Type 0 where
  pub most : ℕ
  pub files : All (IsTakenWithin most) (flat_map (λ e. e.files) own)
  pub targets : AllPairs (λ a b. (a.target ≡ 0) ⊎ (a.target ≢ b.target)) (flat_map (λ e. e.files) own)
  pub ended : All (DoomsWithin most) own

-- The files that it took: a delivery's stage tells of the one that it has, and a purge's of those that it empties and of their targets, which
-- are apart; no other kind of task takes any.
abbrev pub TookFiles : Task → Run → ℕ → Type 0
TookFiles (task.Deliver t) run place = Unit {0}
TookFiles (task.Purge t) run place = TookApart (own_events place run)
TookFiles other run place = TookNoFile run place

-- A task stands so in a run that has come to this store: it is of the request at this place, is at its stage, and took these files.
pub record StandsTask {D : Type 0} (task : Task) (store : StoreValue D) (history : Option History) (asked : Request) (run : Run) (place : ℕ) (said : List Reply) : Type 0 where
  pub is_of : IsTaskOf task asked
  pub at : IsAtTask task store history asked run place said
  pub took : TookFiles task run place
