-- The clause of a task's step, for tasks of any kind.
use Rattle.std.specs.Prelude.{◌≡◌, ◌≢◌, ◌≤◌, ℕ, true, false, List, Option, Some, None}
use Rattle.disk_model.specs.Disk.{History, Faults, Grows, IsIdle}
use Rattle.attach_detach.specs.declared.message.Prepared.{Prepared}
use Rattle.mdbox_base.specs.declared.progress.Progress.{Progress}
use Rattle.mdbox_base.specs.declared.progress.Progress.TheVariants as progress
use Rattle.mdbox_base.specs.declared.replies.Refusal.{Refusal}
use Rattle.mdbox_base.specs.declared.replies.Refusal.TheVariants as refusal
use Rattle.mdbox_base.specs.declared.replies.Reply.{Reply}
use Rattle.mdbox_base.specs.declared.replies.Reply.TheVariants as reply
use Rattle.mdbox_base.specs.declared.ids.InstId.{InstId}
use Rattle.mdbox_base.specs.declared.requests.Request.{Request}
use Rattle.mdbox_base.specs.declared.requests.Request.TheVariants as request
use Rattle.mdbox_base.specs.Streams.{Rose}
use Rattle.model_kept.specs.Kept.{MailIsKept}
use Rattle.model_lists.specs.Lists.{Lists}
use Rattle.model_meaning.specs.MapMeaning.{MapMeaning}
use Rattle.list_machine.specs.Machine.{is_step}
use Rattle.list_machine.specs.Run.{Run, RunEvent, and_then}
use Rattle.journal.specs.Events.{Around}
use Rattle.store_core.specs.Value.{StoreValue}
use Rattle.storage_files.specs.Files.{is_doomed_in, is_emptied_in, is_taken_in}
use Rattle.task_claims.specs.Claims.{Claims, Held, Pinned}
use Rattle.task_claims.specs.Leaving.{SyncsMail}
use Rattle.task_claims.specs.Stable.{Beside}
use Rattle.task_steps.specs.Step.{ShowsSeen, HasComeTo, FindsRoom, DidEvent, and_told}
use Rattle.mail_fetch.specs.Clause.{CanFetch, FetchesAlone}
use Rattle.mail_fetch.specs.Stages.{SparesFile}
use Rattle.mail_fetch.specs.Task.{seen_in}
use Rattle.mail_fetch.specs.declared.task.FetchStage.{FetchStage}
use Rattle.mail_fetch.specs.declared.task.FetchStage.TheVariants as fetch_stage
use Rattle.mail_ops.specs.Copy.{CopyAnswers}
use Rattle.mail_ops.specs.Deleting.{DeleteAnswers}
use Rattle.mail_ops.specs.Expunging.{ExpungeAnswers}
use Rattle.mail_ops.specs.Making.{MakeAnswers}
use Rattle.mail_ops.specs.Moving.{MoveAnswers}
use Rattle.mail_ops.specs.Renaming.{RenameAnswers}
use Rattle.mail_ops.specs.Requests.{Replies}
use Rattle.mail_ops.specs.declared.copy.CopyStage.TheVariants as copy_stage
use Rattle.mail_ops.specs.declared.deleting.DeleteStage.TheVariants as delete_stage
use Rattle.mail_ops.specs.declared.expunging.ExpungeStage.TheVariants as expunge_stage
use Rattle.mail_ops.specs.declared.making.MakeStage.TheVariants as make_stage
use Rattle.mail_ops.specs.declared.moving.MoveStage.TheVariants as move_stage
use Rattle.mail_save.specs.MailFiles.{WritesMail}
use Rattle.mail_save.specs.SaveSeen.{around_saving}
use Rattle.mail_save.specs.Task.{SaveValue, Saves}
use Rattle.mail_save.specs.declared.task.SaveStage.TheVariants as save_stage
use Rattle.purge_task.specs.Clause.{BeginsPurge, KeepsRegions, TellsUses, around_purging}
use Rattle.purge_task.specs.Dropped.{DropsCounted, TellsCounts}
use Rattle.purge_task.specs.Keeping.{PurgeValue}
use Rattle.purge_task.specs.Quiet.{KeepsQuiet}
use Rattle.purge_task.specs.declared.task.PurgeStage.TheVariants as purge_stage
use Rattle.resync_task.specs.Clause.{FindsResync}
use Rattle.resync_task.specs.Correcting.{AreExact}
use Rattle.resync_task.specs.Stages.{ToList}
use Rattle.resync_task.specs.Task.{ResyncValue, ResyncsOn}
use Rattle.lane_tasks.specs.Tasks.{IsReadyTask, StandsTask, claims_at, did_of}
use Rattle.lane_tasks.specs.declared.task.Task.{Task}
use Rattle.lane_tasks.specs.declared.task.Task.TheVariants as task

-- ---- what it needs beside being ready

-- A task claims no more of a thing than leaves room for the tasks of all lanes: one pin of a file, and 65,535 holds of an instance.
pub record ClaimsFew (mine : Claims) : Type 0 where
  pub pinned : (file : ℕ) → mine (Pinned file) ≤ 1
  pub held : (id : InstId) → mine (Held id) ≤ 65535

-- What an event of the task finds of files and instances: of a delivery what the store has for its message. Of all others nothing is
-- asked, so it may be this.
abbrev pub found_saving : {D : Type 0} → SaveValue → Request → StoreValue D → Around → Around
found_saving t (request.Deliver name time octets) store around = around_saving octets t.stage store
found_saving t other store around = around

abbrev pub around_at : {D : Type 0} → Task → Request → StoreValue D → Around → Around
around_at (task.Deliver t) asked store around = found_saving t asked store around
around_at other asked store around = around

-- What an event that ended its request so found: of a resync what its files have, as far as the disk tells; of a purge some files, since
-- which ones it takes only octets tell; of every other task this.
abbrev pub FindsAround : {D : Type 0} → Task → Request → StoreValue D → Option History → Around → Option Reply → Around → Type 0
FindsAround (task.Resync t) asked store history around ended found = FindsResync t.stage ended store history found
FindsAround (task.Purge t) asked store history around ended found = (files : List ℕ) × (found ≡ around_purging files store)
FindsAround other asked store history around ended found = found ≡ around_at other asked store around

-- a storage file that no task has taken, to add to it or to empty it
pub record IsFreeToTake {D : Type 0} (file : ℕ) (store : StoreValue D) : Type 0 where
  pub some : 1 ≤ file
  pub untaken : is_taken_in file store.files.files ≡ false
  pub unemptied : is_emptied_in file store.files.files ≡ false

-- A store doesn't say who has taken its files, or who holds its instances. So a purge does as its clause says only of a run whose
-- requests use just what is used in the store.
abbrev pub TellsRun : {D : Type 0} → Task → Run → StoreValue D → Type 0
TellsRun (task.Purge t) run store = TellsUses run store
TellsRun other run store = Unit {0}

-- A task that answers by what the files of messages read needs them to store these for the lists: so a fetch does before its first
-- event, of the one message.
abbrev pub CanAnswer : {D : Type 0} → Task → Lists → StoreValue D → Option History → Type 0
CanAnswer (task.Fetch t) lists store history = CanFetch t.stage t.name t.uid lists store.map history
CanAnswer other lists store history = Unit {0}

-- ---- the clause

-- Of every run that has come to the store, of any lists that it shows, and where the task stands, unless the store runs and a request
-- has taken the file that it finds; of a run that tells who uses what the task goes by, and of lists of which the files store what it
-- answers by. It is `Steps`, with the store and what its disk tells, of what the event found.
abbrev pub StepsTask : {D : Type 0} → Task → Task → StoreValue D → StoreValue D → Option History → Option History → Faults → Faults → Option Reply → Type 0
StepsTask task next old new before after began now ended =
    (asked : Request) (around behind : Around) (run : Run) (lane place : ℕ) (said : List Reply) (lists : Lists) → HasComeTo run (seen_in old before began) → ShowsSeen (seen_in old before began) lists
    → (old.stopped ≡ false → FindsRoom (around_at task asked old around) run) → (old.stopped ≡ false → TellsRun task run old) → (old.stopped ≡ false → CanAnswer task lists old before) → StandsTask task old before asked run place said
    → (found : Around) × FindsAround task asked old before around ended found
    × (d : DidEvent found behind run lane place said asked lists (seen_in old before began) (seen_in new after now) (did_of next) ended)
    × (ended ≡ None → StandsTask next new after asked (and_then run d.makes.event) place (and_told said d.makes.answer))

-- An event of another task beside this one: unless the store is stopped then, it ran before, this task was ready, and the event moved
-- only its own task's claims and left to the others what is theirs.
abbrev pub PassesBy : {D : Type 0} → Task → StoreValue D → StoreValue D → Option History → Option History → Type 0
PassesBy task old new before after = new.stopped ≡ false → (old.stopped ≡ false) × IsReadyTask task old before × Beside (claims_at task) old new before after

-- The event neither pins nor removes the file that a fetch removes next.
abbrev pub SparesTask : Task → RunEvent → Type 0
SparesTask (task.Fetch t) event = SparesFile t.stage event
SparesTask other event = Unit {0}

-- The run has come to the store with that event; or the store is stopped then, and the event spares what this task removes next.
pub record PassesInRun {D : Type 0} (task : Task) (store : StoreValue D) (history : Option History) (faults : Faults) (run : Run) (event : RunEvent) : Type 0 where
  pub come : store.stopped ≡ false → HasComeTo (and_then run event) (seen_in store history faults)
  pub spared : store.stopped ≡ true → SparesTask task event

-- ---- what it keeps, of which run it may be

-- A task that reads at the most: of a count or a fetch, or of a listing, which has one kind of task with a setting of flags or keywords.
abbrev pub SetsNothing : Request → Type 0
SetsNothing (request.Flag name uid flags) = ⊥
SetsNothing (request.Keywords name uid words) = ⊥
SetsNothing other = Unit {0}

abbrev pub OnlyReads : Task → Type 0
OnlyReads (task.Ops t) = SetsNothing t.request
OnlyReads (task.Counts t) = Unit {0}
OnlyReads (task.Fetch t) = Unit {0}
OnlyReads other = ⊥

-- No storage file is doomed. Only a purge dooms one.
abbrev pub DoomsNothing : {D : Type 0} → StoreValue D → Type 0
DoomsNothing store = (file : ℕ) → is_doomed_in file store.files.files ≡ false

-- a fetch that isn't about to remove a file
abbrev pub RemovesNothing : FetchStage → Type 0
RemovesNothing (fetch_stage.Removing file given) = ⊥
RemovesNothing now = Unit {0}

-- A task that neither dooms storage files nor is about to remove one: no purge, nor a fetch that gave back the last pin of a doomed file.
abbrev pub DoomsNone : Task → Type 0
DoomsNone (task.Purge t) = ⊥
DoomsNone (task.Fetch t) = RemovesNothing t.stage
DoomsNone other = Unit {0}

-- Of a store in which no file is doomed, such a task dooms none, and it stays one.
abbrev pub LeavesUndoomed : {D : Type 0} → Task → Task → StoreValue D → StoreValue D → Type 0
LeavesUndoomed t next old new = DoomsNone t → (old.stopped ≡ false → DoomsNothing old) → DoomsNone next × (new.stopped ≡ false → DoomsNothing new)

-- A task that reads no octets of storage files or instances.
abbrev pub ReadsNoOctets : Task → Type 0
ReadsNoOctets (task.Fetch t) = ⊥
ReadsNoOctets (task.Deliver t) = ⊥
ReadsNoOctets (task.Resync t) = ⊥
ReadsNoOctets (task.Purge t) = ⊥
ReadsNoOctets other = Unit {0}

-- A task that answers its request at the event in which a read failed. A fetch unpins first.
abbrev pub AnswersReads : Task → Type 0
AnswersReads (task.Fetch t) = ⊥
AnswersReads other = Unit {0}

-- how an event ended: with a reply, or its request goes on
abbrev pub progress_by : Option Reply → Progress
progress_by None = progress.More
progress_by (Some given) = progress.Done given

-- What an event of a resync did to the store and answers, whatever calls failed before.
abbrev pub ResyncsSo : {D : Type 0} → ResyncValue → ResyncValue → StoreValue D → StoreValue D → Option History → Option History → Option Reply → Type 0
ResyncsSo t next old new before after ended = (began : Faults) × (now : Faults) × ResyncsOn t.stage next.stage (progress_by ended) next.did old new before after began now

-- What an event of a delivery did to the store and answers, from stage to stage, whatever calls failed before.
abbrev pub SavesSo : {D : Type 0} → SaveValue → SaveValue → StoreValue D → StoreValue D → Option History → Option History → Option Reply → Type 0
SavesSo t next old new before after ended = (began : Faults) × (now : Faults) × Saves t.stage next.stage t.name t.time t.size (progress_by ended) next.did old new before after began now

-- What an event of a purge did, unless it stopped the store: it dropped as many records of the map as it counts; what it has counted it
-- replies; beside no other task it leaves files and map as a quiet purge does; and each record that is still there has the octets that it
-- had. The first one changes nothing of the disk, takes just the files that aren't clean, and is the only one that is refused but by a
-- failed call.
pub record PurgesSo {D : Type 0} (t next : PurgeValue) (old new : StoreValue D) (before after : Option History) (ended : Option Reply) : Type 0 where
  pub drops : DropsCounted t next old new
  pub counts : TellsCounts t next (progress_by ended)
  pub quiet : KeepsQuiet t next (progress_by ended) old new before after
  pub regions : new.stopped ≡ false → KeepsRegions old.map new.map before after
  pub first : t.stage ≡ purge_stage.First → BeginsPurge (progress_by ended) next.stage old before after
  pub refused : (why : Refusal) → ended ≡ Some (reply.Refused why) → why ≢ refusal.ReadFault → why ≢ refusal.Stopped → t.stage ≡ purge_stage.First

-- What a task answers, by what its event found in the store and left of it: of a listing or a setting of flags or keywords, and, unless the store
-- was stopped, of a make, a copy, a move, an expunge, a deletion, a renaming, a delivery or a resync, with the stages before and after. A
-- resync that puts counts right leaves each exact. Of a purge it is what its event dropped, and what it made of the files.
abbrev pub TellsStore : {D : Type 0} → Task → Task → StoreValue D → StoreValue D → Option History → Option History → Option Reply → Type 0
TellsStore (task.Ops t) next old new before after ended = (given : Reply) × (ended ≡ Some given) × Replies t.request old new given
TellsStore (task.Make t) (task.Make next) old new before after ended = old.stopped ≡ false → MakeAnswers t.name t.stage old new before after next.stage (progress_by ended)
TellsStore (task.Copy t) (task.Copy next) old new before after ended = old.stopped ≡ false → CopyAnswers t.name t.uid t.target t.stage old new next.stage (progress_by ended)
TellsStore (task.Move t) (task.Move next) old new before after ended = old.stopped ≡ false → MoveAnswers t.name t.uid t.target t.stage old new next.stage (progress_by ended)
TellsStore (task.Expunge t) (task.Expunge next) old new before after ended = old.stopped ≡ false → ExpungeAnswers t.name t.uid t.stage old new next.stage (progress_by ended)
TellsStore (task.Deliver t) (task.Deliver next) old new before after ended = old.stopped ≡ false → SavesSo t next old new before after ended
TellsStore (task.Resync t) (task.Resync next) old new before after ended = (old.stopped ≡ false → ResyncsSo t next old new before after ended) × ((corrected damaged : ℕ) → ended ≡ Some (reply.Resynced corrected damaged) → AreExact new)
TellsStore (task.Purge t) (task.Purge next) old new before after ended = PurgesSo t next old new before after ended
TellsStore (task.Delete t) (task.Delete next) old new before after ended = old.stopped ≡ false → DeleteAnswers t.name t.stage old new before after next.stage (progress_by ended)
TellsStore (task.Rename t) next old new before after ended = old.stopped ≡ false → (given : Reply) × (ended ≡ Some given) × RenameAnswers t.name t.target old new before after given
TellsStore t next old new before after ended = Unit {0}

-- What an event of a fetch read and answers, and what it did, whatever the disk.
abbrev pub FetchesSo : {D : Type 0} → Task → Task → StoreValue D → StoreValue D → Option History → Option History → Faults → Faults → Option Reply → Type 0
FetchesSo (task.Fetch t) (task.Fetch next) old new before after began now ended = FetchesAlone t.name t.uid.0 t.stage next.stage next.did (progress_by ended) old new before after began now
FetchesSo t next old new before after began now ended = Unit {0}

-- For which maps storage files and instances stay: of a delivery, a purge and a removal for that of its store, of every other event for each.
abbrev pub IsKeptFor : {D : Type 0} → Task → StoreValue D → MapMeaning → Type 0
IsKeptFor (task.Deliver t) store m = m ≡ store.map
IsKeptFor (task.Purge t) store m = m ≡ store.map
IsKeptFor (task.Fetch t) store m = (RemovesNothing t.stage → ⊥) → m ≡ store.map
IsKeptFor other store m = Unit {0}

-- What an event made of storage files and instances: of a delivery what its stage says, of a purge and a removal nothing; else each is as it
-- was, or its name was synced.
abbrev pub WritesTask : {D : Type 0} → Task → Task → StoreValue D → Option History → Option History → Type 0
WritesTask (task.Deliver t) (task.Deliver next) old before after = WritesMail t.stage next.stage t.name t.time old before after
WritesTask (task.Purge t) next old before after = Unit {0}
WritesTask (task.Fetch t) next old before after = RemovesNothing t.stage → SyncsMail before after
WritesTask t next old before after = SyncsMail before after

-- Its next event is its first: a task of one event is always so. Of a purge nothing is said.
abbrev pub IsAtStart : Task → Type 0
IsAtStart (task.Make t) = t.stage ≡ make_stage.First
IsAtStart (task.Copy t) = t.stage ≡ copy_stage.First
IsAtStart (task.Move t) = t.stage ≡ move_stage.First
IsAtStart (task.Expunge t) = t.stage ≡ expunge_stage.First
IsAtStart (task.Fetch t) = t.stage ≡ fetch_stage.First
IsAtStart (task.Deliver t) = (prepared : Prepared) × (t.stage ≡ save_stage.First prepared)
IsAtStart (task.Resync t) = t.stage ≡ ToList
IsAtStart (task.Purge t) = ⊥
IsAtStart (task.Delete t) = t.stage ≡ delete_stage.First
IsAtStart other = Unit {0}

-- It is of the same kind and of the same request, as far as the task tells it: of a delivery its message's size.
abbrev pub StaysOfRequest : Task → Task → Type 0
StaysOfRequest (task.Ops t) (task.Ops next) = next.request ≡ t.request
StaysOfRequest (task.Counts t) (task.Counts next) = Unit {0}
StaysOfRequest (task.Make t) (task.Make next) = next.name ≡ t.name
StaysOfRequest (task.Copy t) (task.Copy next) = (next.name ≡ t.name) × (next.uid ≡ t.uid) × (next.target ≡ t.target)
StaysOfRequest (task.Move t) (task.Move next) = (next.name ≡ t.name) × (next.uid ≡ t.uid) × (next.target ≡ t.target)
StaysOfRequest (task.Expunge t) (task.Expunge next) = (next.name ≡ t.name) × (next.uid ≡ t.uid)
StaysOfRequest (task.Fetch t) (task.Fetch next) = (next.name ≡ t.name) × (next.uid ≡ t.uid)
StaysOfRequest (task.Deliver t) (task.Deliver next) = (next.name ≡ t.name) × (next.time ≡ t.time) × (next.size ≡ t.size)
StaysOfRequest (task.Resync t) (task.Resync next) = Unit {0}
StaysOfRequest (task.Purge t) (task.Purge next) = Unit {0}
StaysOfRequest (task.Delete t) (task.Delete next) = next.name ≡ t.name
StaysOfRequest (task.Rename t) (task.Rename next) = (next.name ≡ t.name) × (next.target ≡ t.target)
StaysOfRequest t next = ⊥

-- Whatever the disk is and fails: time goes on, and at each moment storage files and instances have what the map needs. No count of
-- faults falls; unless the store is stopped then no change failed, and an event that stops it is one in which a change failed and no
-- read. A task that reads no octets counts no failed read, and any but a fetch one only if it replies so. One that reads at the
-- most changes nothing, unless it is a fetch that removes a file which a purge has doomed. A first event changes nothing that is refused,
-- but for want of memory or by a failed call, nor does any event of a store that was stopped, nor one that leaves the store's disk as it
-- was. It is answered by what the store has (`TellsStore`), and a fetch by what the disk reads (`FetchesSo`). It stays the task of its
-- request.
pub record TaskKeeps {D : Type 0} (t next : Task) (old new : StoreValue D) (before after : Option History) (began now : Faults) (ended : Option Reply) : Type 0 where
  pub request : StaysOfRequest t next
  pub grows : Grows before after
  pub mail : (m : MapMeaning) → IsKeptFor t old m → MailIsKept m before after
  pub reads : began.reads ≤ now.reads
  pub changes : began.changes ≤ now.changes
  pub unfailed : new.stopped ≡ false → now.changes ≡ began.changes
  pub fell : old.stopped ≡ false → new.stopped ≡ true → Rose began.changes now.changes × (now.reads ≡ began.reads)
  pub unread : ReadsNoOctets t → now.reads ≡ began.reads
  pub calm : AnswersReads t → (ended ≡ Some (reply.Refused refusal.ReadFault) → ⊥) → now.reads ≡ began.reads
  pub tells : TellsStore t next old new before after ended
  pub undoomed : LeavesUndoomed t next old new
  pub idle : OnlyReads t → DoomsNone t → IsIdle before after × (now.changes ≡ began.changes) × (new.stopped ≡ old.stopped)
  pub still : old.stopped ≡ true → IsIdle before after × (now.changes ≡ began.changes)
  pub same : new.disk ≡ old.disk → IsIdle before after
  pub refused : (why : Refusal) → IsAtStart t → ended ≡ Some (reply.Refused why) → is_step why ≡ true → IsIdle before after
  pub left : new.stopped ≡ false → WritesTask t next old before after
  pub fetches : FetchesSo t next old new before after began now ended
