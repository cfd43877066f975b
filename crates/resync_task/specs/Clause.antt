-- The clauses of a resync's step.
use Rattle.std.specs.Prelude.{◌≡◌, ◌≢◌, ◌≤◌, ◌↔◌, ℕ, true, false, slice_get, Option, Some, None}
use Rattle.disk_model.specs.Disk.{History, Faults, Grows}
use Rattle.disk_model.specs.FaultCounts.{NoFault}
use Rattle.mdbox_base.specs.Streams.{Rose}
use Rattle.mdbox_base.specs.declared.progress.Did.{Did}
use Rattle.mdbox_base.specs.declared.progress.Progress.{Progress}
use Rattle.mdbox_base.specs.declared.progress.Progress.TheVariants as progress
use Rattle.mdbox_base.specs.declared.replies.Refusal.TheVariants as refusal
use Rattle.mdbox_base.specs.declared.replies.Reply.{Reply}
use Rattle.mdbox_base.specs.declared.replies.Reply.TheVariants as reply
use Rattle.mdbox_base.specs.declared.requests.Request.TheVariants as request
use Rattle.model_kept.specs.Kept.{MailIsKept}
use Rattle.model_meaning.specs.MapMeaning.{MapMeaning}
use Rattle.journal.specs.Events.{Around}
use Rattle.store_core.specs.Keeping.{KeepsRest}
use Rattle.store_core.specs.Value.{StoreValue}
use Rattle.store_seen.specs.Seeing.{seen_of}
use Rattle.task_claims.specs.Leaving.{SyncsMail}
use Rattle.task_steps.specs.Step.{Steps}
use Rattle.resync_task.specs.Damage.{AreDamaged}
use Rattle.resync_task.specs.Files.{AreRecordFiles}
use Rattle.resync_task.specs.Stages.{ResyncAt, ToList, ToRead, IsAtResync}

-- What an event finds, by which the request goes on: the first one the files in which records have their regions; each one after it, by
-- the map as it is then, the records of the next file whose regions are damaged. Of any other event nothing is asked.
abbrev pub FindsResync : {D : Type 0} → ResyncAt → Option Reply → StoreValue D → Option History → Around → Type 0
FindsResync ToList None store history found = AreRecordFiles store.map found.files
FindsResync (ToRead files read damaged) None store history found = (file : ℕ) × (slice_get files read ≡ Some file) × AreDamaged history store.map file found.damaged
FindsResync now (Some given) store history found = Unit {0}

-- The clause of a task's step, whatever other tasks have pinned.
abbrev pub ResyncClause : {D : Type 0} → ResyncAt → ResyncAt → StoreValue D → StoreValue D → Option History → Option History → Faults → Faults → Did → Option Reply → Type 0
ResyncClause now next old new before after began then how ended =
    (behind : Around) (pins : ℕ → ℕ) → (found : Around) × FindsResync now ended old before found × Steps (IsAtResync now) (IsAtResync next) found behind request.Resync (seen_of pins old before began) (seen_of pins new after then) how ended

-- The counts of faults never fall. That of failed reads rose if the answer tells so, and that of failed changes if the event stopped
-- the store; else no call failed.
pub record CountsFaults {D : Type 0} (answer : Progress) (old new : StoreValue D) (began now : Faults) : Type 0 where
  pub reads : began.reads ≤ now.reads
  pub changes : began.changes ≤ now.changes
  pub read : answer ≡ progress.Done (reply.Refused refusal.ReadFault) → Rose began.reads now.reads
  pub change : old.stopped ≡ false → answer ≡ progress.Done (reply.Refused refusal.Stopped) → Rose began.changes now.changes × (now.reads ≡ began.reads)
  pub steady : new.stopped ≡ false → now.changes ≡ began.changes
  pub unfailed : answer ≢ progress.Done (reply.Refused refusal.ReadFault) → answer ≢ progress.Done (reply.Refused refusal.Stopped) → NoFault began now

-- Storage files and instances have at each moment what any map needs of them. Unless the event stopped the store, each is as it was, or
-- its name was synced.
pub record KeepsMessages (unfailed : Type 0) (before after : Option History) : Type 0 where
  pub stays : (m : MapMeaning) → MailIsKept m before after
  pub left : unfailed → SyncsMail before after

-- What an event leaves of store and disk, whatever the disk is. A store that is stopped then replies so, and no other does; one that was
-- stopped stays as it was, and so does the stage. The rest of the store stays, and so do storage files and instances, at each moment.
-- Time goes on.
pub record ResyncKeeps {D : Type 0} (now next : ResyncAt) (answer : Progress) (old new : StoreValue D) (before after : Option History) (began faults : Faults) : Type 0 where
  pub stopped : (answer ≡ progress.Done (reply.Refused refusal.Stopped)) ↔ (new.stopped ≡ true)
  pub still : old.stopped ≡ true → (new ≡ old) × (next ≡ now)
  pub fault : CountsFaults answer old new began faults
  pub rest : KeepsRest old new
  pub mail : KeepsMessages (new.stopped ≡ old.stopped) before after
  pub grows : Grows before after
