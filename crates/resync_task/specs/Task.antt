-- What a caller sees of a resync, and what its events do.
use Rattle.std.specs.Prelude.{◌≡◌, ◌<◌, ◌≤◌, ◌+◌, ◌-◌, ℕ, List, length, Option}
use Rattle.disk_model.specs.Disk.{History, Faults}
use Rattle.disk_model.specs.FaultCounts.{NoFault, ReadFaultCounted}
use Rattle.mdbox_base.specs.declared.progress.Did.{Did}
use Rattle.mdbox_base.specs.declared.progress.Did.TheVariants as did
use Rattle.mdbox_base.specs.declared.progress.Progress.{Progress}
use Rattle.mdbox_base.specs.declared.progress.Progress.TheVariants as progress
use Rattle.mdbox_base.specs.declared.replies.Refusal.TheVariants as refusal
use Rattle.mdbox_base.specs.declared.replies.Reply.TheVariants as reply
use Rattle.mdbox_base.specs.declared.script.Half.TheVariants as half
use Rattle.store_core.specs.Value.{StoreValue}
use Rattle.resync_task.specs.Correcting.{FellCorrecting, PutsRight}
use Rattle.resync_task.specs.Files.{AreRecordFiles}
use Rattle.resync_task.specs.Reading.{ReadsStoreOnly, ReadingValue, ReadsNext}
use Rattle.resync_task.specs.Stages.{ResyncAt, ToList, ToRead}
use Rattle.resync_task.specs.declared.task.ResyncStage.{ResyncStage}
use Rattle.resync_task.specs.declared.task.ResyncStage.TheVariants as stage

-- Where it stands, and what its last event did: nothing before the first.
pub record ResyncValue : Type 0 where
  pub stage : ResyncAt
  pub did : Did

-- the stage of a task that reads
abbrev pub at_reading : ReadingValue → ResyncAt
at_reading value = ToRead value.files value.read value.damaged

abbrev pub stage_of : ResyncStage → ResyncAt
stage_of stage.First = ToList
stage_of (stage.Reading value) = at_reading value

-- How many events are still to come at the most: before the first, more than there may be files, so that no event of another task
-- changes it.
abbrev pub resync_left : ResyncAt → ℕ
resync_left ToList = 4294967297
resync_left (ToRead files read damaged) = length files - read + 1

-- ---- what an event does

-- From one stage to another, with this answer, of a store that isn't stopped. There may be no memory at any event; a read may fail while
-- a file is read, and a change of the disk as the counts are put right.
abbrev pub ResyncsOn : {D : Type 0} → ResyncAt → ResyncAt → Progress → Did → StoreValue D → StoreValue D → Option History → Option History → Faults → Faults → Type 0
ResyncsOn ToList (ToRead files read damaged) progress.More how old new before after began now =
    (how ≡ did.Quiet) × AreRecordFiles old.map files × (length files ≤ 4294967295) × (read ≡ 0) × (damaged ≡ 0) × (new ≡ old)
ResyncsOn ToList ToList (progress.Done (reply.Refused refusal.NoMemory)) how old new before after began now = (how ≡ did.Quiet) × (new ≡ old)
ResyncsOn (ToRead files read damaged) (ToRead same more all) progress.More how old new before after began now =
    (how ≡ did.Quiet) × ((uids : List ℕ) × (same ≡ files) × (more ≡ read + 1) × (all ≡ damaged + length uids) × ReadsNext files read uids old new before after began now)
ResyncsOn (ToRead files read damaged) ToList (progress.Done (reply.Resynced corrected told)) how old new before after began now =
    (how ≡ did.Step half.Whole) × (read ≡ length files) × (told ≡ damaged) × PutsRight corrected old new before after began now
ResyncsOn (ToRead files read damaged) ToList (progress.Done (reply.Refused refusal.NoMemory)) how old new before after began now =
    (how ≡ did.Quiet) × (read ≤ length files) × ReadsStoreOnly old new before after × NoFault began now
ResyncsOn (ToRead files read damaged) ToList (progress.Done (reply.Refused refusal.ReadFault)) how old new before after began now =
    (how ≡ did.Quiet) × (read < length files) × ReadsStoreOnly old new before after × ReadFaultCounted (Unit {0}) began now
ResyncsOn (ToRead files read damaged) ToList (progress.Done (reply.Refused refusal.Stopped)) how old new before after began now =
    (how ≡ did.Broken half.Whole) × (read ≡ length files) × FellCorrecting old new before after began now
ResyncsOn now next answer how old new before after began then = ⊥
