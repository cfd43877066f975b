-- Requests that delete a mailbox: where they stand, and what their events do.
use Rattle.std.specs.Prelude.{◌≡◌, ◌⊎◌, ◌<◌, ◌≤◌, ℕ, List, Option, Some, None}
use Rattle.disk_model.specs.Disk.{History, Faults, IfTold, no_file}
use Rattle.disk_model.specs.declared.name.FileName.TheVariants as file
use Rattle.gate_log.specs.Log.{NamedButFor}
use Rattle.mdbox_base.specs.declared.entries.MapCount.{MapCount}
use Rattle.mdbox_base.specs.declared.entries.MapEntry.TheVariants as map_entry
use Rattle.mdbox_base.specs.declared.ids.BoxNo.{BoxNo}
use Rattle.mdbox_base.specs.declared.progress.Did.{Did}
use Rattle.mdbox_base.specs.declared.progress.Did.TheVariants as did
use Rattle.mdbox_base.specs.declared.progress.Progress.{Progress}
use Rattle.mdbox_base.specs.declared.progress.Progress.TheVariants as progress
use Rattle.mdbox_base.specs.declared.replies.Refusal.TheVariants as refusal
use Rattle.mdbox_base.specs.declared.replies.Reply.{Reply}
use Rattle.mdbox_base.specs.declared.replies.Reply.TheVariants as reply
use Rattle.mdbox_base.specs.declared.script.Half.TheVariants as half
use Rattle.model_appends.specs.MapAppending.{beside_without}
use Rattle.model_meaning.specs.MapFits.{HasMapBox}
use Rattle.model_meaning.specs.MapMeaning.{map_applied}
use Rattle.list_machine.specs.Run.{Run}
use Rattle.store_core.specs.Deleting.{AreAmounts, lists_without}
use Rattle.store_core.specs.Dues.{due_at}
use Rattle.store_core.specs.Keeping.{KeepsMail, KeepsUids}
use Rattle.store_core.specs.MadeLogs.{IsGone, KeepsGone}
use Rattle.store_core.specs.Value.{StoreValue, indexes_of}
use Rattle.task_steps.specs.Step.{HasNotBegun}
use Rattle.mail_ops.specs.Changing.{MayChangeBox, deleting_refusal}
use Rattle.mail_ops.specs.DeleteStages.{HasDeleted}
use Rattle.mail_ops.specs.Event.{refusal_told, told_as}
use Rattle.mail_ops.specs.Making.{FellChanging, HasChangedDisk, IsStoppedSo, same_lists}
use Rattle.mail_ops.specs.declared.deleting.DeleteStage.{DeleteStage}
use Rattle.mail_ops.specs.declared.deleting.DeleteStage.TheVariants as stage
use Rattle.mail_ops.specs.declared.event.NotDone.{NotDone}
use Rattle.mail_ops.specs.declared.event.NotDone.TheVariants as not_done

-- The name of the mailbox, which event is next, and what the last one did: nothing before the first.
pub record DeleteValue : Type 0 where
  pub name : List ℕ
  pub stage : DeleteStage
  pub did : Did

-- Where the task stands: it hasn't begun, or it has removed the mailbox from the map, and its log is still there.
abbrev pub IsAtDelete : DeleteStage → Run → ℕ → List Reply → Type 0
IsAtDelete stage.First run place said = HasNotBegun run place said
IsAtDelete (stage.RemovingLog number generation) run place said = HasDeleted run place said

-- What an event asks of the store: the number of the mailbox that the task has removed is no other's.
abbrev pub IsReadyToDelete : {D : Type 0} → DeleteStage → StoreValue D → Type 0
IsReadyToDelete stage.First store = Unit {0}
IsReadyToDelete (stage.RemovingLog number generation) store = IsGone number.0 store

-- how many events are still to come
abbrev pub delete_left : DeleteStage → ℕ
delete_left stage.First = 2
delete_left (stage.RemovingLog number generation) = 1

-- ---- the store

-- The mailbox with this name, which isn't INBOX, has this number, and its log is of this generation. It leaves the map with all that its log
-- means: the count of each record falls by as much as the mailbox lists of it. What is due stays, and nothing else of the store has changed
-- but the map log, which has grown, and has no less room.
pub record DeletesBox {D : Type 0} (name : List ℕ) (number : BoxNo) (generation : ℕ) (old new : StoreValue D) : Type 0 where
  pub box : MayChangeBox name number.0 old
  pub log : HasMapBox old.map number.0 (λ box. box.generation ≡ generation)
  pub amounts : List MapCount
  pub counts : AreAmounts number amounts old
  pub map : new.map ≡ map_applied (map_entry.X number amounts) old.map
  pub indexes : indexes_of new.boxes ≡ beside_without number.0 old.map.boxes (indexes_of old.boxes)
  pub due : (uid : ℕ) → due_at uid new ≡ due_at uid old
  pub room : old.map_log.room ≤ new.map_log.room
  pub further : old.map_log.end < new.map_log.end
  pub same : new ≡ record old { disk = new.disk; map_log = new.map_log; map = new.map; boxes = new.boxes }

-- The log of the mailbox with this number, of this generation, was removed: no crash leaves it. Each other file is as it was, with its name
-- synced.
pub record RemovesBoxLog {D : Type 0} (number generation : ℕ) (old new : StoreValue D) (before after : Option History) : Type 0 where
  pub gone : IfTold after (λ now. now (file.Box number generation) ≡ no_file)
  pub others : NamedButFor (file.Box number generation) before after
  pub same : new ≡ record old { disk = new.disk }

-- What is answered. The first event is refused by a check, or out of memory, and nothing has changed; or it removes the mailbox, if nothing
-- refuses it. The second removes its log, and the request is done. A change of the disk that fails leaves the stage, at the first event only
-- if no check refuses it.
abbrev pub DeleteAnswers : {D : Type 0} → List ℕ → DeleteStage → StoreValue D → StoreValue D → Option History → Option History → DeleteStage → Progress → Type 0
DeleteAnswers name stage.First old new before after (stage.RemovingLog number generation) progress.More =
    (deleting_refusal name old ≡ None) × DeletesBox name number generation old new × KeepsMail before after
DeleteAnswers name stage.First old new before after stage.First (progress.Done (reply.Refused refusal.Stopped)) = (deleting_refusal name old ≡ None) × IsStoppedSo old new
DeleteAnswers name stage.First old new before after stage.First (progress.Done (reply.Refused why)) =
    (new ≡ old) × ((deleting_refusal name old ≡ Some why) ⊎ ((deleting_refusal name old ≡ None) × (why ≡ refusal.NoMemory)))
DeleteAnswers name (stage.RemovingLog number generation) old new before after stage.First (progress.Done reply.Done) = RemovesBoxLog number.0 generation old new before after
DeleteAnswers name (stage.RemovingLog number generation) old new before after (stage.RemovingLog still same) (progress.Done (reply.Refused why)) =
    (still ≡ number) × (same ≡ generation) × (why ≡ refusal.Stopped) × IsStoppedSo old new
DeleteAnswers name now old new before after next answer = ⊥

-- ---- within the crate

-- The mailbox was removed.
pub record DeletedSo {D : Type 0} (name : List ℕ) (number : BoxNo) (generation : ℕ) (old new : StoreValue D) (before after : Option History) (began now : Faults) : Type 0 where
  pub box : DeletesBox name number generation old new
  pub mail : KeepsMail before after
  pub uids : KeepsUids old new
  pub gone : KeepsGone old new
  pub disk : HasChangedDisk (lists_without number.0) before after began now

-- The append failed.
pub record FellDeleting {D : Type 0} (name : List ℕ) (old new : StoreValue D) (before after : Option History) (began now : Faults) : Type 0 where
  pub number : BoxNo
  pub box : MayChangeBox name number.0 old
  pub amounts : List MapCount
  pub counts : AreAmounts number amounts old
  pub same : IsStoppedSo old new
  pub fell : FellChanging (lists_without number.0) before after began now

-- why it wasn't removed
abbrev pub IsBoxNotDeleted : {D : Type 0} → List ℕ → NotDone → StoreValue D → StoreValue D → Option History → Option History → Faults → Faults → Type 0
IsBoxNotDeleted name (not_done.Refused why) old new before after began now = (new ≡ old) × (deleting_refusal name old ≡ Some why)
IsBoxNotDeleted name not_done.NoMemory old new before after began now = (new ≡ old) × (deleting_refusal name old ≡ None)
IsBoxNotDeleted name not_done.Stopped old new before after began now = FellDeleting name old new before after began now

-- What an event does, of a store that isn't stopped: from one stage to another, with this answer.
abbrev pub DeletesOn : {D : Type 0} → List ℕ → DeleteStage → DeleteStage → Progress → Did → StoreValue D → StoreValue D → Option History → Option History → Faults → Faults → Type 0
DeletesOn name stage.First (stage.RemovingLog number generation) progress.More how old new before after began now =
    (how ≡ did.Step half.Whole) × DeletedSo name number generation old new before after began now
DeletesOn name stage.First stage.First (progress.Done (reply.Refused why)) how old new before after began now =
    (e : NotDone) × (why ≡ refusal_told e) × (how ≡ told_as half.Whole (did.Broken half.Whole) e) × IsBoxNotDeleted name e old new before after began now
DeletesOn name (stage.RemovingLog number generation) stage.First (progress.Done reply.Done) how old new before after began now =
    (how ≡ did.Quiet) × RemovesBoxLog number.0 generation old new before after × HasChangedDisk same_lists before after began now
DeletesOn name (stage.RemovingLog number generation) (stage.RemovingLog still same) (progress.Done (reply.Refused why)) how old new before after began now =
    (still ≡ number) × (same ≡ generation) × (why ≡ refusal.Stopped) × (how ≡ did.Failed) × IsStoppedSo old new × FellChanging same_lists before after began now
DeletesOn name now next answer how old new before after began then = ⊥
