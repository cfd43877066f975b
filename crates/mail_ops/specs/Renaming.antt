-- Requests that give a mailbox another name: what their event does, and what is replied to them.
use Rattle.std.specs.Prelude.{◌≡◌, ◌⊎◌, ◌<◌, ◌≤◌, ℕ, List, Option, Some, None}
use Rattle.disk_model.specs.Disk.{History, Faults}
use Rattle.mdbox_base.specs.declared.entries.MapEntry.TheVariants as map_entry
use Rattle.mdbox_base.specs.declared.ids.BoxNo.{BoxNo}
use Rattle.mdbox_base.specs.declared.progress.Did.{Did}
use Rattle.mdbox_base.specs.declared.progress.Did.TheVariants as did
use Rattle.mdbox_base.specs.declared.replies.Refusal.TheVariants as refusal
use Rattle.mdbox_base.specs.declared.replies.Reply.{Reply}
use Rattle.mdbox_base.specs.declared.replies.Reply.TheVariants as reply
use Rattle.mdbox_base.specs.declared.script.Half.TheVariants as half
use Rattle.model_appends.specs.MapAppending.{lists_changed}
use Rattle.model_lists.specs.Lists.{Lists}
use Rattle.model_meaning.specs.MapMeaning.{map_applied}
use Rattle.store_core.specs.Keeping.{KeepsMail, KeepsUids}
use Rattle.store_core.specs.MadeLogs.{KeepsGone}
use Rattle.store_core.specs.Value.{StoreValue}
use Rattle.mail_ops.specs.Changing.{MayChangeBox, renaming_refusal}
use Rattle.mail_ops.specs.Event.{refusal_told, told_as}
use Rattle.mail_ops.specs.Making.{FellChanging, HasChangedDisk, IsStoppedSo}
use Rattle.mail_ops.specs.declared.event.NotDone.{NotDone}
use Rattle.mail_ops.specs.declared.event.NotDone.TheVariants as not_done

-- The name of the mailbox, the one that it gets, and what the event did: nothing before it.
pub record RenameValue : Type 0 where
  pub name : List ℕ
  pub target : List ℕ
  pub did : Did

-- The mailbox with this name, which isn't INBOX, has the other one. Nothing else of the store has changed but the map log, which has grown,
-- and has no less room.
pub record RenamesBox {D : Type 0} (name target : List ℕ) (old new : StoreValue D) : Type 0 where
  pub number : BoxNo
  pub box : MayChangeBox name number.0 old
  pub map : new.map ≡ map_applied (map_entry.V number target) old.map
  pub room : old.map_log.room ≤ new.map_log.room
  pub further : old.map_log.end < new.map_log.end
  pub same : new ≡ record old { disk = new.disk; map_log = new.map_log; map = new.map }

-- What is answered: it is renamed, if nothing refuses it; or it is refused by a check, or out of memory, and nothing has changed; or the
-- append failed, and the store is stopped, if no check refuses it.
abbrev pub RenameAnswers : {D : Type 0} → List ℕ → List ℕ → StoreValue D → StoreValue D → Option History → Option History → Reply → Type 0
RenameAnswers name target old new before after reply.Done = (renaming_refusal name target old ≡ None) × RenamesBox name target old new × KeepsMail before after
RenameAnswers name target old new before after (reply.Refused refusal.Stopped) = (renaming_refusal name target old ≡ None) × IsStoppedSo old new
RenameAnswers name target old new before after (reply.Refused why) =
    (new ≡ old) × ((renaming_refusal name target old ≡ Some why) ⊎ ((renaming_refusal name target old ≡ None) × (why ≡ refusal.NoMemory)))
RenameAnswers name target old new before after other = ⊥

-- ---- within the crate

-- the lists with another name for the mailbox with this number
abbrev pub with_name : BoxNo → List ℕ → Lists → Lists
with_name number target lists = lists_changed (map_entry.V number target) lists

-- The mailbox was renamed.
pub record RenamedSo {D : Type 0} (name target : List ℕ) (old new : StoreValue D) (before after : Option History) (began now : Faults) : Type 0 where
  pub free : renaming_refusal name target old ≡ None
  pub box : RenamesBox name target old new
  pub mail : KeepsMail before after
  pub uids : KeepsUids old new
  pub gone : KeepsGone old new
  pub disk : HasChangedDisk (with_name box.number target) before after began now

-- The append failed.
pub record FellRenaming {D : Type 0} (name target : List ℕ) (old new : StoreValue D) (before after : Option History) (began now : Faults) : Type 0 where
  pub free : renaming_refusal name target old ≡ None
  pub number : BoxNo
  pub box : MayChangeBox name number.0 old
  pub same : IsStoppedSo old new
  pub fell : FellChanging (with_name number target) before after began now

-- why it wasn't renamed
abbrev pub IsBoxNotRenamed : {D : Type 0} → List ℕ → List ℕ → NotDone → StoreValue D → StoreValue D → Option History → Option History → Faults → Faults → Type 0
IsBoxNotRenamed name target (not_done.Refused why) old new before after began now = (new ≡ old) × (renaming_refusal name target old ≡ Some why)
IsBoxNotRenamed name target not_done.NoMemory old new before after began now = (new ≡ old) × (renaming_refusal name target old ≡ None)
IsBoxNotRenamed name target not_done.Stopped old new before after began now = FellRenaming name target old new before after began now

-- What the event does, of a store that isn't stopped, with this answer.
abbrev pub RenamesOn : {D : Type 0} → List ℕ → List ℕ → Reply → Did → StoreValue D → StoreValue D → Option History → Option History → Faults → Faults → Type 0
RenamesOn name target reply.Done how old new before after began now = (how ≡ did.Step half.Whole) × RenamedSo name target old new before after began now
RenamesOn name target (reply.Refused why) how old new before after began now =
    (e : NotDone) × (why ≡ refusal_told e) × (how ≡ told_as half.Whole (did.Broken half.Whole) e) × IsBoxNotRenamed name target e old new before after began now
RenamesOn name target other how old new before after began now = ⊥
