-- Requests that remove a message: where they stand, and what their events do.
use Rattle.std.specs.Prelude.{◌≡◌, ◌⊎◌, ℕ, true, List, Option, Some, None}
use Rattle.disk_model.specs.Disk.{History, Faults}
use Rattle.mdbox_base.specs.declared.entries.BoxEntry.TheVariants as box_entry
use Rattle.mdbox_base.specs.declared.ids.MapUid.{MapUid}
use Rattle.mdbox_base.specs.declared.ids.Uid.{Uid}
use Rattle.mdbox_base.specs.declared.progress.Did.{Did}
use Rattle.mdbox_base.specs.declared.progress.Did.TheVariants as did
use Rattle.mdbox_base.specs.declared.progress.Progress.{Progress}
use Rattle.mdbox_base.specs.declared.progress.Progress.TheVariants as progress
use Rattle.mdbox_base.specs.declared.replies.Refusal.TheVariants as refusal
use Rattle.mdbox_base.specs.declared.replies.Reply.{Reply}
use Rattle.mdbox_base.specs.declared.replies.Reply.TheVariants as reply
use Rattle.mdbox_base.specs.declared.script.Half.TheVariants as half
use Rattle.model_meaning.specs.BoxMeaning.{LogRow}
use Rattle.list_machine.specs.Run.{Run}
use Rattle.journal.specs.Stages.{ToRemove, ToLower}
use Rattle.store_core.specs.Dues.{Amounts}
use Rattle.store_core.specs.Value.{StoreValue}
use Rattle.task_steps.specs.ExpungeStages.{StandsAtStage, one_due}
use Rattle.mail_ops.specs.Appends.{MapTook, MapFell, BoxTook, BoxFell, lowering_of}
use Rattle.mail_ops.specs.Event.{refusal_told, told_as}
use Rattle.mail_ops.specs.Messages.{IsRowOf, missing_message}
use Rattle.mail_ops.specs.declared.event.NotDone.{NotDone}
use Rattle.mail_ops.specs.declared.event.NotDone.TheVariants as not_done
use Rattle.mail_ops.specs.declared.expunging.ExpungeStage.{ExpungeStage}
use Rattle.mail_ops.specs.declared.expunging.ExpungeStage.TheVariants as stage

-- The mailbox and the UID of the message, which event is next, and what the last one did: nothing before the first.
pub record ExpungeValue : Type 0 where
  pub name : List ℕ
  pub uid : Uid
  pub stage : ExpungeStage
  pub did : Did

-- Where the task stands: it has removed nothing, or it owes a record, and its step said that it is done.
abbrev pub IsAtExpunge : ExpungeStage → Run → ℕ → List Reply → Type 0
IsAtExpunge stage.First run place said = StandsAtStage ToRemove run place said
IsAtExpunge (stage.Owing owed) run place said = StandsAtStage (ToLower owed.0) run place said

-- what it owes: behind its first event, one of the record of the message that it removed
abbrev pub expunge_dues : ExpungeStage → ℕ → ℕ
expunge_dues stage.First uid = 0
expunge_dues (stage.Owing owed) uid = one_due owed.0 uid

abbrev pub expunge_amounts : ExpungeStage → Amounts
expunge_amounts now = record { due = expunge_dues now }

-- how many events are still to come at the most
abbrev pub expunge_left : ExpungeStage → ℕ
expunge_left stage.First = 2
expunge_left (stage.Owing owed) = 1

-- What is answered. A stopped store replies so. The first event is refused if there is no such message, or out of memory; else
-- the request goes on, and its record is owed. The last one is done. Either may be stopped by a change of the disk that failed, the
-- first only if there is such a message.
abbrev pub ExpungeAnswers : {D : Type 0} → List ℕ → Uid → ExpungeStage → StoreValue D → StoreValue D → ExpungeStage → Progress → Type 0
ExpungeAnswers name uid stage.First old new (stage.Owing owed) progress.More = (number : ℕ) × (row : LogRow) × IsRowOf name uid.0 old number row × (owed.0 ≡ row.map_uid)
ExpungeAnswers name uid stage.First old new stage.First (progress.Done (reply.Refused refusal.Stopped)) = (new.stopped ≡ true) × (missing_message name uid.0 old ≡ None)
ExpungeAnswers name uid stage.First old new stage.First (progress.Done (reply.Refused why)) =
    (new ≡ old) × ((missing_message name uid.0 old ≡ Some why) ⊎ ((missing_message name uid.0 old ≡ None) × (why ≡ refusal.NoMemory)))
ExpungeAnswers name uid (stage.Owing owed) old new stage.First (progress.Done reply.Done) = Unit {0}
ExpungeAnswers name uid (stage.Owing owed) old new (stage.Owing still) (progress.Done (reply.Refused refusal.Stopped)) = (still ≡ owed) × (new.stopped ≡ true)
ExpungeAnswers name uid now old new next answer = ⊥

-- ---- within the crate

-- The message with this UID was removed from its mailbox, and its record is owed.
pub record RemovesRow {D : Type 0} (name : List ℕ) (uid : Uid) (owed : MapUid) (old new : StoreValue D) (before after : Option History) (began now : Faults) : Type 0 where
  pub number : ℕ
  pub row : LogRow
  pub there : IsRowOf name uid.0 old number row
  pub owes : owed.0 ≡ row.map_uid
  pub took : BoxTook number (box_entry.R uid) old new before after began now

-- A change of the disk failed as it was removed.
pub record FellRemoving {D : Type 0} (name : List ℕ) (uid : Uid) (old new : StoreValue D) (before after : Option History) (began now : Faults) : Type 0 where
  pub number : ℕ
  pub row : LogRow
  pub there : IsRowOf name uid.0 old number row
  pub fell : BoxFell number (box_entry.R uid) old new before after began now

-- why it wasn't removed
abbrev pub IsNotRemoved : {D : Type 0} → List ℕ → Uid → NotDone → StoreValue D → StoreValue D → Option History → Option History → Faults → Faults → Type 0
IsNotRemoved name uid (not_done.Refused why) old new before after began now = (new ≡ old) × (missing_message name uid.0 old ≡ Some why)
IsNotRemoved name uid not_done.NoMemory old new before after began now = (new ≡ old) × (missing_message name uid.0 old ≡ None)
IsNotRemoved name uid not_done.Stopped old new before after began now = FellRemoving name uid old new before after began now

-- What an event does, of a store that isn't stopped: from one stage to another, with this answer.
abbrev pub ExpungesOn : {D : Type 0} → List ℕ → Uid → ExpungeStage → ExpungeStage → Progress → Did → StoreValue D → StoreValue D → Option History → Option History → Faults → Faults → Type 0
ExpungesOn name uid stage.First (stage.Owing owed) progress.More how old new before after began now = (how ≡ did.Step half.Whole) × RemovesRow name uid owed old new before after began now
ExpungesOn name uid stage.First stage.First (progress.Done (reply.Refused why)) how old new before after began now =
    (e : NotDone) × (why ≡ refusal_told e) × (how ≡ told_as half.Whole (did.Broken half.Whole) e) × IsNotRemoved name uid e old new before after began now
ExpungesOn name uid (stage.Owing owed) stage.First (progress.Done reply.Done) how old new before after began now = (how ≡ did.Quiet) × MapTook (lowering_of owed) old new before after began now
ExpungesOn name uid (stage.Owing owed) (stage.Owing still) (progress.Done (reply.Refused why)) how old new before after began now =
    (still ≡ owed) × (why ≡ refusal.Stopped) × (how ≡ did.Failed) × MapFell old new before after began now
ExpungesOn name uid now next answer how old new before after began then = ⊥
