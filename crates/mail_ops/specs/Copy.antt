-- Requests that copy a message: where they stand, and what their events do.
use Rattle.std.specs.Prelude.{◌≡◌, ◌≢◌, ◌⊎◌, ◌<◌, ℕ, true, List, Option, Some}
use Rattle.std.specs.Option.{option_map_or}
use Rattle.disk_model.specs.Disk.{History, Faults}
use Rattle.mdbox_base.specs.declared.ids.Uid.{Uid}
use Rattle.mdbox_base.specs.declared.progress.Did.{Did}
use Rattle.mdbox_base.specs.declared.progress.Did.TheVariants as did
use Rattle.mdbox_base.specs.declared.progress.Progress.{Progress}
use Rattle.mdbox_base.specs.declared.progress.Progress.TheVariants as progress
use Rattle.mdbox_base.specs.declared.replies.Refusal.TheVariants as refusal
use Rattle.mdbox_base.specs.declared.replies.Reply.{Reply}
use Rattle.mdbox_base.specs.declared.replies.Reply.TheVariants as reply
use Rattle.mdbox_base.specs.declared.script.Half.TheVariants as half
use Rattle.model_lists.specs.Lists.{Lists}
use Rattle.model_appends.specs.Appending.{meanings_by}
use Rattle.model_meaning.specs.BoxMeaning.{LogRow}
use Rattle.model_meaning.specs.MapMeaning.{count_of}
use Rattle.list_machine.specs.Run.{Run}
use Rattle.list_machine.specs.Machine.{add_message, message_at}
use Rattle.store_core.specs.Dues.{Amounts}
use Rattle.store_core.specs.Keeping.{KeepsUid}
use Rattle.store_core.specs.Value.{StoreValue, indexes_of}
use Rattle.task_steps.specs.ExpungeStages.{one_due}
use Rattle.mail_ops.specs.Appends.{MapTook, MapFell, TakesIntoMap, lowering_of}
use Rattle.mail_ops.specs.CopyStages.{IsToRaise, IsHolding, IsBeginningAgain, IsGivingBack}
use Rattle.mail_ops.specs.Copying.{CopyPlace, copy_refusal, RaisesRow, IsRaiseRefusal, MayBeRaised, raising_of, IsNotRaised, IsNamedElsewhere, IsStillNamed, AddsRow, FellAdding, added_copy}
use Rattle.mail_ops.specs.Event.{refusal_told, told_as}
use Rattle.mail_ops.specs.Owing.{AreDueIn}
use Rattle.mail_ops.specs.declared.copy.CopyStage.{CopyStage}
use Rattle.mail_ops.specs.declared.copy.CopyStage.TheVariants as stage
use Rattle.mail_ops.specs.declared.event.NotDone.{NotDone}

-- The mailbox and the UID of the message, the mailbox that it is copied to, which event is next, and what the last one did.
pub record CopyValue : Type 0 where
  pub name : List ℕ
  pub uid : Uid
  pub target : List ℕ
  pub stage : CopyStage
  pub did : Did

-- where the task stands
abbrev pub IsAtCopy : CopyStage → Run → ℕ → List Reply → Type 0
IsAtCopy stage.First run place said = IsToRaise run place said
IsAtCopy (stage.Adding held source) run place said = IsHolding held source.0 run place said
IsAtCopy (stage.BeginningAgain held) run place said = IsBeginningAgain held run place said
IsAtCopy (stage.GivingBack held why) run place said = IsGivingBack held why run place said

-- what it holds: behind its first event, the record of the message
abbrev pub copy_dues : CopyStage → ℕ → ℕ
copy_dues stage.First uid = 0
copy_dues (stage.Adding held source) uid = one_due held.0 uid
copy_dues (stage.BeginningAgain held) uid = one_due held.0 uid
copy_dues (stage.GivingBack held why) uid = one_due held.0 uid

abbrev pub copy_amounts : CopyStage → Amounts
copy_amounts now = record { due = copy_dues now }

-- How many events are still to come at the most, unless the copy begins again: by then the map log has got an entry more of it.
abbrev pub copy_left : CopyStage → ℕ
copy_left stage.First = 3
copy_left (stage.Adding held source) = 2
copy_left (stage.BeginningAgain held) = 1
copy_left (stage.GivingBack held why) = 1

-- What an event asks of the store: what the task holds is due there, the mailbox from which it began lists no other message with the
-- UID, if it is there still, and a count isn't given back for a store that is stopped.
abbrev pub KeepsSource : {D : Type 0} → List ℕ → Uid → CopyStage → StoreValue D → Type 0
KeepsSource name uid (stage.Adding held source) store = KeepsUid source.0 uid.0 held.0 store
KeepsSource name uid (stage.GivingBack held why) store = why ≢ refusal.Stopped
KeepsSource name uid now store = Unit {0}

pub record IsReadyToCopy {D : Type 0} (name : List ℕ) (uid : Uid) (now : CopyStage) (store : StoreValue D) : Type 0 where
  pub due : AreDueIn store (copy_amounts now)
  pub source : KeepsSource name uid now store

-- the lists with the copy
abbrev pub copied_lists : List ℕ → Uid → List ℕ → Lists → Lists
copied_lists name uid target lists = option_map_or (λ message. add_message target message lists) (message_at name uid.0 lists) lists

-- What is answered. The first event is refused, or out of memory, and has done nothing then; else the record is held, whose
-- count had room and was raised. The second adds the message of the mailbox from which it began, with the target's next UID; or it is
-- refused, or out of memory, and the count is given back; or the name of the source names another mailbox, and it does nothing: the third
-- lowers the count, and the copy begins again. Else the third replies by what the second was refused, and has lowered the count.
abbrev pub CopyAnswers : {D : Type 0} → List ℕ → Uid → List ℕ → CopyStage → StoreValue D → StoreValue D → CopyStage → Progress → Type 0
CopyAnswers name uid target stage.First old new (stage.Adding held source) progress.More =
    (row : LogRow) × (number : ℕ) × (next : ℕ) × (at : CopyPlace name uid.0 target old row number next) × (held.0 ≡ row.map_uid) × (count_of old.map row.guid < 65535) × TakesIntoMap (raising_of held) old new
    × (at.source ≡ source.0)
CopyAnswers name uid target stage.First old new stage.First (progress.Done (reply.Refused why)) =
    ((why ≡ refusal.Stopped) × (new.stopped ≡ true) × MayBeRaised name uid.0 target old) ⊎ ((new ≡ old) × (IsRaiseRefusal name uid.0 target old why ⊎ ((why ≡ refusal.NoMemory) × MayBeRaised name uid.0 target old)))
CopyAnswers name uid target (stage.Adding held source) old new stage.First (progress.Done (reply.Copied given)) =
    (row : LogRow) × (number : ℕ) × (at : CopyPlace name uid.0 target old row number given.0) × (held.0 ≡ row.map_uid) × (at.source ≡ source.0)
    × (indexes_of new.boxes ≡ meanings_by number (added_copy given row) old.map.boxes (indexes_of old.boxes))
CopyAnswers name uid target (stage.Adding held source) old new (stage.Adding still same) (progress.Done (reply.Refused why)) = (still ≡ held) × (why ≡ refusal.Stopped) × (new.stopped ≡ true) × (same ≡ source)
CopyAnswers name uid target (stage.Adding held source) old new (stage.GivingBack still why) progress.More = (still ≡ held) × (new ≡ old) × ((copy_refusal name uid.0 target old ≡ Some why) ⊎ (why ≡ refusal.NoMemory))
CopyAnswers name uid target (stage.Adding held source) old new (stage.BeginningAgain still) progress.More = (still ≡ held) × (new ≡ old) × IsNamedElsewhere name uid.0 target source.0 old
CopyAnswers name uid target (stage.BeginningAgain held) old new stage.First progress.More = TakesIntoMap (lowering_of held) old new
CopyAnswers name uid target (stage.BeginningAgain held) old new (stage.BeginningAgain still) (progress.Done (reply.Refused why)) = (still ≡ held) × (why ≡ refusal.Stopped) × (new.stopped ≡ true)
CopyAnswers name uid target (stage.GivingBack held why) old new stage.First (progress.Done (reply.Refused given)) = (given ≡ why) × TakesIntoMap (lowering_of held) old new
CopyAnswers name uid target (stage.GivingBack held why) old new (stage.GivingBack still cause) (progress.Done (reply.Refused given)) = (still ≡ held) × (cause ≡ why) × (given ≡ refusal.Stopped) × (new.stopped ≡ true)
CopyAnswers name uid target now old new next answer = ⊥

-- ---- within the crate

-- What an event does, of a store that isn't stopped: from one stage to another, with this answer.
abbrev pub CopiesOn : {D : Type 0} → List ℕ → Uid → List ℕ → CopyStage → CopyStage → Progress → Did → StoreValue D → StoreValue D → Option History → Option History → Faults → Faults → Type 0
CopiesOn name uid target stage.First (stage.Adding held source) progress.More how old new before after began now = (how ≡ did.Quiet) × RaisesRow name uid target held source old new before after began now
CopiesOn name uid target stage.First stage.First (progress.Done (reply.Refused why)) how old new before after began now =
    (e : NotDone) × (why ≡ refusal_told e) × (how ≡ told_as half.Whole did.Failed e) × IsNotRaised name uid target e old new before after began now
CopiesOn name uid target (stage.Adding held source) stage.First (progress.Done (reply.Copied given)) how old new before after began now = (how ≡ did.Step half.Whole) × AddsRow name uid target held source given old new before after began now
CopiesOn name uid target (stage.Adding held source) (stage.Adding still same) (progress.Done (reply.Refused why)) how old new before after began now =
    (still ≡ held) × (why ≡ refusal.Stopped) × (how ≡ did.Broken half.Whole) × FellAdding name uid target held source old new before after began now × (same ≡ source)
CopiesOn name uid target (stage.Adding held source) (stage.GivingBack still why) progress.More how old new before after began now =
    (still ≡ held) × (new ≡ old) × (((how ≡ did.Step half.Whole) × (copy_refusal name uid.0 target old ≡ Some why)) ⊎ ((how ≡ did.Quiet) × (why ≡ refusal.NoMemory) × IsStillNamed name uid.0 target source.0 old))
CopiesOn name uid target (stage.Adding held source) (stage.BeginningAgain still) progress.More how old new before after began now =
    (still ≡ held) × (how ≡ did.Quiet) × (new ≡ old) × IsNamedElsewhere name uid.0 target source.0 old
CopiesOn name uid target (stage.BeginningAgain held) stage.First progress.More how old new before after began now = (how ≡ did.Quiet) × MapTook (lowering_of held) old new before after began now
CopiesOn name uid target (stage.BeginningAgain held) (stage.BeginningAgain still) (progress.Done (reply.Refused why)) how old new before after began now =
    (still ≡ held) × (why ≡ refusal.Stopped) × (how ≡ did.Failed) × MapFell old new before after began now
CopiesOn name uid target (stage.GivingBack held why) stage.First (progress.Done (reply.Refused given)) how old new before after began now =
    (given ≡ why) × (how ≡ did.Quiet) × MapTook (lowering_of held) old new before after began now
CopiesOn name uid target (stage.GivingBack held why) (stage.GivingBack still cause) (progress.Done (reply.Refused given)) how old new before after began now =
    (still ≡ held) × (cause ≡ why) × (given ≡ refusal.Stopped) × (how ≡ did.Failed) × MapFell old new before after began now
CopiesOn name uid target now next answer how old new before after began faulted = ⊥
