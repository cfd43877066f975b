-- Requests that move a message: where they stand, and what their events do.
use Rattle.std.specs.Prelude.{◌≡◌, ◌≢◌, ◌⊎◌, ◌<◌, ℕ, Bool, true, false, List, Option, Some, None}
use Rattle.disk_model.specs.Disk.{History, Faults}
use Rattle.mdbox_base.specs.declared.entries.BoxEntry.TheVariants as box_entry
use Rattle.mdbox_base.specs.declared.ids.BoxNo.{BoxNo}
use Rattle.mdbox_base.specs.declared.ids.MapUid.{MapUid}
use Rattle.mdbox_base.specs.declared.ids.Uid.{Uid}
use Rattle.mdbox_base.specs.declared.progress.Did.{Did}
use Rattle.mdbox_base.specs.declared.progress.Did.TheVariants as did
use Rattle.mdbox_base.specs.declared.progress.Progress.{Progress}
use Rattle.mdbox_base.specs.declared.progress.Progress.TheVariants as progress
use Rattle.mdbox_base.specs.declared.replies.Refusal.{Refusal}
use Rattle.mdbox_base.specs.declared.replies.Refusal.TheVariants as refusal
use Rattle.mdbox_base.specs.declared.replies.Reply.{Reply}
use Rattle.mdbox_base.specs.declared.replies.Reply.TheVariants as reply
use Rattle.mdbox_base.specs.declared.script.Half.TheVariants as half
use Rattle.model_appends.specs.Appending.{meanings_by}
use Rattle.model_meaning.specs.BoxMeaning.{LogRow}
use Rattle.model_meaning.specs.MapMeaning.{count_of}
use Rattle.list_machine.specs.Run.{Run}
use Rattle.store_core.specs.Dues.{Amounts}
use Rattle.store_core.specs.Keeping.{KeepsUid}
use Rattle.store_core.specs.Value.{StoreValue, indexes_of}
use Rattle.task_steps.specs.ExpungeStages.{one_due}
use Rattle.mail_ops.specs.Appends.{BoxFell, BoxTook, MapTook, MapFell, TakesIntoMap, lowering_of}
use Rattle.mail_ops.specs.CopyStages.{IsToRaise, IsHolding, IsBeginningAgain, IsGivingBack}
use Rattle.mail_ops.specs.Copying.{CopyPlace, copy_refusal, RaisesRow, IsRaiseRefusal, MayBeRaised, raising_of, IsNotRaised, IsNamedElsewhere, IsStillNamed, AddsRow, FellAdding, added_copy}
use Rattle.mail_ops.specs.Event.{refusal_told, told_as}
use Rattle.mail_ops.specs.Messages.{IsRowIn, row_numbered}
use Rattle.mail_ops.specs.MoveStages.{HasCopied, HasMoved}
use Rattle.mail_ops.specs.Owing.{AreDueIn}
use Rattle.mail_ops.specs.declared.event.NotDone.{NotDone}
use Rattle.mail_ops.specs.declared.moving.MoveStage.{MoveStage}
use Rattle.mail_ops.specs.declared.moving.MoveStage.TheVariants as stage

-- The mailbox and the UID of the message, the mailbox that it is moved to, which event is next, and what the last one did.
pub record MoveValue : Type 0 where
  pub name : List ℕ
  pub uid : Uid
  pub target : List ℕ
  pub stage : MoveStage
  pub did : Did

-- where the task of this message stands
abbrev pub IsAtMove : Uid → MoveStage → Run → ℕ → List Reply → Type 0
IsAtMove uid stage.First run place said = IsToRaise run place said
IsAtMove uid (stage.Adding held source) run place said = IsHolding held source.0 run place said
IsAtMove uid (stage.BeginningAgain held) run place said = IsBeginningAgain held run place said
IsAtMove uid (stage.GivingBack held why) run place said = IsGivingBack held why run place said
IsAtMove uid (stage.Removing held copied source) run place said = HasCopied held copied source.0 run place said
IsAtMove uid (stage.Owing owed copied) run place said = HasMoved uid owed copied run place said

-- What it holds and owes: the record of the message, behind its first event until it is added, and behind the removal.
abbrev pub move_dues : MoveStage → ℕ → ℕ
move_dues stage.First uid = 0
move_dues (stage.Adding held source) uid = one_due held.0 uid
move_dues (stage.BeginningAgain held) uid = one_due held.0 uid
move_dues (stage.GivingBack held why) uid = one_due held.0 uid
move_dues (stage.Removing held copied source) uid = 0
move_dues (stage.Owing owed copied) uid = one_due owed.0 uid

abbrev pub move_amounts : MoveStage → Amounts
move_amounts now = record { due = move_dues now }

-- How many events are still to come at the most, unless the move begins again: by then the map log has got an entry more of it.
abbrev pub move_left : MoveStage → ℕ
move_left stage.First = 4
move_left (stage.Adding held source) = 3
move_left (stage.BeginningAgain held) = 2
move_left (stage.GivingBack held why) = 1
move_left (stage.Removing held copied source) = 2
move_left (stage.Owing owed copied) = 1

-- What an event asks of the store: what the task holds or owes is due there; until the message is removed, the mailbox from which the
-- move began lists no other with the UID, if it is there still; and a count isn't given back for a store that is stopped.
abbrev pub KeepsMoved : {D : Type 0} → List ℕ → Uid → MoveStage → StoreValue D → Type 0
KeepsMoved name uid (stage.Adding held source) store = KeepsUid source.0 uid.0 held.0 store
KeepsMoved name uid (stage.GivingBack held why) store = why ≢ refusal.Stopped
KeepsMoved name uid (stage.Removing held copied source) store = KeepsUid source.0 uid.0 held.0 store
KeepsMoved name uid now store = Unit {0}

pub record IsReadyToMove {D : Type 0} (name : List ℕ) (uid : Uid) (now : MoveStage) (store : StoreValue D) : Type 0 where
  pub due : AreDueIn store (move_amounts now)
  pub source : KeepsMoved name uid now store

-- What is answered. The first event is refused, or out of memory, and has done nothing then; else the record is held, whose
-- count had room and was raised. The second adds the message of the mailbox from which it began, with the target's next UID; or it is
-- refused, or out of memory, and the count is given back, and then it is replied by what it was refused; or the name of the source
-- names another mailbox, and it does nothing: the third lowers the count, and the move begins again. Behind the addition the third removes
-- the message from the mailbox from which it began, whatever its name is, and its record is owed; or it answers that it has gone: that mailbox
-- isn't there, or doesn't list the UID. The last has lowered the count, and answers that it is moved.
abbrev pub MoveAnswers : {D : Type 0} → List ℕ → Uid → List ℕ → MoveStage → StoreValue D → StoreValue D → MoveStage → Progress → Type 0
MoveAnswers name uid target stage.First old new (stage.Adding held source) progress.More =
    (row : LogRow) × (number : ℕ) × (next : ℕ) × (at : CopyPlace name uid.0 target old row number next) × (held.0 ≡ row.map_uid) × (count_of old.map row.guid < 65535) × TakesIntoMap (raising_of held) old new
    × (at.source ≡ source.0)
MoveAnswers name uid target stage.First old new stage.First (progress.Done (reply.Refused why)) =
    ((why ≡ refusal.Stopped) × (new.stopped ≡ true) × MayBeRaised name uid.0 target old) ⊎ ((new ≡ old) × (IsRaiseRefusal name uid.0 target old why ⊎ ((why ≡ refusal.NoMemory) × MayBeRaised name uid.0 target old)))
MoveAnswers name uid target (stage.Adding held source) old new (stage.Removing still copied from) progress.More =
    (still ≡ held) × ((row : LogRow) × (number : ℕ) × (at : CopyPlace name uid.0 target old row number copied.0) × (held.0 ≡ row.map_uid) × (at.source ≡ source.0)
    × (indexes_of new.boxes ≡ meanings_by number (added_copy copied row) old.map.boxes (indexes_of old.boxes))) × (from ≡ source)
MoveAnswers name uid target (stage.Adding held source) old new (stage.Adding still same) (progress.Done (reply.Refused why)) = (still ≡ held) × (why ≡ refusal.Stopped) × (new.stopped ≡ true) × (same ≡ source)
MoveAnswers name uid target (stage.Adding held source) old new (stage.GivingBack still why) progress.More = (still ≡ held) × (new ≡ old) × ((copy_refusal name uid.0 target old ≡ Some why) ⊎ (why ≡ refusal.NoMemory))
MoveAnswers name uid target (stage.Adding held source) old new (stage.BeginningAgain still) progress.More = (still ≡ held) × (new ≡ old) × IsNamedElsewhere name uid.0 target source.0 old
MoveAnswers name uid target (stage.BeginningAgain held) old new stage.First progress.More = TakesIntoMap (lowering_of held) old new
MoveAnswers name uid target (stage.BeginningAgain held) old new (stage.BeginningAgain still) (progress.Done (reply.Refused why)) = (still ≡ held) × (why ≡ refusal.Stopped) × (new.stopped ≡ true)
MoveAnswers name uid target (stage.GivingBack held why) old new stage.First (progress.Done (reply.Refused given)) = (given ≡ why) × TakesIntoMap (lowering_of held) old new
MoveAnswers name uid target (stage.GivingBack held why) old new (stage.GivingBack still cause) (progress.Done (reply.Refused given)) = (still ≡ held) × (cause ≡ why) × (given ≡ refusal.Stopped) × (new.stopped ≡ true)
MoveAnswers name uid target (stage.Removing held copied source) old new (stage.Owing owed same) progress.More =
    (owed ≡ held) × (same ≡ copied) × ((row : LogRow) × IsRowIn source.0 uid.0 old row × (held.0 ≡ row.map_uid))
    × (indexes_of new.boxes ≡ meanings_by source.0 (box_entry.R uid) old.map.boxes (indexes_of old.boxes))
MoveAnswers name uid target (stage.Removing held copied source) old new stage.First (progress.Done (reply.Moved given gone)) =
    (given ≡ copied) × (gone ≡ true) × (new ≡ old) × (row_numbered source.0 uid.0 old ≡ None)
MoveAnswers name uid target (stage.Removing held copied source) old new (stage.Removing still same from) (progress.Done (reply.Refused why)) = (still ≡ held) × (same ≡ copied) × (why ≡ refusal.Stopped) × (new.stopped ≡ true) × (from ≡ source)
MoveAnswers name uid target (stage.Owing owed copied) old new stage.First (progress.Done (reply.Moved given gone)) = (given ≡ copied) × (gone ≡ false) × TakesIntoMap (lowering_of owed) old new
MoveAnswers name uid target (stage.Owing owed copied) old new (stage.Owing still same) (progress.Done (reply.Refused why)) = (still ≡ owed) × (same ≡ copied) × (why ≡ refusal.Stopped) × (new.stopped ≡ true)
MoveAnswers name uid target now old new next answer = ⊥

-- ---- within the crate

-- The message with this UID was removed from the mailbox with this number, and its record is owed.
pub record RemovesFrom {D : Type 0} (source : BoxNo) (uid : Uid) (owed : MapUid) (old new : StoreValue D) (before after : Option History) (began now : Faults) : Type 0 where
  pub row : LogRow
  pub there : IsRowIn source.0 uid.0 old row
  pub owes : owed.0 ≡ row.map_uid
  pub took : BoxTook source.0 (box_entry.R uid) old new before after began now

-- A change of the disk failed as it was removed.
pub record FellFrom {D : Type 0} (source : BoxNo) (uid : Uid) (old new : StoreValue D) (before after : Option History) (began now : Faults) : Type 0 where
  pub row : LogRow
  pub there : IsRowIn source.0 uid.0 old row
  pub fell : BoxFell source.0 (box_entry.R uid) old new before after began now

-- What the removal says, whether the message was there: it was removed, and its record is owed, or it had gone.
abbrev pub RemovesIfListed : {D : Type 0} → BoxNo → Uid → MapUid → Bool → StoreValue D → StoreValue D → Option History → Option History → Faults → Faults → Type 0
RemovesIfListed source uid owed true old new before after began now = RemovesFrom source uid owed old new before after began now
RemovesIfListed source uid owed false old new before after began now = (new ≡ old) × (row_numbered source.0 uid.0 old ≡ None)

-- What an event does, of a store that isn't stopped: from one stage to another, with this answer.
abbrev pub MovesOn : {D : Type 0} → List ℕ → Uid → List ℕ → MoveStage → MoveStage → Progress → Did → StoreValue D → StoreValue D → Option History → Option History → Faults → Faults → Type 0
MovesOn name uid target stage.First (stage.Adding held source) progress.More how old new before after began now = (how ≡ did.Quiet) × RaisesRow name uid target held source old new before after began now
MovesOn name uid target stage.First stage.First (progress.Done (reply.Refused why)) how old new before after began now =
    (e : NotDone) × (why ≡ refusal_told e) × (how ≡ told_as half.CopyHalf did.Failed e) × IsNotRaised name uid target e old new before after began now
MovesOn name uid target (stage.Adding held source) (stage.Removing still copied from) progress.More how old new before after began now = (still ≡ held) × (how ≡ did.Step half.CopyHalf) × AddsRow name uid target held source copied old new before after began now × (from ≡ source)
MovesOn name uid target (stage.Adding held source) (stage.Adding still same) (progress.Done (reply.Refused why)) how old new before after began now =
    (still ≡ held) × (why ≡ refusal.Stopped) × (how ≡ did.Broken half.CopyHalf) × FellAdding name uid target held source old new before after began now × (same ≡ source)
MovesOn name uid target (stage.Adding held source) (stage.GivingBack still why) progress.More how old new before after began now =
    (still ≡ held) × (new ≡ old) × (((how ≡ did.Step half.CopyHalf) × (copy_refusal name uid.0 target old ≡ Some why)) ⊎ ((how ≡ did.Quiet) × (why ≡ refusal.NoMemory) × IsStillNamed name uid.0 target source.0 old))
MovesOn name uid target (stage.Adding held source) (stage.BeginningAgain still) progress.More how old new before after began now =
    (still ≡ held) × (how ≡ did.Quiet) × (new ≡ old) × IsNamedElsewhere name uid.0 target source.0 old
MovesOn name uid target (stage.BeginningAgain held) stage.First progress.More how old new before after began now = (how ≡ did.Quiet) × MapTook (lowering_of held) old new before after began now
MovesOn name uid target (stage.BeginningAgain held) (stage.BeginningAgain still) (progress.Done (reply.Refused why)) how old new before after began now =
    (still ≡ held) × (why ≡ refusal.Stopped) × (how ≡ did.Failed) × MapFell old new before after began now
MovesOn name uid target (stage.GivingBack held why) stage.First (progress.Done (reply.Refused given)) how old new before after began now =
    (given ≡ why) × (how ≡ did.Quiet) × MapTook (lowering_of held) old new before after began now
MovesOn name uid target (stage.GivingBack held why) (stage.GivingBack still cause) (progress.Done (reply.Refused given)) how old new before after began now =
    (still ≡ held) × (cause ≡ why) × (given ≡ refusal.Stopped) × (how ≡ did.Failed) × MapFell old new before after began now
MovesOn name uid target (stage.Removing held copied source) (stage.Owing owed same) progress.More how old new before after began now =
    (owed ≡ held) × (same ≡ copied) × (how ≡ did.Step half.ExpungeHalf) × RemovesFrom source uid held old new before after began now
MovesOn name uid target (stage.Removing held copied source) stage.First (progress.Done (reply.Moved given gone)) how old new before after began now =
    (given ≡ copied) × (gone ≡ true) × (how ≡ did.Step half.ExpungeHalf) × (new ≡ old) × (row_numbered source.0 uid.0 old ≡ None)
MovesOn name uid target (stage.Removing held copied source) (stage.Removing still same from) (progress.Done (reply.Refused why)) how old new before after began now =
    (still ≡ held) × (same ≡ copied) × (why ≡ refusal.Stopped) × (how ≡ did.Broken half.ExpungeHalf) × FellFrom source uid old new before after began now × (from ≡ source)
MovesOn name uid target (stage.Owing owed copied) stage.First (progress.Done (reply.Moved given gone)) how old new before after began now =
    (given ≡ copied) × (gone ≡ false) × (how ≡ did.Quiet) × MapTook (lowering_of owed) old new before after began now
MovesOn name uid target (stage.Owing owed copied) (stage.Owing still same) (progress.Done (reply.Refused why)) how old new before after began now =
    (still ≡ owed) × (same ≡ copied) × (why ≡ refusal.Stopped) × (how ≡ did.Failed) × MapFell old new before after began now
MovesOn name uid target now next answer how old new before after began faulted = ⊥
