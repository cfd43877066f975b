-- Requests that copy a message: what they are refused for, where they stand, and what their events do.
use Rattle.std.specs.Prelude.{◌≡◌, ◌≢◌, ◌≤◌, ◌<◌, ◌⊎◌, ℕ, nat_le, List, length, is_some, if◌then◌else◌, Option, Some, None}
use Rattle.std.specs.Option.{option_map_or, option_or}
use Rattle.disk_model.specs.Disk.{History, Faults}
use Rattle.mdbox_base.specs.declared.entries.BoxEntry.{BoxEntry}
use Rattle.mdbox_base.specs.declared.entries.BoxEntry.TheVariants as box_entry
use Rattle.mdbox_base.specs.declared.entries.MapEntry.{MapEntry}
use Rattle.mdbox_base.specs.declared.entries.MapEntry.TheVariants as map_entry
use Rattle.mdbox_base.specs.declared.ids.BoxNo.{BoxNo}
use Rattle.mdbox_base.specs.declared.ids.MapUid.{MapUid}
use Rattle.mdbox_base.specs.declared.ids.Uid.{Uid}
use Rattle.mdbox_base.specs.declared.replies.Refusal.{Refusal}
use Rattle.mdbox_base.specs.declared.replies.Refusal.TheVariants as refusal
use Rattle.model_meaning.specs.BoxMeaning.{LogRow, BoxMeaning, row_at}
use Rattle.model_meaning.specs.MapMeaning.{count_of}
use Rattle.list_machine.specs.Machine.{refused_where}
use Rattle.store_core.specs.Keeping.{KeepsUid}
use Rattle.store_core.specs.Value.{StoreValue, list_named}
use Rattle.task_claims.specs.Leaving.{number_named}
use Rattle.mail_ops.specs.Appends.{MapTook, MapFell, BoxTook, BoxFell}
use Rattle.mail_ops.specs.Messages.{IsBoxOf, IsRowOf}
use Rattle.mail_ops.specs.declared.event.NotDone.{NotDone}
use Rattle.mail_ops.specs.declared.event.NotDone.TheVariants as not_done

-- ---- what is refused

-- A mailbox has no room for a further message: it lists 1,000,000, or its UIDs are used up.
abbrev pub room_refusal : BoxMeaning → Option Refusal
room_refusal m = option_or (refused_where (nat_le 1000000 (length m.rows)) (refusal.MailboxFull 1000000)) (refused_where (nat_le 4294967295 m.next) (refusal.StoreFull 4294967294))

-- Why a message isn't copied, at either event: no mailbox has the name of the source, or that of the target, there is no such
-- message, or no room.
abbrev pub copy_refusal : {D : Type 0} → List ℕ → ℕ → List ℕ → StoreValue D → Option Refusal
copy_refusal name uid target store =
    option_map_or (λ from. option_map_or (λ to. if is_some (row_at from uid) then room_refusal to else Some refusal.NoMessage) (list_named store target) (Some refusal.NoMailbox)) (list_named store name) (Some refusal.NoMailbox)

-- ---- within the crate

-- A message that can be copied: its row, and the number and the next UID of the mailbox that it is copied to.
pub record CopyPlace {D : Type 0} (name : List ℕ) (uid : ℕ) (target : List ℕ) (store : StoreValue D) (row : LogRow) (number next : ℕ) : Type 0 where
  pub source : ℕ
  pub from : IsRowOf name uid store source row
  pub m : BoxMeaning
  pub to : IsBoxOf target store number m
  pub next_is : next ≡ m.next
  pub few : length m.rows < 1000000
  pub some : next ≤ 4294967294

-- the entry that raises a count, and the one that adds a copy of a row with this UID
abbrev pub raising_of : MapUid → MapEntry
raising_of uid = map_entry.U uid

abbrev pub added_copy : Uid → LogRow → BoxEntry
added_copy given row = box_entry.A given row.flags row.time row.size (record { 0 = row.map_uid }) (record { 0 = row.guid }) row.words

-- The count of the message's record was raised, of the mailbox with this number.
pub record RaisesRow {D : Type 0} (name : List ℕ) (uid : Uid) (target : List ℕ) (held : MapUid) (source : BoxNo) (old new : StoreValue D) (before after : Option History) (began now : Faults) : Type 0 where
  pub row : LogRow
  pub number : ℕ
  pub next : ℕ
  pub at : CopyPlace name uid.0 target old row number next
  pub source_is : at.source ≡ source.0
  pub holds : held.0 ≡ row.map_uid
  pub few : count_of old.map row.guid < 65535
  pub keeps : KeepsUid source.0 uid.0 held.0 old
  pub took : MapTook (raising_of held) old new before after began now

-- why it wasn't
pub record HasTooManyCopies {D : Type 0} (name : List ℕ) (uid : ℕ) (target : List ℕ) (store : StoreValue D) : Type 0 where
  pub row : LogRow
  pub number : ℕ
  pub next : ℕ
  pub at : CopyPlace name uid target store row number next
  pub many : 65535 ≤ count_of store.map row.guid

-- none of that: there is room, and the count can rise
pub record MayBeRaised {D : Type 0} (name : List ℕ) (uid : ℕ) (target : List ℕ) (store : StoreValue D) : Type 0 where
  pub row : LogRow
  pub number : ℕ
  pub next : ℕ
  pub at : CopyPlace name uid target store row number next
  pub few : count_of store.map row.guid < 65535

abbrev pub IsRaiseRefusal : {D : Type 0} → List ℕ → ℕ → List ℕ → StoreValue D → Refusal → Type 0
IsRaiseRefusal name uid target store why = (copy_refusal name uid target store ≡ Some why) ⊎ (HasTooManyCopies name uid target store × (why ≡ refusal.TooManyCopies 65535))

abbrev pub IsNotRaised : {D : Type 0} → List ℕ → Uid → List ℕ → NotDone → StoreValue D → StoreValue D → Option History → Option History → Faults → Faults → Type 0
IsNotRaised name uid target (not_done.Refused why) old new before after began now = (new ≡ old) × IsRaiseRefusal name uid.0 target old why
IsNotRaised name uid target not_done.NoMemory old new before after began now = (new ≡ old) × MayBeRaised name uid.0 target old
IsNotRaised name uid target not_done.Stopped old new before after began now = MapFell old new before after began now × MayBeRaised name uid.0 target old

-- No check refuses the message, and the name of its source names the mailbox from which it began, or another.
pub record IsStillNamed {D : Type 0} (name : List ℕ) (uid : ℕ) (target : List ℕ) (source : ℕ) (store : StoreValue D) : Type 0 where
  pub free : copy_refusal name uid target store ≡ None
  pub named : number_named store.map name ≡ Some source

pub record IsNamedElsewhere {D : Type 0} (name : List ℕ) (uid : ℕ) (target : List ℕ) (source : ℕ) (store : StoreValue D) : Type 0 where
  pub other : ℕ
  pub free : copy_refusal name uid target store ≡ None
  pub named : number_named store.map name ≡ Some other
  pub differs : other ≢ source

-- The message was added to the target, from the mailbox with this number, by the record that is held.
pub record AddsRow {D : Type 0} (name : List ℕ) (uid : Uid) (target : List ℕ) (held : MapUid) (source : BoxNo) (given : Uid) (old new : StoreValue D) (before after : Option History) (began now : Faults) : Type 0 where
  pub row : LogRow
  pub number : ℕ
  pub at : CopyPlace name uid.0 target old row number given.0
  pub source_is : at.source ≡ source.0
  pub holds : held.0 ≡ row.map_uid
  pub took : BoxTook number (added_copy given row) old new before after began now

pub record FellAdding {D : Type 0} (name : List ℕ) (uid : Uid) (target : List ℕ) (held : MapUid) (source : BoxNo) (old new : StoreValue D) (before after : Option History) (began now : Faults) : Type 0 where
  pub row : LogRow
  pub number : ℕ
  pub given : Uid
  pub at : CopyPlace name uid.0 target old row number given.0
  pub source_is : at.source ≡ source.0
  pub holds : held.0 ≡ row.map_uid
  pub fell : BoxFell number (added_copy given row) old new before after began now

-- What the second event did: the message was added, with this UID, or it is to begin again.
abbrev pub AddsUnless : {D : Type 0} → List ℕ → Uid → List ℕ → MapUid → BoxNo → Option Uid → StoreValue D → StoreValue D → Option History → Option History → Faults → Faults → Type 0
AddsUnless name uid target held source (Some given) old new before after began now = AddsRow name uid target held source given old new before after began now
AddsUnless name uid target held source None old new before after began now = (new ≡ old) × IsNamedElsewhere name uid.0 target source.0 old

abbrev pub IsNotAdded : {D : Type 0} → List ℕ → Uid → List ℕ → MapUid → BoxNo → NotDone → StoreValue D → StoreValue D → Option History → Option History → Faults → Faults → Type 0
IsNotAdded name uid target held source (not_done.Refused why) old new before after began now = (new ≡ old) × (copy_refusal name uid.0 target old ≡ Some why)
IsNotAdded name uid target held source not_done.NoMemory old new before after began now = (new ≡ old) × IsStillNamed name uid.0 target source.0 old
IsNotAdded name uid target held source not_done.Stopped old new before after began now = FellAdding name uid target held source old new before after began now
