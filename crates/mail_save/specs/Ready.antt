-- What a delivery has between its events, of the message with these octets: what each event needs of the store and its disk.
use Rattle.std.specs.Prelude.{◌≡◌, ◌≤◌, ◌⊎◌, ℕ, List, length, Option, Some, None, IsSome}
use Rattle.attach_detach.specs.Prepared.{IsPrepared}
use Rattle.attach_detach.specs.declared.message.Prepared.{Prepared}
use Rattle.disk_model.specs.Disk.{DiskState, History, IfTold, MayLeave, reading}
use Rattle.disk_model.specs.declared.name.FileName.{FileName}
use Rattle.disk_model.specs.declared.name.FileName.TheVariants.{Mail}
use Rattle.mdbox_base.specs.declared.entries.InstRow.{InstRow}
use Rattle.mdbox_base.specs.declared.ids.MapUid.{MapUid}
use Rattle.mdbox_base.specs.declared.ids.Uid.{Uid}
use Rattle.model_meaning.specs.MapMeaning.{MapRecord, record_at}
use Rattle.model_store.specs.Settled.{files_of}
use Rattle.save_instances.specs.Attaching.{next_attachment}
use Rattle.saved_message.specs.Saved.{CanBeWritten, HasWritten}
use Rattle.store_core.specs.Append.{Brings}
use Rattle.store_core.specs.Dues.{due_at}
use Rattle.store_core.specs.Value.{StoreValue, references_to}
use Rattle.mail_save.specs.Added.{entry_added}
use Rattle.mail_save.specs.Parts.{AreAttached, AreBeingAttached}
use Rattle.mail_save.specs.SaveEffects.{saved_row}
use Rattle.mail_save.specs.declared.add.Added.{Added}
use Rattle.mail_save.specs.declared.place.SavedAt.{SavedAt}
use Rattle.mail_save.specs.declared.task.SaveStage.{SaveStage}
use Rattle.mail_save.specs.declared.task.SaveStage.TheVariants as stage

-- A crash leaves the file as the disk reads it, or leaves none.
abbrev pub IsLeftSoOrGone : FileName → DiskState → Type 0
IsLeftSoOrGone name now = (left : Option (List ℕ)) → MayLeave (now name) left → (left ≡ reading (now name)) ⊎ (left ≡ None)

-- The region that was placed has the octets that are written of the message, with any map uid in its record, and a crash leaves its
-- file so, or leaves none.
pub record IsPlacedReady (at : SavedAt) (rows : List InstRow) (name : List ℕ) (time : ℕ) (octets : List ℕ) (history : Option History) : Type 0 where
  pub prepared : Prepared
  pub can : CanBeWritten name time octets prepared
  pub written : (uid : MapUid) → IfTold history (λ now. HasWritten (files_of now) (saved_row rows uid at) name time prepared)
  pub left : IfTold history (IsLeftSoOrGone (Mail at.file.0))

-- The record that was stored has a region with the octets that are written of the message, and brings the message to any mailbox,
-- under any UID. None lists it yet, and one of it is due: no other task holds or owes any.
pub record IsRecordReady {D : Type 0} (added : Added) (name : List ℕ) (time : ℕ) (octets : List ℕ) (store : StoreValue D) (history : Option History) : Type 0 where
  pub time_is : added.time ≡ time
  pub size_is : added.size ≡ length octets
  pub prepared : Prepared
  pub form : IsPrepared octets prepared
  pub row : MapRecord
  pub there : record_at store.map added.map_uid.0 ≡ Some row
  pub guid_is : row.guid ≡ added.guid.0
  pub written : IfTold history (λ now. HasWritten (files_of now) row name time prepared)
  pub brings : (uid : Uid) → Brings store.map (entry_added uid added) octets history
  pub unlisted : references_to store added.guid.0 ≡ 0
  pub alone : due_at added.map_uid.0 store ≡ 1

-- the message has so many octets
abbrev pub HasSize : ℕ → List ℕ → Type 0
HasSize size octets = (size ≡ length octets) × (length octets ≤ 67108864)

-- What an event needs beside what the task and the store have (`HasLeft`), of a delivery to this mailbox at this time, of so many
-- octets.
abbrev pub IsReadyToSave : {D : Type 0} → SaveStage → List ℕ → ℕ → ℕ → List ℕ → StoreValue D → Option History → Type 0
IsReadyToSave (stage.First prepared) name time size octets store history = HasSize size octets × IsPrepared octets prepared
IsReadyToSave (stage.Attaching parts attaching) name time size octets store history = HasSize size octets × AreBeingAttached name time octets parts attaching store history × IsSome (next_attachment attaching)
IsReadyToSave (stage.Taking parts) name time size octets store history = HasSize size octets × AreAttached name time octets parts store history
IsReadyToSave (stage.Placing parts file) name time size octets store history = HasSize size octets × AreAttached name time octets parts store history
IsReadyToSave (stage.Storing at rows room) name time size octets store history = HasSize size octets × IsPlacedReady at rows name time octets history
IsReadyToSave (stage.Adding added room) name time size octets store history = HasSize size octets × IsRecordReady added name time octets store history
IsReadyToSave now name time size octets store history = HasSize size octets
