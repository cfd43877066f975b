-- What each event of a delivery makes of the store.
use Rattle.std.specs.Prelude.{◌≡◌, ◌≤◌, ◌≢◌, ◌⊎◌, ◌<◌, ◌+◌, ℕ, Bool, max, true, false, List, [], length, if◌then◌else◌, Option, Some, None, IsSome}
use Rattle.attach_detach.specs.declared.message.Detached.{Detached}
use Rattle.attach_detach.specs.declared.message.Prepared.{Prepared}
use Rattle.disk_model.specs.Disk.{History}
use Rattle.mdbox_base.specs.declared.entries.InstRow.{InstRow}
use Rattle.mdbox_base.specs.declared.ids.BoxNo.{BoxNo}
use Rattle.mdbox_base.specs.declared.ids.FileNo.{FileNo}
use Rattle.mdbox_base.specs.declared.ids.InstId.{InstId}
use Rattle.mdbox_base.specs.declared.ids.MapUid.{MapUid}
use Rattle.mdbox_base.specs.declared.ids.Uid.{Uid}
use Rattle.mdbox_base.specs.declared.progress.Progress.{Progress}
use Rattle.mdbox_base.specs.declared.progress.Progress.TheVariants as progress
use Rattle.mdbox_base.specs.declared.replies.Refusal.{Refusal}
use Rattle.mdbox_base.specs.declared.replies.Refusal.TheVariants as refusal
use Rattle.mdbox_base.specs.declared.replies.Reply.TheVariants as reply
use Rattle.model_appends.specs.Amounts.{due_by, due_by_box}
use Rattle.model_appends.specs.Appending.{meanings_by}
use Rattle.model_appends.specs.MapAppending.{stored_row}
use Rattle.model_meaning.specs.BoxMeaning.{BoxMeaning}
use Rattle.model_meaning.specs.MapFits.{MapFits}
use Rattle.model_meaning.specs.MapMeaning.{MapRecord, map_applied, record_at}
use Rattle.save_instances.specs.Attaching.{AttachingValue, candidate_held, found_let_go, next_attachment, next_candidate, nothing_found, part_row, with_compared, with_found}
use Rattle.saved_message.specs.Laid.{IsLaid}
use Rattle.saved_message.specs.Region.{guid_of_place, unknown_ids}
use Rattle.saved_message.specs.Saved.{ids_in}
use Rattle.sis_store.specs.Instances.{after_placing, next_id}
use Rattle.storage_files.specs.Files.{FilesValue, IsTakeFor, after_take, changed_in, end_in, ending_at, is_taken_in, released_in}
use Rattle.storage_files.specs.declared.file.Take.{Take}
use Rattle.storage_files.specs.declared.file.Take.TheVariants.{Known, New, Full}
use Rattle.store_core.specs.Dues.{due_at, IsSpared}
use Rattle.store_core.specs.StoreInstances.{with_placed}
use Rattle.store_core.specs.Value.{StoreValue, indexes_of, list_named}
use Rattle.mail_save.specs.Added.{HasRoomUnder, entry_added}
use Rattle.mail_save.specs.Events.{instance_refusal, save_refusal}
use Rattle.mail_save.specs.Parts.{AreLaidOut}
use Rattle.mail_save.specs.Record.{entry_stored, entry_lowered}
use Rattle.mail_save.specs.declared.add.Added.{Added}
use Rattle.mail_save.specs.declared.first.SavedParts.{SavedParts}
use Rattle.mail_save.specs.declared.place.SavedAt.{SavedAt}
use Rattle.mail_save.specs.declared.task.SaveStage.{SaveStage}
use Rattle.mail_save.specs.declared.task.SaveStage.TheVariants as stage

-- ---- what stays

-- the storage files end where they did, or all but one do
abbrev pub AreEndsSame : {D : Type 0} → StoreValue D → StoreValue D → Type 0
AreEndsSame old new = (number : ℕ) → end_in number new.files.files ≡ end_in number old.files.files

abbrev pub AreOtherEndsSame : {D : Type 0} → ℕ → StoreValue D → StoreValue D → Type 0
AreOtherEndsSame file old new = (number : ℕ) → number ≢ file → end_in number new.files.files ≡ end_in number old.files.files

-- all storage files but one are taken as they were
abbrev pub AreOthersTaken : {D : Type 0} → ℕ → StoreValue D → StoreValue D → Type 0
AreOthersTaken file old new = (number : ℕ) → number ≢ file → is_taken_in number new.files.files ≡ is_taken_in number old.files.files

-- What the logs mean stays, and so does all else but the disk, and whether the store is stopped. The room of the map log doesn't
-- fall, and neither does its end, unless the store is stopped.
pub record IsLeftAlone {D : Type 0} (old new : StoreValue D) : Type 0 where
  pub indexes : indexes_of new.boxes ≡ indexes_of old.boxes
  pub room : old.map_log.room ≤ new.map_log.room
  pub end : new.stopped ≡ false → old.map_log.end ≤ new.map_log.end
  pub same : new ≡ record old { disk = new.disk; map_log = new.map_log; boxes = new.boxes; stopped = new.stopped }

-- each record is there still, and stores what it stored
abbrev pub AreSpared : {D : Type 0} → StoreValue D → StoreValue D → Option History → Option History → Type 0
AreSpared old new before after = (uid : ℕ) (row : MapRecord) → record_at old.map uid ≡ Some row → IsSpared uid row new before after

-- ---- the first event

-- The message may be saved. It is laid out, with zeros for the ids of its instances, none of which was found yet.
pub record LaysOut {D : Type 0} (name : List ℕ) (time : ℕ) (prepared : Prepared) (parts : SavedParts) (store : StoreValue D) : Type 0 where
  pub allowed : save_refusal name store ≡ None
  pub laid : AreLaidOut name time prepared (unknown_ids prepared.parts) parts
  pub rows : parts.rows ≡ []

-- ---- an attachment is compared or placed

-- what is known after a candidate was compared, which is held if it has the attachment's octets
abbrev pub after_comparing : {D : Type 0} → Bool → InstRow → D → StoreValue D → StoreValue D
after_comparing alike candidate disk store = record store { disk = disk; instances = record store.instances { known = if alike then candidate_held candidate store.instances.known else store.instances.known } }

-- The next attachment was compared with a candidate, which is its instance if it has its octets.
pub record ComparesNext {D : Type 0} (attaching more : AttachingValue) (old new : StoreValue D) : Type 0 where
  pub candidate : InstRow
  pub alike : Bool
  pub next : next_candidate attaching old.instances ≡ Some candidate
  pub more_is : more ≡ (if alike then with_found candidate attaching else with_compared candidate old.instances.highest attaching)
  pub same : new ≡ after_comparing alike candidate new.disk old

-- No candidate is left: it was placed as an instance, with the next running number.
pub record PlacesNext {D : Type 0} (attaching more : AttachingValue) (old new : StoreValue D) : Type 0 where
  pub part : Detached
  pub next : next_attachment attaching ≡ Some part
  pub compared : next_candidate attaching old.instances ≡ None
  pub few : instance_refusal old.drawn.instance ≡ None
  pub more_is : more ≡ with_found (part_row part (next_id old.instances)) attaching
  pub same : new ≡ with_placed new.disk (after_placing part.hash (length part.octets) old.instances) old

abbrev pub AttachesNext : {D : Type 0} → AttachingValue → AttachingValue → StoreValue D → StoreValue D → Type 0
AttachesNext attaching more old new = ComparesNext attaching more old new ⊎ PlacesNext attaching more old new

-- With these instances one was found for each attachment: what was laid out names them now.
pub record NamesFound (found : List InstRow) (parts named : SavedParts) : Type 0 where
  pub header : named.header ≡ parts.header
  pub rows : named.rows ≡ found
  pub region : (name : List ℕ) (time : ℕ) (prepared : Prepared) (ids : List InstId) (guid : List ℕ) → IsLaid name time prepared ids guid parts.laid → IsLaid name time prepared (ids_in found) guid named.laid

-- No instance was found: the candidate could not be read; or none is left, and the running numbers are used up, there was no
-- memory, or a change of the disk failed, which leaves the number drawn.
abbrev pub AttachesNone : {D : Type 0} → AttachingValue → Refusal → StoreValue D → StoreValue D → Type 0
AttachesNone attaching refusal.Stopped old new =
    (next_candidate attaching old.instances ≡ None) × (instance_refusal old.drawn.instance ≡ None) × (new ≡ record (with_placed new.disk (record old.instances { highest = old.instances.highest + 1 }) old) { stopped = true })
AttachesNone attaching refusal.ReadFault old new = IsSome (next_candidate attaching old.instances) × (new ≡ record old { disk = new.disk })
AttachesNone attaching why old new = (next_candidate attaching old.instances ≡ None) × (new ≡ record old { disk = new.disk })

-- The instances that were found for a request that has ended, or which a record names now, are held once less for each.
abbrev pub LetsGo : {D : Type 0} → List InstRow → StoreValue D → StoreValue D → Type 0
LetsGo found old new = new ≡ record old { instances = record old.instances { known = found_let_go found old.instances.known } }

-- the store became this, and then these instances were let go
abbrev pub AndLetsGo : {D : Type 0} → List InstRow → (StoreValue D → Type 0) → StoreValue D → Type 0
AndLetsGo found Becomes new = (left : StoreValue _) × Becomes left × LetsGo found left new

-- ---- a storage file is taken

-- It was there, or it is new, with the next number, and was made with a header of so many octets.
abbrev pub TookAs : {D : Type 0} → Take → ℕ → FileNo → StoreValue D → StoreValue D → Type 0
TookAs (Known taken) header file old new = (taken ≡ file) × (new.drawn ≡ old.drawn) × AreEndsSame old new
TookAs (New taken) header file old new =
    (taken ≡ file) × (new.drawn ≡ record old.drawn { file = file.0 }) × (end_in file.0 old.files.files ≡ None) × (end_in file.0 new.files.files ≡ Some header) × AreOtherEndsSame file.0 old new
TookAs Full header file old new = ⊥

-- with room for one more
abbrev pub roomy_files : FilesValue → FilesValue
roomy_files files = record files { spare = max files.spare 1 }

-- behind one that was taken; a new one was made with a header of so many octets
abbrev pub taken_files : Take → ℕ → FilesValue → FilesValue
taken_files (New file) header files = record (after_take (New file) files) { files = changed_in file.0 (ending_at header) (after_take (New file) files).files }
taken_files take header files = after_take take files

-- This file was taken for so many octets, which nobody had taken. A new one has a header of so many.
pub record TakesFileFor {D : Type 0} (header size : ℕ) (file : FileNo) (old new : StoreValue D) : Type 0 where
  pub take : Take
  pub is : IsTakeFor size old.files take
  pub took : TookAs take header file old new
  pub files : new.files ≡ taken_files take header (roomy_files old.files)
  pub free : is_taken_in file.0 old.files.files ≡ false
  pub others : AreOthersTaken file.0 old new
  pub same : new ≡ record old { disk = new.disk; files = new.files; drawn = new.drawn }

-- None was taken, since there was no memory, no file has room and all numbers are used up, or a new one could not be made.
pub record FindsNoNumber {D : Type 0} (size : ℕ) (old new : StoreValue D) : Type 0 where
  pub full : IsTakeFor size old.files Full
  pub same : new ≡ record old { files = roomy_files old.files }

pub record FailsToMake {D : Type 0} (size : ℕ) (old new : StoreValue D) : Type 0 where
  pub file : FileNo
  pub is : IsTakeFor size old.files (New file)
  pub free : is_taken_in file.0 old.files.files ≡ false
  pub ends : AreEndsSame old new
  pub others : AreOthersTaken file.0 old new
  pub same : new ≡ record old { disk = new.disk; files = after_take (New file) (roomy_files old.files); drawn = record old.drawn { file = file.0 }; stopped = true }

abbrev pub TakesNone : {D : Type 0} → ℕ → Refusal → StoreValue D → StoreValue D → Type 0
TakesNone size why old new =
    ((why ≡ refusal.NoMemory) × (new ≡ old)) ⊎ (((why ≡ refusal.StoreFull 4294967294) × FindsNoNumber size old new) ⊎ ((why ≡ refusal.Stopped) × FailsToMake size old new))

-- ---- the message is placed

-- Its region stands at the old end of the file that was taken, and its GUID names this place.
pub record PlacesParts {D : Type 0} (parts : SavedParts) (file : FileNo) (at : SavedAt) (rows : List InstRow) (old new : StoreValue D) : Type 0 where
  pub file_is : at.file ≡ file
  pub rows_are : rows ≡ parts.rows
  pub size_is : at.size ≡ length parts.laid.region
  pub guid : at.guid.0 ≡ guid_of_place old.map.store file.0 at.offset
  pub began : end_in file.0 old.files.files ≡ Some at.offset
  pub ends : end_in file.0 new.files.files ≡ Some (at.offset + at.size)
  pub others : AreOtherEndsSame file.0 old new
  pub taken : (number : ℕ) → is_taken_in number new.files.files ≡ is_taken_in number old.files.files
  pub same : new ≡ record old { disk = new.disk; files = record old.files { files = changed_in file.0 (ending_at (at.offset + at.size)) old.files.files } }

-- ---- its record is stored

-- the record of a message that was placed
abbrev pub saved_row : List InstRow → MapUid → SavedAt → MapRecord
saved_row rows uid at = stored_row 0 1 uid at.file at.offset at.size at.guid rows

-- It has the next map uid, and one of it is due. The storage file is given back. The map log grows, and its room doesn't fall.
pub record StoresPlaced {D : Type 0} (at : SavedAt) (rows : List InstRow) (time size : ℕ) (added : Added) (old new : StoreValue D) : Type 0 where
  pub uid_is : added.map_uid.0 ≡ old.drawn.map + 1
  pub few : old.drawn.map < 4294967294
  pub fits : MapFits old.map (entry_stored rows added.map_uid at)
  pub guid_is : added.guid ≡ at.guid
  pub time_is : added.time ≡ time
  pub size_is : added.size ≡ size
  pub map : new.map ≡ map_applied (entry_stored rows added.map_uid at) old.map
  pub there : record_at new.map added.map_uid.0 ≡ Some (saved_row rows added.map_uid at)
  pub drawn : new.drawn ≡ record old.drawn { map = added.map_uid.0 }
  pub due : (uid : ℕ) → due_at uid new ≡ due_by (entry_stored rows added.map_uid at) (λ other. due_at other old) uid
  pub mailboxes : new.map.boxes ≡ old.map.boxes
  pub ends : AreEndsSame old new
  pub others : AreOthersTaken at.file.0 old new
  pub room : old.map_log.room ≤ new.map_log.room
  pub further : old.map_log.end < new.map_log.end
  pub same : new ≡ record old { disk = new.disk; map_log = new.map_log; map = new.map; files = record old.files { files = released_in at.file.0 old.files.files }; drawn = new.drawn; dues = new.dues; stopped = new.stopped }

-- The storage file is given back, and nothing else has changed.
pub record GivesFileBack {D : Type 0} (file : ℕ) (old new : StoreValue D) : Type 0 where
  pub ends : AreEndsSame old new
  pub others : AreOthersTaken file old new
  pub same : new ≡ record old { files = record old.files { files = released_in file old.files.files } }

-- It was not stored: no map uid is left, there was no memory, or a change of the disk failed.
abbrev pub StoresNone : {D : Type 0} → SavedAt → Refusal → StoreValue D → StoreValue D → Type 0
StoresNone at why old new = ((why ≡ refusal.Stopped) × IsLeftAlone old new) ⊎ ((why ≢ refusal.Stopped) × GivesFileBack at.file.0 old new)

-- ---- it is added, or its record given back

-- The mailbox lists it under its next UID, and one less of its record is due.
pub record AddsStored {D : Type 0} (name : List ℕ) (added : Added) (uid : Uid) (old new : StoreValue D) : Type 0 where
  pub number : BoxNo
  pub room : HasRoomUnder name number uid old
  pub taken : indexes_of new.boxes ≡ meanings_by number.0 (entry_added uid added) old.map.boxes (indexes_of old.boxes)
  pub due : (m : BoxMeaning) (other : ℕ) → list_named old name ≡ Some m → due_at other new ≡ due_by_box m (entry_added uid added) (λ k. due_at k old) other
  pub same : new ≡ record old { disk = new.disk; boxes = new.boxes; dues = new.dues; stopped = new.stopped }

-- The count of its record is lowered, and one less of it is due. The map log grows, and its room doesn't fall.
pub record LowersRecord {D : Type 0} (uid : MapUid) (old new : StoreValue D) : Type 0 where
  pub fits : MapFits old.map (entry_lowered uid)
  pub map : new.map ≡ map_applied (entry_lowered uid) old.map
  pub due : (other : ℕ) → due_at other new ≡ due_by (entry_lowered uid) (λ k. due_at k old) other
  pub mailboxes : new.map.boxes ≡ old.map.boxes
  pub room : old.map_log.room ≤ new.map_log.room
  pub further : old.map_log.end < new.map_log.end
  pub same : new ≡ record old { disk = new.disk; map_log = new.map_log; map = new.map; dues = new.dues; stopped = new.stopped }

-- ---- by stage

-- From one stage to the next, with this answer, of a delivery to this mailbox at this time, of so many octets.
abbrev pub SaveEffects : {D : Type 0} → SaveStage → SaveStage → List ℕ → ℕ → ℕ → Progress → StoreValue D → StoreValue D → Type 0
SaveEffects (stage.First prepared) (stage.Attaching parts attaching) name time size progress.More old new = (new ≡ old) × (attaching ≡ nothing_found prepared.parts) × LaysOut name time prepared parts old
SaveEffects (stage.First prepared) (stage.Taking parts) name time size progress.More old new = (new ≡ old) × (prepared.parts ≡ []) × LaysOut name time prepared parts old
SaveEffects (stage.First prepared) stage.Ended name time size (progress.Done (reply.Refused why)) old new = new ≡ old
SaveEffects (stage.Attaching parts attaching) (stage.Attaching laid more) name time size progress.More old new = (laid ≡ parts) × AttachesNext attaching more old new
SaveEffects (stage.Attaching parts attaching) (stage.Taking named) name time size progress.More old new = (more : AttachingValue) × AttachesNext attaching more old new × (next_attachment more ≡ None) × NamesFound more.found parts named
SaveEffects (stage.Attaching parts attaching) stage.Ended name time size (progress.Done (reply.Refused why)) old new = AndLetsGo attaching.found (AttachesNone attaching why old) new
SaveEffects (stage.Taking parts) (stage.Placing laid file) name time size progress.More old new = (laid ≡ parts) × TakesFileFor (length parts.header) (length parts.laid.region) file old new
SaveEffects (stage.Taking parts) stage.Ended name time size (progress.Done (reply.Refused why)) old new = AndLetsGo parts.rows (TakesNone (length parts.laid.region) why old) new
SaveEffects (stage.Placing parts file) (stage.Storing at rows room) name time size progress.More old new = PlacesParts parts file at rows old new
SaveEffects (stage.Placing parts file) stage.Ended name time size (progress.Done (reply.Refused why)) old new = AndLetsGo parts.rows (IsLeftAlone old) new
SaveEffects (stage.Storing at rows room) (stage.Adding added left) name time size progress.More old new = AndLetsGo rows (StoresPlaced at rows time size added old) new
SaveEffects (stage.Storing at rows room) stage.Ended name time size (progress.Done (reply.Refused why)) old new = AndLetsGo rows (StoresNone at why old) new
SaveEffects (stage.Adding added room) stage.Ended name time size (progress.Done (reply.Saved uid guid)) old new = (guid ≡ added.guid) × AddsStored name added uid old new
SaveEffects (stage.Adding added room) stage.Ended name time size (progress.Done (reply.Refused why)) old new = IsLeftAlone old new
SaveEffects (stage.Adding added room) (stage.GivingBack uid why left) name time size progress.More old new = (uid ≡ added.map_uid) × (new ≡ old)
SaveEffects (stage.GivingBack uid why room) stage.Ended name time size (progress.Done (reply.Refused given)) old new = ((given ≡ why) × LowersRecord uid old new) ⊎ ((given ≡ refusal.Stopped) × IsLeftAlone old new)
SaveEffects now next name time size answer old new = ⊥
