-- What a delivery replies and leaves that has the store to itself.
use Rattle.std.specs.Prelude.{◌≡◌, ◌≢◌, ◌≤◌, ◌<◌, ◌+◌, ◌⊎◌, ℕ, true, List, ◌++◌, length, map, All, Option, Some, None}
use Rattle.std.specs.Option.{option_or}
use Rattle.disk_model.specs.Disk.{DiskState, History, Between, IfTold, reading}
use Rattle.disk_model.specs.declared.name.FileName.TheVariants.{Mail}
use Rattle.attach_detach.specs.declared.message.Detached.{Detached}
use Rattle.attach_detach.specs.declared.message.Prepared.{Prepared}
use Rattle.mdbox_base.specs.declared.entries.Highest.{Highest}
use Rattle.mdbox_base.specs.declared.entries.InstRow.{InstRow}
use Rattle.mdbox_base.specs.declared.ids.FileNo.{FileNo}
use Rattle.mdbox_base.specs.declared.ids.Guid.{Guid}
use Rattle.mdbox_base.specs.declared.ids.MapUid.{MapUid}
use Rattle.mdbox_base.specs.declared.ids.Uid.{Uid}
use Rattle.mdbox_base.specs.declared.replies.Refusal.{Refusal}
use Rattle.mdbox_base.specs.declared.replies.Refusal.TheVariants as refusal
use Rattle.mdbox_base.specs.declared.replies.Reply.{Reply}
use Rattle.mdbox_base.specs.declared.replies.Reply.TheVariants as reply
use Rattle.model_meaning.specs.BoxMeaning.{BoxMeaning}
use Rattle.model_meaning.specs.MapMeaning.{MapMeaning, is_sealed, map_applied, named_instances}
use Rattle.model_storage.specs.WrittenFile.{written_header}
use Rattle.model_store.specs.Settled.{HasSameInstance, HasSameRegion, files_of}
use Rattle.storage_files.specs.Files.{FilesValue, IsTakeFor, end_in}
use Rattle.storage_files.specs.declared.file.Take.TheVariants.{Known, New, Full}
use Rattle.store_core.specs.Files.{EndsWith}
use Rattle.store_core.specs.StoreInstances.{IsOtherThan}
use Rattle.mail_save.specs.Events.{box_refusal, uid_refusal}
use Rattle.mail_save.specs.Record.{entry_lowered, entry_stored}
use Rattle.saved_message.specs.Region.{guid_of_place, unknown_guid, unknown_ids, written_region}
use Rattle.saved_message.specs.Saved.{AreInstancesOf}
use Rattle.mail_save.specs.declared.place.SavedAt.{SavedAt}

-- ---- what is replied

-- Why the message isn't saved, by what the log of its mailbox means and by the highest numbers: no mailbox has the name, it lists
-- 1,000,000 messages or has no further UID, or the numbers of records are used up.
abbrev pub undelivered_cause : Option BoxMeaning → Highest → Option Refusal
undelivered_cause to highest = option_or (box_refusal to) (uid_refusal highest.map)

-- how many octets are written of a message, whatever its GUID and the ids of its instances
abbrev pub region_length : List ℕ → ℕ → Prepared → ℕ
region_length name time prepared = length (written_region name time prepared (unknown_ids prepared.parts) unknown_guid)

-- The storage file that is taken for so many octets: one that has room, or a new one.
abbrev pub IsFileFor : ℕ → FilesValue → FileNo → Type 0
IsFileFor size files file = IsTakeFor size files (Known file) ⊎ IsTakeFor size files (New file)

-- The message has the mailbox's next UID, and the GUID of the place where it was first stored, in the storage file that is taken
-- for so many octets.
pub record IsSavedAs (to : Option BoxMeaning) (store : List ℕ) (size : ℕ) (files : FilesValue) (given : Reply) : Type 0 where
  pub mailbox : BoxMeaning
  pub named : to ≡ Some mailbox
  pub uid : Uid
  pub next : uid.0 ≡ mailbox.next
  pub guid : Guid
  pub file : FileNo
  pub offset : ℕ
  pub placed : guid.0 ≡ guid_of_place store file.0 offset
  pub taken : IsFileFor size files file
  pub given_is : given ≡ reply.Saved uid guid

-- No storage file has room for so many octets, and the numbers of storage files are used up.
abbrev pub IsOutOfFiles : ℕ → FilesValue → Reply → Type 0
IsOutOfFiles size files given = (given ≡ reply.Refused (refusal.StoreFull 4294967294)) × IsTakeFor size files Full

-- It has more attachments than running numbers of instances are left.
abbrev pub IsOutOfInstances : ℕ → ℕ → Reply → Type 0
IsOutOfInstances highest parts given = (given ≡ reply.Refused (refusal.StoreFull 4294967294)) × (4294967294 < highest + parts)

-- It has attachments, and a read failed as one was compared with an instance.
abbrev pub IsUncompared : ℕ → Reply → Type 0
IsUncompared parts given = (given ≡ reply.Refused refusal.ReadFault) × (1 ≤ parts)

-- If there is a cause, it is replied. Else the message is saved, unless there is a want of storage files, of numbers of instances
-- or of memory, an instance can't be read, or a change of the disk fails, and the store is stopped.
abbrev pub IsDeliverAnswer : Option Refusal → Option BoxMeaning → List ℕ → ℕ → ℕ → ℕ → FilesValue → Reply → Type 0
IsDeliverAnswer (Some why) to store size highest parts files given = given ≡ reply.Refused why
IsDeliverAnswer None to store size highest parts files given =
    IsSavedAs to store size files given
    ⊎ (IsOutOfFiles size files given ⊎ (IsOutOfInstances highest parts given ⊎ (IsUncompared parts given ⊎ ((given ≡ reply.Refused refusal.NoMemory) ⊎ (given ≡ reply.Refused refusal.Stopped)))))

-- ---- the record that is made

-- Where the message was placed: at the end of the storage file that was taken for it, which is that of its header if the file is
-- new. Its GUID, which no record had, names this place.
pub record IsSavedPlace (time size : ℕ) (m : MapMeaning) (files : FilesValue) (at : SavedAt) : Type 0 where
  pub size_is : at.size ≡ size
  pub guid_is : at.guid.0 ≡ guid_of_place m.store at.file.0 at.offset
  pub guid_new : All (λ row. row.guid ≢ at.guid.0) m.records
  pub taken : (IsTakeFor size files (Known at.file) × (end_in at.file.0 files.files ≡ Some at.offset)) ⊎ (IsTakeFor size files (New at.file) × (at.offset ≡ length (written_header time)))

-- The map means what it did, with the record of the message: under the next map uid, at its place, with count 1, and with the
-- instances of its attachments.
pub record HasRecordMore (name : List ℕ) (time : ℕ) (prepared : Prepared) (last : ℕ) (m : MapMeaning) (files : FilesValue) (rows : List InstRow) (uid : MapUid) (at : SavedAt) (map : MapMeaning) : Type 0 where
  pub next : uid.0 ≡ last + 1
  pub place : IsSavedPlace time (region_length name time prepared) m files at
  pub rows_are : AreInstancesOf prepared.parts rows
  pub map_is : map ≡ map_applied (entry_stored rows uid at) m

-- The map means what it did, with a record of the message, whose count, which was 1, was lowered.
pub record HasRecordLeft (name : List ℕ) (time : ℕ) (prepared : Prepared) (last : ℕ) (m : MapMeaning) (files : FilesValue) (map : MapMeaning) : Type 0 where
  pub rows : List InstRow
  pub uid : MapUid
  pub at : SavedAt
  pub made : MapMeaning
  pub more : HasRecordMore name time prepared last m files rows uid at made
  pub lowered : map ≡ map_applied (entry_lowered uid) made

-- ---- the storage files

-- The disk reads the region at the end of its storage file, at its place; a new file has the header before it and nothing else.
-- All other regions and instances that records name are carried over, and each sealed storage file reads as it did.
pub record WroteMessage (time : ℕ) (region : List ℕ) (m : MapMeaning) (files : FilesValue) (at : SavedAt) (old new : Option History) : Type 0 where
  pub ends : IfTold new (λ now. EndsWith at.offset region (now (Mail at.file.0)))
  pub begun : end_in at.file.0 files.files ≡ None → IfTold new (λ now. reading (now (Mail at.file.0)) ≡ Some (written_header time ++ region))
  pub regions : Between (λ a b. All (HasSameRegion (files_of a) (files_of b)) m.records) old new
  pub instances : Between (λ a b. All (λ row. All (HasSameInstance (files_of a) (files_of b)) row.instances) m.records) old new
  pub sealed : Between (λ a b. (number : ℕ) → is_sealed m number ≡ true → reading (b (Mail number)) ≡ reading (a (Mail number))) old new

-- ---- what the files open with

-- each of these instances is the first that has its octets, of those that the map names
abbrev pub AreFirstNamed : List InstRow → MapMeaning → DiskState → Type 0
AreFirstNamed rows m disk = All (λ row. All (IsOtherThan disk row) (named_instances m)) rows

-- the octets of each attachment
abbrev pub attachment_octets : List Detached → List (List ℕ)
attachment_octets parts = map (λ d. d.octets) parts
