-- What a delivery alone has written to the storage files and the instances, since the store was opened.
use Rattle.std.specs.Prelude.{◌≡◌, ◌≢◌, ◌⊎◌, ℕ, List, ◌++◌, length, Contains, Option, Some, None}
use Rattle.attach_detach.specs.declared.message.Detached.{Detached}
use Rattle.attach_detach.specs.declared.message.Prepared.{Prepared}
use Rattle.mdbox_base.specs.declared.entries.InstRow.{InstRow}
use Rattle.mdbox_base.specs.declared.ids.Guid.{Guid}
use Rattle.mdbox_base.specs.declared.ids.Uid.{Uid}
use Rattle.mdbox_base.specs.declared.replies.Refusal.{Refusal}
use Rattle.mdbox_base.specs.declared.replies.Refusal.TheVariants as refusal
use Rattle.mdbox_base.specs.declared.replies.Reply.{Reply}
use Rattle.mdbox_base.specs.declared.replies.Reply.TheVariants as reply
use Rattle.saved_message.specs.Region.{guid_of_place, written_region}
use Rattle.saved_message.specs.Saved.{ids_in}
use Rattle.disk_model.specs.Disk.{DiskState, History, Between, reading}
use Rattle.disk_model.specs.declared.name.FileName.TheVariants.{Mail, Inst}
use Rattle.model_storage.specs.WrittenFile.{written_header}

-- ---- instances

-- A file wasn't there, and is that of one of these instances now, with the octets of one of these attachments and under its hash.
pub record IsNewAttachment (parts : List Detached) (rows : List InstRow) (hash id : List ℕ) (was now : Option (List ℕ)) : Type 0 where
  pub part : Detached
  pub among : Contains parts part
  pub row : InstRow
  pub of_rows : Contains rows row
  pub hash_is : hash ≡ row.hash.0
  pub id_is : id ≡ row.id.0
  pub of_part : row.hash ≡ part.hash
  pub none : was ≡ None
  pub has : now ≡ Some part.octets

-- Each instance reads as it did, or is a new one: one of these, of one of these attachments.
abbrev pub AddsAttachments : List Detached → List InstRow → DiskState → DiskState → Type 0
AddsAttachments parts rows a b = (hash id : List ℕ) → (reading (b (Inst hash id)) ≡ reading (a (Inst hash id))) ⊎ IsNewAttachment parts rows hash id (reading (a (Inst hash id))) (reading (b (Inst hash id)))

-- So it is, and all storage files read as they did, or all but one.
pub record AddsOnly (parts : List Detached) (rows : List InstRow) (a b : DiskState) : Type 0 where
  pub files : (number : ℕ) → reading (b (Mail number)) ≡ reading (a (Mail number))
  pub instances : AddsAttachments parts rows a b

pub record ReadsBut (parts : List Detached) (rows : List InstRow) (file : ℕ) (a b : DiskState) : Type 0 where
  pub files : (number : ℕ) → number ≢ file → reading (b (Mail number)) ≡ reading (a (Mail number))
  pub instances : AddsAttachments parts rows a b

-- ---- a storage file

-- The storage file has these octets, which it had or, if it wasn't there, are its header.
pub record HasFront (time file : ℕ) (front : List ℕ) (a : DiskState) : Type 0 where
  pub was : (reading (a (Mail file)) ≡ Some front) ⊎ ((reading (a (Mail file)) ≡ None) × (front ≡ written_header time))

-- The storage file was taken, and the region of the message then added to it, at this offset.
pub record MailTook (parts : List Detached) (rows : List InstRow) (time file : ℕ) (a b : DiskState) : Type 0 where
  pub others : ReadsBut parts rows file a b
  pub front : List ℕ
  pub had : HasFront time file front a
  pub has : reading (b (Mail file)) ≡ Some front

pub record MailWrote (parts : List Detached) (rows : List InstRow) (time file offset : ℕ) (region : List ℕ) (a b : DiskState) : Type 0 where
  pub others : ReadsBut parts rows file a b
  pub front : List ℕ
  pub had : HasFront time file front a
  pub long : length front ≡ offset
  pub has : reading (b (Mail file)) ≡ Some (front ++ region)

abbrev pub AddedMail : List Detached → List InstRow → Option History → Option History → Type 0
AddedMail parts rows = Between (AddsOnly parts rows)

abbrev pub TookMail : List Detached → List InstRow → ℕ → ℕ → Option History → Option History → Type 0
TookMail parts rows time file = Between (MailTook parts rows time file)

abbrev pub WroteMail : List Detached → List InstRow → ℕ → ℕ → ℕ → List ℕ → Option History → Option History → Type 0
WroteMail parts rows time file offset region = Between (MailWrote parts rows time file offset region)

-- What a message that wasn't saved has left of storage files and instances: instances of its attachments; and with these a storage
-- file was taken for it, or not; or its region was added there too, with some GUID, and names these instances.
abbrev pub LeftMail : List ℕ → ℕ → Prepared → List InstRow → Option History → Option History → Type 0
LeftMail name time prepared rows old new =
    AddedMail prepared.parts rows old new
    ⊎ (((file : ℕ) × TookMail prepared.parts rows time file old new)
    ⊎ ((file : ℕ) × (offset : ℕ) × (guid : List ℕ) × WroteMail prepared.parts rows time file offset (written_region name time prepared (ids_in rows) guid) old new))

-- By what is replied, unless the store is stopped: with `OK` the region was added at the place that the GUID names, and each new
-- instance is one that the region names; where an attachment could not be compared, no storage file was touched.
pub record LeavesDelivery (store name : List ℕ) (time : ℕ) (prepared : Prepared) (given : Reply) (old new : Option History) : Type 0 where
  pub saved : (uid : Uid) (guid : Guid) → given ≡ reply.Saved uid guid
      → (rows : List InstRow) × (file : ℕ) × (offset : ℕ) × (guid.0 ≡ guid_of_place store file offset) × WroteMail prepared.parts rows time file offset (written_region name time prepared (ids_in rows) guid.0) old new
  pub uncompared : given ≡ reply.Refused refusal.ReadFault → (rows : List InstRow) × AddedMail prepared.parts rows old new
  pub unsaved : (why : Refusal) → given ≡ reply.Refused why → (why ≡ refusal.Stopped → ⊥) → (rows : List InstRow) × LeftMail name time prepared rows old new
