-- What is laid out of a message before anything is written.
use Rattle.std.specs.Prelude.{◌≡◌, ℕ, List, length, Option}
use Rattle.attach_detach.specs.Prepared.{IsPrepared}
use Rattle.attach_detach.specs.declared.message.Prepared.{Prepared}
use Rattle.disk_model.specs.Disk.{History}
use Rattle.mdbox_base.specs.declared.ids.InstId.{InstId}
use Rattle.model_storage.specs.WrittenFile.{written_header}
use Rattle.save_instances.specs.Attaching.{AreOfParts, AttachingValue, IsAttaching}
use Rattle.saved_message.specs.Laid.{IsLaid}
use Rattle.saved_message.specs.Region.{unknown_guid, unknown_ids}
use Rattle.saved_message.specs.Saved.{ids_in}
use Rattle.store_core.specs.Value.{StoreValue}
use Rattle.mail_save.specs.declared.first.SavedParts.{SavedParts}

-- The header of a storage file that the message opens, and its region without its GUID: the references to its attachments name
-- these ids.
pub record AreLaidOut (name : List ℕ) (time : ℕ) (prepared : Prepared) (ids : List InstId) (parts : SavedParts) : Type 0 where
  pub header : parts.header ≡ written_header time
  pub laid : IsLaid name time prepared ids unknown_guid parts.laid

-- Of the message with these octets: it is laid out without the ids of its instances, and the instances that were found are those
-- of its first attachments.
pub record AreBeingAttached {D : Type 0} (name : List ℕ) (time : ℕ) (octets : List ℕ) (parts : SavedParts) (attaching : AttachingValue) (store : StoreValue D) (history : Option History) : Type 0 where
  pub prepared : Prepared
  pub form : IsPrepared octets prepared
  pub parts_are : attaching.parts ≡ prepared.parts
  pub laid : AreLaidOut name time prepared (unknown_ids prepared.parts) parts
  pub found : IsAttaching attaching store history

-- It is laid out with the ids of its instances, one for each attachment.
pub record AreAttached {D : Type 0} (name : List ℕ) (time : ℕ) (octets : List ℕ) (parts : SavedParts) (store : StoreValue D) (history : Option History) : Type 0 where
  pub prepared : Prepared
  pub form : IsPrepared octets prepared
  pub laid : AreLaidOut name time prepared (ids_in parts.rows) parts
  pub found : AreOfParts parts.rows prepared.parts store.instances.known history
  pub one_each : length parts.rows ≡ length prepared.parts
