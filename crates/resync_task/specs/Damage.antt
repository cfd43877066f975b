-- Which messages of a storage file are damaged.
use Rattle.std.specs.Prelude.{◌≡◌, ◌≢◌, ◌⊎◌, ℕ, Bool, true, false, List, All, AllPairs, Contains, Option, Some, None}
use Rattle.disk_model.specs.Disk.{History, IfTold}
use Rattle.model_meaning.specs.MapFits.{HasRecord}
use Rattle.model_meaning.specs.MapMeaning.{MapRecord, MapMeaning}
use Rattle.model_storage.specs.Metadata.{IsMetadata, IsMetadataText}
use Rattle.model_storage.specs.StorageFile.{Message, IsMessage, place_at}
use Rattle.model_storage.specs.declared.places.MessageAt.{MessageAt}
use Rattle.model_storage.specs.declared.metadata_value.Metadata.{Metadata}
use Rattle.model_store.specs.Settled.{files_of}
use Rattle.model_store.specs.Stands.{HoldsMessage}

-- these octets are one message, whose lines have this GUID
pub record IsMessageWith (guid : List ℕ) (region : List ℕ) : Type 0 where
  pub message : Message
  pub meta : Metadata
  pub spelled : IsMessage region message
  pub says : IsMetadata message.lines meta
  pub has : meta.guid ≡ Some (record { 0 = guid })

-- these octets are one message, and this is where its parts stand
pub record IsOneMessage (region : List ℕ) (place : MessageAt) : Type 0 where
  pub message : Message
  pub spelled : IsMessage region message
  pub place_is : place ≡ place_at 0 message

-- the lines say this; nothing if one of them is bad
abbrev pub LinesSay : List ℕ → Option Metadata → Type 0
LinesSay lines (Some meta) = IsMetadataText lines meta
LinesSay lines None = (meta : Metadata) → IsMetadataText lines meta → ⊥

-- the region of a record is one message with its GUID, and it isn't, as far as the disk tells
abbrev pub HasWholeRegion : Option History → MapRecord → Type 0
HasWholeRegion history row = IfTold history (λ now. HoldsMessage (files_of now) row)

abbrev pub HasDamagedRegion : Option History → MapRecord → Type 0
HasDamagedRegion history row = IfTold history (λ now. HoldsMessage (files_of now) row → ⊥)

-- These are the map uids of the records of a file whose regions are damaged, each once. Of a disk that is modelled they are exactly
-- those of which that is so.
pub record AreDamaged (history : Option History) (m : MapMeaning) (file : ℕ) (uids : List ℕ) : Type 0 where
  pub once : AllPairs (λ a b. a ≢ b) uids
  pub bad : All (λ uid. HasRecord m uid (λ row. (row.file ≡ file) × HasDamagedRegion history row)) uids
  pub every : All (λ row. row.file ≡ file → Contains uids row.uid ⊎ HasWholeRegion history row) m.records

-- whether it is whole
abbrev pub TellsWhole : Bool → Option History → MapRecord → Type 0
TellsWhole true history row = HasWholeRegion history row
TellsWhole false history row = HasDamagedRegion history row
