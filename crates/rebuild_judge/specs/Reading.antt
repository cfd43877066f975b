-- What the disk tells of a message that was found.
use Rattle.std.specs.Prelude.{◌≡◌, ℕ, List, ◌++◌, length, take, drop, map, Option, Some, None}
use Rattle.std.specs.Option.{option_map}
use Rattle.disk_model.specs.Disk.{Files, DiskState, reading}
use Rattle.disk_model.specs.declared.name.FileName.TheVariants as file
use Rattle.mdbox_base.specs.declared.metadata.ExtRef.{ExtRef}
use Rattle.model_attach.specs.Rejoined.{IsWhole, join_error}
use Rattle.model_storage.specs.declared.metadata_value.Metadata.{Metadata}
use Rattle.model_storage.specs.declared.places.MessageAt.{MessageAt}
use Rattle.model_storage.specs.Metadata.{IsMetadata, IsMetadataText}
use Rattle.model_storage.specs.StorageFile.{Message, IsMessage, place_at}
use Rattle.model_store.specs.Settled.{files_of}
use Rattle.model_store.specs.Stands.{whole_size}
use Rattle.model_taken.specs.Judging.{SaysNothing}
use Rattle.model_taken.specs.NamedInstances.{InstanceFound, instances_there}

-- ---- a message at its place

-- this message stands at this place of a file with these octets
pub record HasMessageAt (octets : List ℕ) (place : MessageAt) (m : Message) : Type 0 where
  pub first : List ℕ
  pub behind : List ℕ
  pub here : drop place.offset octets ≡ first ++ behind
  pub is_message : IsMessage first m
  pub place_is : place ≡ place_at place.offset m

-- the same of the storage file that the disk reads
pub record HasMessageOn (number : ℕ) (place : MessageAt) (m : Message) (disk : DiskState) : Type 0 where
  pub octets : List ℕ
  pub read : reading (disk (file.Mail number)) ≡ Some octets
  pub stands : HasMessageAt octets place m

-- ---- its lines

-- what a text of lines says; None if it is no metadata
abbrev pub TextSays : List ℕ → Option Metadata → Type 0
TextSays text None = (meta : Metadata) → IsMetadataText text meta → ⊥
TextSays text (Some meta) = IsMetadataText text meta

-- what the lines of a message say; None if one of them is bad
abbrev pub SayThis : Message → Option Metadata → Type 0
SayThis m None = SaysNothing m
SayThis m (Some meta) = IsMetadata m.lines meta

abbrev pub SayOn : ℕ → MessageAt → Option Metadata → DiskState → Type 0
SayOn number place meta disk = (m : Message) → HasMessageOn number place m disk → SayThis m meta

-- ---- its instances

-- the octets of each instance that references name; None if one isn't there
abbrev pub AreOctetsOn : List ExtRef → Option (List (List ℕ)) → DiskState → Type 0
AreOctetsOn refs octets disk = octets ≡ option_map (map (λ i. i.octets)) (instances_there (files_of disk) refs)

-- the size of each
abbrev pub AreSizesOn : List ExtRef → Option (List ℕ) → DiskState → Type 0
AreSizesOn refs sizes disk = sizes ≡ option_map (map (λ i. length i.octets)) (instances_there (files_of disk) refs)

-- ---- its whole

-- A region of a storage file is a message that rejoins with its instances to these octets.
pub record RejoinsTo (files : Files) (number offset size : ℕ) (whole : List ℕ) : Type 0 where
  pub octets : List ℕ
  pub there : files (file.Mail number) ≡ Some octets
  pub message : Message
  pub region : IsMessage (take size (drop offset octets)) message
  pub meta : Metadata
  pub says : IsMetadata message.lines meta
  pub found : List InstanceFound
  pub instances : instances_there files meta.refs ≡ Some found
  pub right : join_error message.body (whole_size meta message.body) meta.refs (map (λ i. i.octets) found) ≡ None
  pub is_whole : IsWhole whole message.body meta.refs (map (λ i. i.octets) found)

-- these are its octets, if it rejoins
abbrev pub HasWholeOn : ℕ → ℕ → ℕ → Option (List ℕ) → DiskState → Type 0
HasWholeOn number offset size found disk = (whole : List ℕ) → RejoinsTo (files_of disk) number offset size whole → found ≡ Some whole

-- these are the octets of the whole of a body with these lines and instances, if they join
abbrev pub IsRejoinedAs : List ℕ → Metadata → List (List ℕ) → Option (List ℕ) → Type 0
IsRejoinedAs body meta instances found = (whole : List ℕ) → join_error body (whole_size meta body) meta.refs instances ≡ None → IsWhole whole body meta.refs instances → found ≡ Some whole
