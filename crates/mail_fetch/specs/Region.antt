-- A message as a fetch reads it, and what is replied once it was read.
use Rattle.std.specs.Prelude.{◌≡◌, ◌⊎◌, ℕ, List, [], length, take, drop, Some}
use Rattle.std.specs.Option.{option_map_or}
use Rattle.attach_join.specs.Behind.{octets_in}
use Rattle.dbox_metadata.specs.declared.brief.Brief.{Brief}
use Rattle.mdbox_base.specs.declared.replies.Refusal.TheVariants as refusal
use Rattle.mdbox_base.specs.declared.replies.Reply.{Reply}
use Rattle.mdbox_base.specs.declared.replies.Reply.TheVariants as reply
use Rattle.model_attach.specs.Rejoined.{IsWhole}
use Rattle.model_meaning.specs.BoxMeaning.{LogRow}
use Rattle.model_meaning.specs.MapMeaning.{MapRecord}
use Rattle.model_storage.specs.StorageFile.{Message, IsMessage}
use Rattle.model_storage.specs.Metadata.{IsMetadata}
use Rattle.model_storage.specs.declared.metadata_value.Metadata.{Metadata}
use Rattle.model_store.specs.Stands.{NameInstances, whole_size}
use Rattle.mail_fetch.specs.Parts.{octets_to_read, parts_to_read}
use Rattle.mail_fetch.specs.declared.parts.Part.{Part}
use Rattle.mail_fetch.specs.declared.parts.StoredAt.{StoredAt}

-- what a fetch keeps of a row of a mailbox and of the record that stores its message
abbrev pub stored_at : LogRow → MapRecord → StoredAt
stored_at row entry = record {
  file = record { 0 = entry.file };
  offset = entry.offset;
  size = entry.size;
  guid = record { 0 = entry.guid };
  listed = row.size;
  instances = entry.instances;
}

-- Where the message is stored, the octets that were read so far, one piece behind another, and what is left to read.
pub record RegionValue : Type 0 where
  pub from : StoredAt
  pub octets : List ℕ
  pub left : List Part

abbrev pub unread : StoredAt → RegionValue
unread from = record { from = from; octets = []; left = parts_to_read from }

-- These octets are one message with the record's GUID, whose references name the record's instances, of the size that the
-- mailbox tells.
pub record IsStoredMessage (from : StoredAt) (region : List ℕ) : Type 0 where
  pub message : Message
  pub meta : Metadata
  pub spelled : IsMessage region message
  pub says : IsMetadata message.lines meta
  pub guid : meta.guid ≡ Some from.guid
  pub names : NameInstances meta.refs from.instances
  pub size : whole_size meta message.body ≡ from.listed

-- Lines that tell this of a message, whose stored body has so many octets, tell what is kept of it.
pub record IsToldByLines (brief : Brief) (from : StoredAt) (stored : ℕ) : Type 0 where
  pub guid : brief.guid ≡ Some from.guid
  pub size : option_map_or (λ whole. whole) brief.physical stored ≡ from.listed
  pub names : NameInstances brief.refs.items from.instances

-- What was read of the region and, behind it, of the instances is a message with these octets: nothing is missing, and the whole
-- of the region's body, its references and the instances is these octets, of the size that is told.
pub record HoldsWhole (from : StoredAt) (read octets : List ℕ) : Type 0 where
  pub long : length read ≡ octets_to_read from
  pub stored : IsStoredMessage from (take from.size read)
  pub whole : IsWhole octets stored.message.body stored.meta.refs (octets_in from.instances (drop from.size read))
  pub size : length octets ≡ from.listed

-- that the region is damaged
abbrev pub damage_at : StoredAt → Reply
damage_at from = reply.Refused (refusal.Damaged from.file from.offset)

-- The reply once all was read: the octets of the message that this is, or that it is damaged if it is none.
abbrev pub IsReplyFor : StoredAt → List ℕ → Reply → Type 0
IsReplyFor from read given = ((octets : List ℕ) × HoldsWhole from read octets × (given ≡ reply.Fetched octets)) ⊎ (((octets : List ℕ) → HoldsWhole from read octets → ⊥) × (given ≡ damage_at from))
