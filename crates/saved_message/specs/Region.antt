-- The region of a message that is saved: its octets, as a storage file has them.
use Rattle.std.specs.Prelude.{ℕ, ◌==◌, List, [], ◌∷◌, ◌++◌, map, length, replicate, Option, Some, None, if◌then◌else◌}
use Rattle.std.specs.Int.{w32, to_be_bytes}
use Rattle.mdbox_base.specs.declared.ids.InstId.{InstId}
use Rattle.mdbox_base.specs.declared.metadata.ExtRef.{ExtRef}
use Rattle.model_storage.specs.Metadata.{known_lines}
use Rattle.model_storage.specs.WrittenFile.{written_message}
use Rattle.model_storage.specs.declared.metadata_value.Metadata.{Metadata}
use Rattle.attach_detach.specs.declared.message.Detached.{Detached}
use Rattle.attach_detach.specs.declared.message.Prepared.{Prepared}

-- the reference to a detached attachment whose instance has this id
abbrev pub reference_to : Detached → InstId → ExtRef
reference_to d id = record { start = d.start; count = d.count; form = d.form; hash = d.hash; id = id }

-- the references to detached attachments, in order, by the ids of their instances
abbrev pub references_naming : List Detached → List InstId → List ExtRef
references_naming [] ids = []
references_naming (d ∷ parts) [] = []
references_naming (d ∷ parts) (id ∷ ids) = reference_to d id ∷ references_naming parts ids

-- the size of the whole message, where it isn't that of the stored body
abbrev pub size_if_other : ℕ → ℕ → Option ℕ
size_if_other whole stored = if whole == stored then None else Some whole

-- The metadata of a saved message: when it was received, its sizes, its GUID, the mailbox where it is first saved, and the
-- references to its detached attachments.
abbrev pub written_metadata : List ℕ → ℕ → Prepared → List InstId → List ℕ → Metadata
written_metadata name time prepared ids guid = record {
  guid = Some (record { 0 = guid });
  received = Some time;
  physical = size_if_other prepared.whole (length prepared.body);
  virtual_size = Some prepared.virtual_size;
  origin = Some name;
  refs = references_naming prepared.parts ids;
  unknown = [];
}

-- The octets that are written of it: its body without the detached attachments, and its metadata.
abbrev pub written_region : List ℕ → ℕ → Prepared → List InstId → List ℕ → List ℕ
written_region name time prepared ids guid = written_message (record { body = prepared.body; lines = known_lines (written_metadata name time prepared ids guid) })

-- The GUID of a message that is first stored at this offset of this file: the store's id, and both numbers.
abbrev pub guid_of_place : List ℕ → ℕ → ℕ → List ℕ
guid_of_place store file offset = store ++ (to_be_bytes w32 file ++ to_be_bytes w32 offset)

-- what stands in place of a GUID, and of each instance's id, that isn't known yet
abbrev pub unknown_guid : List ℕ
unknown_guid = replicate 16 0

abbrev pub unknown_id : InstId
unknown_id = record { 0 = replicate 16 0 }

abbrev pub unknown_ids : List Detached → List InstId
unknown_ids parts = map (λ d. unknown_id) parts
