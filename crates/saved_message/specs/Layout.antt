-- What is laid out of a message: its metadata in two parts, that before the GUID and that from the GUID on.
use Rattle.std.specs.Prelude.{◌≤◌, ℕ, List, [], length, Some, None}
use Rattle.std.specs.List.{AllByRecursion}
use Rattle.mdbox_base.specs.declared.ids.InstId.{InstId}
use Rattle.model_storage.specs.References.{ReferenceFits}
use Rattle.model_storage.specs.declared.metadata_value.Metadata.{Metadata}
use Rattle.attach_detach.specs.declared.message.Detached.{Detached}
use Rattle.attach_detach.specs.declared.message.Prepared.{Prepared}
use Rattle.saved_message.specs.Region.{references_naming, size_if_other, unknown_ids}

-- a body that is small enough, few references, and these can be written
pub record FitsLayout (prepared : Prepared) : Type 0 where
  pub body : length prepared.body ≤ 67108864
  pub few : length prepared.parts ≤ 512
  pub refs : AllByRecursion ReferenceFits (references_naming prepared.parts (unknown_ids prepared.parts))

abbrev pub metadata_of_numbers : ℕ → Prepared → Metadata
metadata_of_numbers time prepared = record {
  guid = None;
  received = Some time;
  physical = size_if_other prepared.whole (length prepared.body);
  virtual_size = Some prepared.virtual_size;
  origin = None;
  refs = [];
  unknown = [];
}

abbrev pub metadata_of_names : List ℕ → List Detached → List InstId → List ℕ → Metadata
metadata_of_names name parts ids guid = record {
  guid = Some (record { 0 = guid });
  received = None;
  physical = None;
  virtual_size = None;
  origin = Some name;
  refs = references_naming parts ids;
  unknown = [];
}
