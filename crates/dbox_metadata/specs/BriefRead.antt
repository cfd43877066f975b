-- What a brief reading of metadata lines gives, and what it has taken of the lines before a place.
use Rattle.std.specs.Prelude.{◌≡◌, ◌<◌, ℕ, Bool, true, false, List, [], ◌∷◌, ◌++◌, length, vec_capacity}
use Rattle.mdbox_base.specs.declared.metadata.ExtRef.{ExtRef}
use Rattle.model_storage.specs.StorageFile.{Line, values_of}
use Rattle.model_storage.specs.Metadata.{IsNumberText, IsGuidText, HasAtMostOne, HasAtMostOneReadable, HasReferences, IsMetadataText, MayFollow}
use Rattle.model_storage.specs.References.{AreReferences}
use Rattle.model_storage.specs.declared.metadata_value.Metadata.{Metadata}
use Rattle.dbox_metadata.specs.SoFar.{HasSeen}
use Rattle.dbox_metadata.specs.declared.brief.Brief.{Brief}
use Rattle.dbox_metadata.specs.declared.brief.BriefReader.{BriefReader}

-- The text says metadata with this GUID, this size of the whole message, and these references.
pub record IsBriefOf (text : List ℕ) (brief : Brief) : Type 0 where
  pub meta : Metadata
  pub says : IsMetadataText text meta
  pub refs : brief.refs.items ≡ meta.refs
  pub guid : brief.guid ≡ meta.guid
  pub physical : brief.physical ≡ meta.physical

-- ---- within the crate

-- whether one line has the key, and no more than one has it
abbrev pub HasOneOrNone : Bool → ℕ → List Line → Type 0
HasOneOrNone true key lines = (text : List ℕ) × (values_of key lines ≡ text ∷ [])
HasOneOrNone false key lines = values_of key lines ≡ []

-- the lines say what the reader holds
pub record HasTakenBriefly (lines : List Line) (reader : BriefReader) : Type 0 where
  pub received : HasAtMostOne IsNumberText 82 lines reader.received
  pub physical : HasAtMostOne IsNumberText 90 lines reader.physical
  pub virtual_size : HasAtMostOne IsNumberText 86 lines reader.virtual_size
  pub guid : HasAtMostOneReadable IsGuidText 71 lines reader.guid
  pub guid_seen : HasSeen reader.guid_seen 71 lines
  pub origin_seen : HasOneOrNone reader.origin_seen 66 lines
  pub references : HasReferences lines reader.refs.items

-- A reader that has taken some lines takes this one too, where it may follow them; else says no, as it does to more references
-- than it has room for.
abbrev pub TakesBriefly : BriefReader → Line → BriefReader → Bool → Type 0
TakesBriefly before line after true = (lines : List Line) → HasTakenBriefly lines before → MayFollow lines line × HasTakenBriefly (lines ++ line ∷ []) after
TakesBriefly before line after false = (lines : List Line) → HasTakenBriefly lines before → MayFollow lines line → (line.key ≡ 88) × ((refs : List ExtRef) → AreReferences line.value refs → vec_capacity before.refs < length refs)
