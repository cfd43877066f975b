-- A region that is laid out, in which the GUID and the ids of instances can be set.
use Rattle.std.specs.Prelude.{◌≡◌, ◌+◌, ℕ, List, All, length, map, flat_map, ◌++◌, Some}
use Rattle.mdbox_base.specs.Numbers.{hex_text}
use Rattle.mdbox_base.specs.Words.{IsOctets}
use Rattle.mdbox_base.specs.declared.ids.InstId.{InstId}
use Rattle.model_storage.specs.Metadata.{optional_line}
use Rattle.model_storage.specs.References.{reference_text}
use Rattle.model_storage.specs.StorageFile.{Line, line_text}
use Rattle.attach_detach.specs.declared.message.Prepared.{Prepared}
use Rattle.saved_message.specs.Region.{reference_to, size_if_other, unknown_id, written_region}

-- The octets, where the GUID's digits begin, where the line of the references begins, and how many octets each of them has.
pub record LaidValue : Type 0 where
  pub region : List ℕ
  pub guid_at : ℕ
  pub refs_at : ℕ
  pub sizes : List ℕ

-- the region whose last text is this, and what stands before it; the places are told from that text on
abbrev pub laid_of : List ℕ → List ℕ → ℕ → ℕ → List ℕ → LaidValue
laid_of before back guid_at refs_at sizes = record { region = before ++ back; guid_at = length before + guid_at; refs_at = length before + refs_at; sizes = sizes }

-- sixteen octets, as a GUID and an id have
pub record AreSixteen (octets : List ℕ) : Type 0 where
  pub long : length octets ≡ 16
  pub each : IsOctets octets

-- the lines before the GUID's: when it was received, and its sizes
abbrev pub lines_of_numbers : ℕ → Prepared → List Line
lines_of_numbers time prepared =
    optional_line 82 hex_text (Some time)
    ++ (optional_line 90 hex_text (size_if_other prepared.whole (length prepared.body)) ++ optional_line 86 hex_text (Some prepared.virtual_size))

-- where the GUID's digits begin: behind the header of 30 octets, the body, 4 octets, those lines and a letter
abbrev pub guid_place : ℕ → Prepared → ℕ
guid_place time prepared = 30 + length prepared.body + 4 + length (flat_map line_text (lines_of_numbers time prepared)) + 1

-- It is the region of this message with these ids of instances and this GUID, and the places are where they stand.
pub record IsLaid (name : List ℕ) (time : ℕ) (prepared : Prepared) (ids : List InstId) (guid : List ℕ) (laid : LaidValue) : Type 0 where
  pub region : laid.region ≡ written_region name time prepared ids guid
  pub one_each : length ids ≡ length prepared.parts
  pub ids_fit : All (λ id. AreSixteen id.0) ids
  pub guid_fits : AreSixteen guid
  pub guid_begins : laid.guid_at ≡ guid_place time prepared
  pub refs_begin : laid.refs_at ≡ guid_place time prepared + 35 + length name
  pub sizes : laid.sizes ≡ map (λ d. length (reference_text (reference_to d unknown_id))) prepared.parts
