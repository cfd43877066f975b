-- Setting the GUID and the ids in a region that is laid out.
use Rattle.std.proofs.Common.{◌≡◌, ◌≤◌, ◌+◌, ℕ, List, ◌++◌, sym, ◌∙◌, ap, arith, length, length-append, map, All}
use Rattle.std.proofs.lemmas.List.{length-map}
use Rattle.std.proofs.lemmas.List.Elements.{All-map}
use Rattle.hex.specs.Hex.{encode_lower}
use Rattle.mdbox_base.specs.declared.entries.InstRow.{InstRow}
use Rattle.mdbox_base.specs.declared.ids.InstId.{InstId}
use Rattle.model_storage.specs.References.{reference_text}
use Rattle.attach_detach.specs.declared.message.Detached.{Detached}
use Rattle.attach_detach.specs.declared.message.Prepared.{Prepared}
use Rattle.saved_message.specs.Laid.{AreSixteen, IsLaid, LaidValue}
use Rattle.saved_message.specs.References.{HasReferencesAt, marked}
use Rattle.saved_message.specs.Region.{reference_to, references_naming, unknown_id}
use Rattle.saved_message.specs.Saved.{ids_in}
use Rattle.saved_message.proofs.RegionLemmas.{after_guid, after_references, before_guid, before_long, before_references, before_references_long, digits_long, region_around, region_marked}

-- ---- the ids

pub laid_references : (name : List ℕ) (time : ℕ) (p : Prepared) (ids : List InstId) (guid : List ℕ) (laid : LaidValue) → IsLaid name time p ids guid laid
    → HasReferencesAt (before_references name time p guid) p.parts ids (after_references p.parts) 88 laid.refs_at laid.sizes laid.region
laid_references name time p ids guid laid is = record {
  stand = is.region ∙ region_marked name time p ids guid is.one_each;
  begin = is.refs_begin ∙ sym (before_references_long name time p guid is.guid_fits);
  one_each = is.one_each;
  ids_fit = is.ids_fit;
  sizes_are = is.sizes;
}

abbrev pub with_region : List ℕ → LaidValue → LaidValue
with_region region laid = record { region = region; guid_at = laid.guid_at; refs_at = laid.refs_at; sizes = laid.sizes }

-- a region has as many attachments as sizes of references
pub parts_one_each : (laid : LaidValue) (p q : Prepared) → laid.sizes ≡ map (λ d. length (reference_text (reference_to d unknown_id))) p.parts → laid.sizes ≡ map (λ d. length (reference_text (reference_to d unknown_id))) q.parts → length p.parts ≡ length q.parts
parts_one_each laid p q a b =
    let f : Detached → ℕ = λ d. length (reference_text (reference_to d unknown_id)) in
    sym (length-map p.parts f) ∙ (ap length (sym a ∙ b) ∙ length-map q.parts f)

rows_one_each : (rows : List InstRow) (p : Prepared) → length rows ≡ length p.parts → length (ids_in rows) ≡ length p.parts
rows_one_each rows p many = length-map rows (λ (r : InstRow). r.id) ∙ many

pub ids_laid : (name : List ℕ) (time : ℕ) (p : Prepared) (ids : List InstId) (guid : List ℕ) (laid : LaidValue) (rows : List InstRow) (region : List ℕ) → IsLaid name time p ids guid laid → length rows ≡ length p.parts → All (λ row. AreSixteen row.id.0) rows
    → region ≡ before_references name time p guid ++ (marked 88 (references_naming p.parts (ids_in rows)) ++ after_references p.parts) → IsLaid name time p (ids_in rows) guid (with_region region laid)
ids_laid name time p ids guid laid rows region is many fit set = record {
  region = set ∙ sym (region_marked name time p (ids_in rows) guid (rows_one_each rows p many));
  one_each = rows_one_each rows p many;
  ids_fit = All-map (λ (i : InstId). AreSixteen i.0) (λ (r : InstRow). r.id) rows fit;
  guid_fits = is.guid_fits;
  guid_begins = is.guid_begins;
  refs_begin = is.refs_begin;
  sizes = is.sizes;
}

-- ---- the GUID

pub guid_ends : (name : List ℕ) (time : ℕ) (p : Prepared) (ids : List InstId) (guid : List ℕ) (laid : LaidValue) → IsLaid name time p ids guid laid → laid.guid_at + 32 ≤ length laid.region
guid_ends name time p ids guid laid is =
    let all = ap length (is.region ∙ region_around name time p ids guid) in
    let a = length-append (before_guid time p) (encode_lower guid ++ after_guid name p ids) in
    let b = length-append (encode_lower guid) (after_guid name p ids) in
    let c = digits_long guid is.guid_fits in
    let d = before_long time p in
    let e = is.guid_begins in
    omega (arith, all, a, b, c, d, e)

pub guid_laid : (name : List ℕ) (time : ℕ) (p : Prepared) (ids : List InstId) (old guid : List ℕ) (laid : LaidValue) (region : List ℕ) → IsLaid name time p ids old laid → AreSixteen guid
    → ((front digits back : List ℕ) → laid.region ≡ front ++ (digits ++ back) → laid.guid_at ≡ length front → length digits ≡ 32 → region ≡ front ++ (encode_lower guid ++ back)) → IsLaid name time p ids guid (with_region region laid)
guid_laid name time p ids old guid laid region is sixteen put = record {
  region = put (before_guid time p) (encode_lower old) (after_guid name p ids) (is.region ∙ region_around name time p ids old) (is.guid_begins ∙ sym (before_long time p)) (digits_long old is.guid_fits) ∙ sym (region_around name time p ids guid);
  one_each = is.one_each;
  ids_fit = is.ids_fit;
  guid_fits = sixteen;
  guid_begins = is.guid_begins;
  refs_begin = is.refs_begin;
  sizes = is.sizes;
}
