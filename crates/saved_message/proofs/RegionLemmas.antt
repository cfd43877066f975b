-- The region of a saved message, around its GUID and around its references.
use Rattle.std.proofs.Common.{◌≡◌, ◌==◌, ◌<◌, ◌+◌, ◌^◌, ℕ, Bool, true, false, List, [], ◌∷◌, ◌++◌, refl, sym, ◌∙◌, ap, append_assoc, append-nil, arith, drop, take, length, length-append}
use Rattle.std.specs.Prelude.{flat_map, replicate, Some, None, IfSome, if◌then◌else◌}
use Rattle.std.specs.List.{AllByRecursion}
use Rattle.std.proofs.lemmas.Grind.{flat_map-append}
use Rattle.hex.specs.Hex.{encode_lower, lower_digits}
use Rattle.hex.proofs.HexLemmas.{length-encode_with}
use Rattle.mdbox_base.specs.Numbers.{hex_text, decimal_text}
use Rattle.mdbox_base.specs.Words.{IsName}
use Rattle.mdbox_base.specs.declared.ids.InstId.{InstId}
use Rattle.mdbox_base.specs.declared.metadata.ExtRef.{ExtRef}
use Rattle.model_storage.specs.Metadata.{known_lines, optional_line, references_line}
use Rattle.model_storage.specs.References.{ReferenceFits, options_text, reference_text, references_text}
use Rattle.model_storage.specs.StorageFile.{Line, line_text}
use Rattle.model_storage.specs.WrittenFile.{upper_digits, written_message}
use Rattle.dbox_metadata.specs.MadeMetadata.{IsMadeMetadata}
use Rattle.attach_detach.specs.declared.message.Detached.{Detached}
use Rattle.attach_detach.specs.declared.message.Prepared.{Prepared}
use Rattle.dbox_metadata.proofs.RefLemmas.{others_text}
use Rattle.saved_message.specs.Laid.{AreSixteen, guid_place, lines_of_numbers}
use Rattle.saved_message.specs.References.{marked}
use Rattle.saved_message.specs.Region.{reference_to, references_naming, size_if_other, written_metadata, written_region}

-- ---- the metadata

pub other_small : (same : Bool) (n : ℕ) → n < 2 ^ 64 → IfSome (if same then None else Some n) (λ k. k < 2 ^ 64)
other_small true n h = tt
other_small false n h = h

pub written_is_made : (name : List ℕ) (time : ℕ) (p : Prepared) (ids : List InstId) (guid : List ℕ) → IsName name → time < 2 ^ 64 → p.whole < 2 ^ 64 → p.virtual_size < 2 ^ 64 → AreSixteen guid
    → AllByRecursion ReferenceFits (references_naming p.parts ids) → IsMadeMetadata (written_metadata name time p ids guid)
written_is_made name time p ids guid named timed whole few sixteen fit = record {
  received = timed;
  physical = other_small (p.whole == length p.body) p.whole whole;
  virtual_size = few;
  guid = (sixteen.long, sixteen.each);
  origin = named;
  refs = fit;
  unknown = refl;
}

-- a message with other lines of the same text is written the same
pub written_as : (body : List ℕ) (a b : List Line) → flat_map line_text a ≡ flat_map line_text b → written_message (record { body = body; lines = a }) ≡ written_message (record { body = body; lines = b })
written_as body a b same = ap (λ (text : List ℕ). (1 ∷ 2 ∷ 78 ∷ (replicate 10 32 ++ (upper_digits 16 (length body) ++ 10 ∷ []))) ++ (body ++ (10 ∷ 1 ∷ 3 ∷ 10 ∷ (text ++ 10 ∷ [])))) same

-- ---- the region, around its GUID

abbrev pub header_front : List ℕ → List ℕ
header_front body = 1 ∷ 2 ∷ 78 ∷ (replicate 10 32 ++ (upper_digits 16 (length body) ++ 10 ∷ []))

abbrev pub numbers_text : ℕ → Prepared → List ℕ
numbers_text time p = flat_map line_text (lines_of_numbers time p)

abbrev pub names_lines : List ℕ → Prepared → List InstId → List ℕ → List Line
names_lines name p ids guid = record { key = 71; value = encode_lower guid } ∷ record { key = 66; value = name } ∷ references_line (references_naming p.parts ids)

abbrev pub references_part : List Detached → List InstId → List ℕ
references_part parts ids = flat_map line_text (references_line (references_naming parts ids))

abbrev pub before_guid : ℕ → Prepared → List ℕ
before_guid time p = header_front p.body ++ (p.body ++ (10 ∷ 1 ∷ 3 ∷ 10 ∷ (numbers_text time p ++ 71 ∷ [])))

abbrev pub after_guid : List ℕ → Prepared → List InstId → List ℕ
after_guid name p ids = 10 ∷ 66 ∷ (name ++ 10 ∷ (references_part p.parts ids ++ 10 ∷ []))

lines_apart : (name : List ℕ) (time : ℕ) (p : Prepared) (ids : List InstId) (guid : List ℕ) → known_lines (written_metadata name time p ids guid) ≡ lines_of_numbers time p ++ names_lines name p ids guid
lines_apart name time p ids guid =
    let z : List Line = optional_line 90 hex_text (size_if_other p.whole (length p.body)) in
    let v : Line = record { key = 86; value = hex_text p.virtual_size } in
    ap (λ (x : List Line). record { key = 82; value = hex_text time } ∷ x) (sym (append_assoc z (v ∷ []) (names_lines name p ids guid)))

pub texts_apart : (name : List ℕ) (time : ℕ) (p : Prepared) (ids : List InstId) (guid : List ℕ) → flat_map line_text (known_lines (written_metadata name time p ids guid)) ≡ numbers_text time p ++ flat_map line_text (names_lines name p ids guid)
texts_apart name time p ids guid = ap (flat_map line_text) (lines_apart name time p ids guid) ∙ flat_map-append line_text (lines_of_numbers time p) (names_lines name p ids guid)

names_apart : (name digits rest : List ℕ) → ((71 ∷ (digits ++ 10 ∷ [])) ++ ((66 ∷ (name ++ 10 ∷ [])) ++ rest)) ++ 10 ∷ [] ≡ 71 ∷ (digits ++ (10 ∷ 66 ∷ (name ++ 10 ∷ (rest ++ 10 ∷ []))))
names_apart name digits rest = simp append_assoc

pub region_around : (name : List ℕ) (time : ℕ) (p : Prepared) (ids : List InstId) (guid : List ℕ) → written_region name time p ids guid ≡ before_guid time p ++ (encode_lower guid ++ after_guid name p ids)
region_around name time p ids guid =
    let digits : List ℕ = encode_lower guid in
    let names : List ℕ = flat_map line_text (names_lines name p ids guid) in
    let n : List ℕ = numbers_text time p in
    let y : List ℕ = digits ++ after_guid name p ids in
    let lines : flat_map line_text (known_lines (written_metadata name time p ids guid)) ++ 10 ∷ [] ≡ (n ++ 71 ∷ []) ++ y =
    ap (λ (x : List ℕ). x ++ 10 ∷ []) (texts_apart name time p ids guid)
    ∙ (append_assoc n names (10 ∷ []) ∙ (ap (λ (x : List ℕ). n ++ x) (names_apart name digits (references_part p.parts ids)) ∙ sym (append_assoc n (71 ∷ []) y))) in
    ap (λ (x : List ℕ). header_front p.body ++ (p.body ++ (10 ∷ 1 ∷ 3 ∷ 10 ∷ x))) lines
    ∙ sym (append_assoc (header_front p.body) (p.body ++ (10 ∷ 1 ∷ 3 ∷ 10 ∷ (n ++ 71 ∷ []))) y ∙ ap (λ (x : List ℕ). header_front p.body ++ x) (append_assoc p.body (10 ∷ 1 ∷ 3 ∷ 10 ∷ (n ++ 71 ∷ [])) y))

pub before_long : (time : ℕ) (p : Prepared) → length (before_guid time p) ≡ guid_place time p
before_long time p =
    let n : List ℕ = numbers_text time p in
    let tail : List ℕ = 10 ∷ 1 ∷ 3 ∷ 10 ∷ (n ++ 71 ∷ []) in
    let a = length-append (header_front p.body) (p.body ++ tail) in
    let b = length-append p.body tail in
    let c = length-append n (71 ∷ []) in
    let d : length (header_front p.body) ≡ 30 = refl in
    omega (arith, a, b, c, d)

pub digits_long : (guid : List ℕ) → AreSixteen guid → length (encode_lower guid) ≡ 32
digits_long guid sixteen = let all = length-encode_with lower_digits guid in let long = sixteen.long in omega (arith, all, long)

-- ---- the region, around its references

-- what stands before the line of the references, and behind the last of them
abbrev pub before_references : List ℕ → ℕ → Prepared → List ℕ → List ℕ
before_references name time p guid = before_guid time p ++ (encode_lower guid ++ (10 ∷ 66 ∷ (name ++ 10 ∷ [])))

abbrev pub after_references : List Detached → List ℕ
after_references [] = 10 ∷ []
after_references (d ∷ parts) = 10 ∷ 10 ∷ []

spaced_marked : (refs : List ExtRef) → marked 32 refs ≡ others_text refs
spaced_marked [] = refl
spaced_marked (r ∷ refs) = ap (λ (x : List ℕ). 32 ∷ (reference_text r ++ x)) (spaced_marked refs)

line_marked : (r : ExtRef) (refs : List ExtRef) → flat_map line_text (references_line (r ∷ refs)) ++ 10 ∷ [] ≡ marked 88 (r ∷ refs) ++ (10 ∷ 10 ∷ [])
line_marked r refs =
    let text : List ℕ = references_text (r ∷ refs) in
    let same : text ≡ reference_text r ++ marked 32 refs = ap (λ (x : List ℕ). reference_text r ++ x) (sym (spaced_marked refs)) in
    ap (λ (x : List ℕ). x ++ 10 ∷ []) (append-nil (88 ∷ (text ++ 10 ∷ []))) ∙ (ap (λ (x : List ℕ). 88 ∷ x) (append_assoc text (10 ∷ []) (10 ∷ [])) ∙ ap (λ (x : List ℕ). 88 ∷ (x ++ (10 ∷ 10 ∷ []))) same)

part_marked : (parts : List Detached) (ids : List InstId) → length ids ≡ length parts → references_part parts ids ++ 10 ∷ [] ≡ marked 88 (references_naming parts ids) ++ after_references parts
part_marked [] ids long = refl
part_marked (d ∷ parts) [] long = absurd (omega (arith, long))
part_marked (d ∷ parts) (id ∷ ids) long = line_marked (reference_to d id) (references_naming parts ids)

pub region_marked : (name : List ℕ) (time : ℕ) (p : Prepared) (ids : List InstId) (guid : List ℕ) → length ids ≡ length p.parts
    → written_region name time p ids guid ≡ before_references name time p guid ++ (marked 88 (references_naming p.parts ids) ++ after_references p.parts)
region_marked name time p ids guid long =
    let y : List ℕ = marked 88 (references_naming p.parts ids) ++ after_references p.parts in
    let g : List ℕ = encode_lower guid in
    region_around name time p ids guid
    ∙ (ap (λ (x : List ℕ). before_guid time p ++ (g ++ (10 ∷ 66 ∷ (name ++ 10 ∷ x)))) (part_marked p.parts ids long)
    ∙ sym (append_assoc (before_guid time p) (g ++ (10 ∷ 66 ∷ (name ++ 10 ∷ []))) y
    ∙ ap (λ (x : List ℕ). before_guid time p ++ x) (append_assoc g (10 ∷ 66 ∷ (name ++ 10 ∷ [])) y ∙ ap (λ (x : List ℕ). g ++ (10 ∷ 66 ∷ x)) (append_assoc name (10 ∷ []) y))))

pub before_references_long : (name : List ℕ) (time : ℕ) (p : Prepared) (guid : List ℕ) → AreSixteen guid → length (before_references name time p guid) ≡ guid_place time p + 35 + length name
before_references_long name time p guid sixteen =
    let tail : List ℕ = 10 ∷ 66 ∷ (name ++ 10 ∷ []) in
    let a = length-append (before_guid time p) (encode_lower guid ++ tail) in
    let b = length-append (encode_lower guid) tail in
    let c = length-append name (10 ∷ []) in
    let d = before_long time p in
    let e = digits_long guid sixteen in
    omega (arith, a, b, c, d, e)

-- ---- a reference, around its id

abbrev pub reference_front : Detached → List ℕ
reference_front d =
    decimal_text d.start ++ (32 ∷ (decimal_text d.count ++ (32 ∷ (options_text d.form ++ (32 ∷ (encode_lower (take 1 d.hash.0) ++ (47 ∷ (encode_lower (take 1 (drop 1 d.hash.0)) ++ (47 ∷ (encode_lower d.hash.0 ++ 45 ∷ []))))))))))

pub reference_around : (d : Detached) (id : InstId) → reference_text (reference_to d id) ≡ reference_front d ++ encode_lower id.0
reference_around d id = simp append_assoc

pub reference_long : (d : Detached) (id : InstId) → AreSixteen id.0 → length (reference_text (reference_to d id)) ≡ length (reference_front d) + 32
reference_long d id sixteen = let a = ap length (reference_around d id) in let b = length-append (reference_front d) (encode_lower id.0) in let c = digits_long id.0 sixteen in omega (arith, a, b, c)
