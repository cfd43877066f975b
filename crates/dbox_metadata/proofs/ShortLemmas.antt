-- How long metadata is that a store makes.
use Rattle.std.specs.Prelude.{◌≡◌, ◌≤◌, ◌<◌, ◌+◌, ◌*◌, ◌^◌, ℕ, Bool, true, false, List, [], ◌∷◌, ◌++◌, length, flat_map, codes, Option, Some, None, IfSome, if◌then◌else◌}
use Rattle.std.specs.List.{AllByRecursion}
use Rattle.std.specs.Fmt.{decimal}
use Rattle.std.proofs.Common.{ap, arith, length-append, append-nil}
use Rattle.std.proofs.lemmas.Fmt.{length-decimal-le}
use Rattle.std.proofs.lemmas.Grind.{flat_map-append}
use Rattle.hex.specs.Hex.{encode_lower, lower_digits}
use Rattle.hex.proofs.HexLemmas.{length-encode_with}
use Rattle.mdbox_base.specs.Numbers.{hex_text}
use Rattle.mdbox_base.specs.Words.{IsName, IsOctets}
use Rattle.mdbox_base.specs.declared.ids.Guid.{Guid}
use Rattle.mdbox_base.specs.declared.metadata.LineForm.{LineForm}
use Rattle.mdbox_base.specs.declared.metadata.ExtRef.{ExtRef}
use Rattle.model_octets.proofs.HexTextLemmas.{hex_text_is_hex}
use Rattle.model_storage.specs.declared.metadata_value.Metadata.{Metadata}
use Rattle.model_storage.specs.StorageFile.{Line, line_text}
use Rattle.model_storage.specs.References.{ReferenceFits, FormFits, options_text, instance_path, reference_text, references_text}
use Rattle.model_storage.specs.Metadata.{optional_line, references_line, known_lines, metadata_text}
use Rattle.dbox_metadata.specs.MadeMetadata.{IsMadeMetadata}
use Rattle.dbox_metadata.proofs.InstanceLemmas.{path_length}
use Rattle.dbox_metadata.proofs.RefLemmas.{names_of, others_text}

line_length : (key : ℕ) (value : List ℕ) → length (flat_map line_text (record { key = key; value = value } ∷ [])) ≡ length value + 2
line_length key value = omega (arith, length-append (value ++ 10 ∷ []) [], length-append value (10 ∷ []))

number_short : (key : ℕ) (o : Option ℕ) → IfSome o (λ n. n < 2 ^ 64) → length (flat_map line_text (optional_line key hex_text o)) ≤ 18
number_short key None h = omega arith
number_short key (Some n) h = let hex = hex_text_is_hex n h in omega (arith, line_length key (hex_text n), hex.short)

guid_short : (o : Option Guid) → IfSome o (λ guid. (length guid.0 ≡ 16) × IsOctets guid.0) → length (flat_map line_text (optional_line 71 (λ guid. encode_lower guid.0) o)) ≤ 34
guid_short None h = omega arith
guid_short (Some guid) h = omega (arith, line_length 71 (encode_lower guid.0), length-encode_with lower_digits guid.0, h.0)

origin_short : (o : Option (List ℕ)) → IfSome o IsName → length (flat_map line_text (optional_line 66 (λ name. name) o)) ≤ 257
origin_short None h = omega arith
origin_short (Some name) h = omega (arith, line_length 66 name, h.short)

mark_short : (crlf : Bool) → length (if crlf then codes "C" else codes "") ≤ 1
mark_short true = omega arith
mark_short false = omega arith

options_short : (form : Option LineForm) → FormFits form → length (options_text form) ≤ 5
options_short None fits = omega arith
options_short (Some form) fits =
    let few : form.length < 10 ^ 3 = omega (arith, fits.most) in
    let small : form.length < 2 ^ 64 = omega (arith, fits.most) in
    omega (arith, length-append (decimal form.length) (if form.crlf then codes "C" else codes ""), mark_short form.crlf, length-decimal-le 3 form.length (omega arith) few small)

decimal_short : (n : ℕ) → n < 2 ^ 32 → length (decimal n) ≤ 10
decimal_short n lt =
    let few : n < 10 ^ 10 = omega (arith, lt) in
    let small : n < 2 ^ 64 = omega (arith, lt) in
    length-decimal-le 10 n (omega arith) few small

group_length : (start count form path : List ℕ) → length (start ++ (codes " " ++ (count ++ (codes " " ++ (form ++ (codes " " ++ path)))))) ≡ length start + length count + length form + length path + 3
group_length start count form path =
    omega (arith, length-append start (32 ∷ (count ++ 32 ∷ (form ++ 32 ∷ path))), length-append count (32 ∷ (form ++ 32 ∷ path)), length-append form (32 ∷ path))

reference_short : (ref : ExtRef) → ReferenceFits ref → length (reference_text ref) ≤ 107
reference_short ref fits =
    omega (
      arith,
      group_length (decimal ref.start) (decimal ref.count) (options_text ref.form) (instance_path ref.hash ref.id),
      decimal_short ref.start fits.start,
      decimal_short ref.count fits.count,
      options_short ref.form fits.form,
      path_length ref.hash ref.id (names_of ref fits),
    )

others_short : (refs : List ExtRef) → AllByRecursion ReferenceFits refs → length (others_text refs) ≤ 108 * length refs
others_short [] fit = omega arith
others_short (r ∷ refs) fit = omega (arith, length-append (codes " " ++ reference_text r) (others_text refs), reference_short r fit.0, others_short refs fit.1)

refs_short : (refs : List ExtRef) → AllByRecursion ReferenceFits refs → length (flat_map line_text (references_line refs)) ≤ 1 + 108 * length refs
refs_short [] fit = omega arith
refs_short (r ∷ refs) fit =
    omega (arith, line_length 88 (references_text (r ∷ refs)), length-append (reference_text r) (others_text refs), reference_short r fit.0, others_short refs fit.1)

join_length : (a b c d e f : List Line) → length (flat_map line_text (a ++ (b ++ (c ++ (d ++ (e ++ f)))))) ≡
    length (flat_map line_text a) + (length (flat_map line_text b) + (length (flat_map line_text c) + (length (flat_map line_text d) + (length (flat_map line_text e) + length (flat_map line_text f)))))
join_length a b c d e f = simp (flat_map-append line_text, length-append)

pub made_short : (m : Metadata) → IsMadeMetadata m → length (metadata_text m) ≤ 346 + 108 * length m.refs
made_short m made =
    let all : length (metadata_text m) ≡ length (flat_map line_text (known_lines m)) = ap length (rw made.unknown (append-nil (flat_map line_text (known_lines m)))) in
    let joined = join_length (optional_line 82 hex_text m.received) (optional_line 90 hex_text m.physical) (optional_line 86 hex_text m.virtual_size) (optional_line 71 (λ (guid : Guid). encode_lower guid.0) m.guid) (optional_line 66 (λ (name : List ℕ). name) m.origin) (references_line m.refs) in
    omega (arith, all, joined, number_short 82 m.received made.received, number_short 90 m.physical made.physical, number_short 86 m.virtual_size made.virtual_size, guid_short m.guid made.guid, origin_short m.origin made.origin, refs_short m.refs made.refs)
