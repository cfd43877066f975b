-- A message's lines name few instances: each reference has the hash's 40 digits, and the block of lines is short.
use Rattle.std.specs.Prelude.{◌≡◌, ◌<◌, ◌≤◌, ◌+◌, ◌*◌, ◌==◌, ℕ, Bool, true, false, cond, List, [], ◌∷◌, ◌++◌, length, take, drop, map, filter, flat_map, codes}
use Rattle.std.specs.List.{AllByRecursion}
use Rattle.std.proofs.Common.{ap, arith, suc, length-append}
use Rattle.hex.specs.Hex.{encode_lower, lower_digits}
use Rattle.hex.proofs.HexLemmas.{length-encode_with}
use Rattle.mdbox_base.specs.Numbers.{decimal_text}
use Rattle.mdbox_base.specs.declared.ids.Hash.{Hash}
use Rattle.mdbox_base.specs.declared.ids.InstId.{InstId}
use Rattle.mdbox_base.specs.declared.metadata.ExtRef.{ExtRef}
use Rattle.model_storage.specs.declared.metadata_value.Metadata.{Metadata}
use Rattle.model_storage.specs.Metadata.{IsMetadata, HasReferences}
use Rattle.model_storage.specs.References.{options_text, instance_path, reference_text, ReferenceFits, AreReferences}
use Rattle.model_storage.specs.StorageFile.{Line, Message, IsMessage, line_text, values_of}

-- what stands after or before is no shorter than a part
behind_long : (n : ℕ) (xs ys : List ℕ) → n ≤ length ys → n ≤ length (xs ++ ys)
behind_long n xs ys h = let l = length-append xs ys in omega (arith, l, h)

front_long : (n : ℕ) (xs ys : List ℕ) → n ≤ length xs → n ≤ length (xs ++ ys)
front_long n xs ys h = let l = length-append xs ys in omega (arith, l, h)

path_long : (hash : Hash) (id : InstId) → length hash.0 ≡ 20 → 40 ≤ length (instance_path hash id)
path_long hash id e =
    let digits : 40 ≤ length (encode_lower hash.0) = let l = length-encode_with lower_digits hash.0 in omega (arith, l, e) in
    behind_long 40 (encode_lower (take 1 hash.0)) _
    (behind_long 40 (codes "/") _
    (behind_long 40 (encode_lower (take 1 (drop 1 hash.0))) _
    (behind_long 40 (codes "/") _
    (front_long 40 (encode_lower hash.0) _ digits))))

reference_long : (ref : ExtRef) → ReferenceFits ref → 40 ≤ length (reference_text ref)
reference_long ref fits =
    behind_long 40 (decimal_text ref.start) _
    (behind_long 40 (codes " ") _
    (behind_long 40 (decimal_text ref.count) _
    (behind_long 40 (codes " ") _
    (behind_long 40 (options_text ref.form) _
    (behind_long 40 (codes " ") _ (path_long ref.hash ref.id fits.hash_length))))))

rest_long : (refs : List ExtRef) → AllByRecursion ReferenceFits refs → length refs * 40 ≤ length (flat_map (λ r. codes " " ++ reference_text r) refs)
rest_long [] fits = omega arith
rest_long (r ∷ rs) fits =
    let here = reference_long r fits.0 in
    let rest = rest_long rs fits.1 in
    let a = length-append (codes " " ++ reference_text r) (flat_map (λ r. codes " " ++ reference_text r) rs) in
    let b = length-append (codes " ") (reference_text r) in
    omega (arith, here, rest, a, b)

references_long : (text : List ℕ) (refs : List ExtRef) → AreReferences text refs → length refs * 40 ≤ length text
references_long text [] are = omega arith
references_long text (r ∷ rs) are =
    let here = reference_long r are.fit.0 in
    let rest = rest_long rs are.fit.1 in
    let a = length-append (reference_text r) (flat_map (λ r. codes " " ++ reference_text r) rs) in
    let e = ap length are.spelled in
    omega (arith, here, rest, a, e)

-- a value is no longer than the lines
value_short : (key : ℕ) (lines : List Line) (text : List ℕ) → values_of key lines ≡ text ∷ [] → length text ≤ length (flat_map line_text lines)
value_short key [] text e = absurd (cc e)
value_short key (line ∷ lines) text e = by_test (line.key == key) (value_short key lines text) e
  where
    here : length (flat_map line_text (line ∷ lines)) ≡ length (line_text line) + length (flat_map line_text lines)
    here = length-append (line_text line) (flat_map line_text lines)

    own : length (line_text line) ≡ suc (length line.value + 1)
    own = ap suc (length-append line.value (10 ∷ []))

    by_test : (t : Bool) → (values_of key lines ≡ text ∷ [] → length text ≤ length (flat_map line_text lines)) → map (λ l. l.value) (cond t (line ∷ filter (λ l. l.key == key) lines) (filter (λ l. l.key == key) lines)) ≡ text ∷ []
        → length text ≤ length (flat_map line_text (line ∷ lines))
    by_test true rest h =
        let same : line.value ≡ text = cc h in
        let l = ap length same in
        omega (arith, here, own, l)
    by_test false rest h = let r = rest h in omega (arith, here, r)

few_of : (lines : List Line) (refs : List ExtRef) → HasReferences lines refs → length refs * 40 ≤ length (flat_map line_text lines)
few_of lines [] h = omega arith
few_of lines (r ∷ rs) h =
    let long = references_long h.0 (r ∷ rs) h.2 in
    let short = value_short 88 lines h.0 h.1 in
    omega (arith, long, short)

pub few_references : (octets : List ℕ) (m : Message) (meta : Metadata) → IsMessage octets m → IsMetadata m.lines meta → length meta.refs < 26215
few_references octets m meta is says =
    let few = few_of m.lines meta.refs says.refs in
    let block = is.ends.short in
    let spelled = ap length is.ends.spelled in
    let end = length-append (flat_map line_text m.lines) (10 ∷ []) in
    omega (arith, few, block, spelled, end)
