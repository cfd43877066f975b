-- The paths of instances, in pieces.
use Rattle.std.specs.Prelude.{◌≡◌, ◌<◌, ◌≤◌, ◌/◌, ◌%◌, ℕ, zero, suc, true, List, [], ◌∷◌, ◌++◌, length, slice_index, codes, IsTrue, refl}
use Rattle.std.specs.List.{list_all}
use Rattle.std.proofs.Common.{sym, ◌∙◌, arith}
use Rattle.std.proofs.lemmas.Grind.{common_steps}
use Rattle.hex.specs.Hex.{encode_with, encode_lower, lower_digits}
use Rattle.hex.proofs.HexLemmas.{length-encode_with}
use Rattle.disk_model.specs.declared.name.FileName.TheVariants.{Inst}
use Rattle.mdbox_base.specs.Words.{IsOctets, is_other_than}
use Rattle.file_paths.specs.Paths.{path_text, IsStoreFile}
use Rattle.model_octets.proofs.PiecesLemmas.{split_same}
use Rattle.model_storage.proofs.ReferenceLemmas.{until_same, hex_same}
use Rattle.file_paths.specs.InstPath.{inst_path}
use Rattle.mdbox_base.proofs.LowerHexLemmas.{lower_digit}

-- a digit is none of the marks below `0`
other_digit : (mark d : ℕ) → mark < 48 → d < 16 → is_other_than mark (slice_index lower_digits d) ≡ true
other_digit mark d low lt = rw (lower_digit d lt) (grind (arith, common_steps))

other_digits : (mark : ℕ) (octets : List ℕ) → mark < 48 → IsOctets octets → IsTrue (list_all (is_other_than mark) (encode_lower octets))
unfolding encode_with
other_digits mark [] low h = refl
other_digits mark (b ∷ rest) low h =
    let fits : b < 256 = h 0 0 (omega arith) in
    rw (other_digit mark (b / 16) low (omega arith), other_digit mark (b % 16) low (omega arith))
    (other_digits mark rest low (λ k d lt. h (suc k) d (omega arith)))

-- a cut at the first mark is that behind digits
pub cut_digits : (mark : ℕ) (octets before x y : List ℕ) → mark < 48 → IsOctets octets → IsTrue (list_all (is_other_than mark) before) →
    before ++ mark ∷ x ≡ encode_lower octets ++ mark ∷ y → (before ≡ encode_lower octets) × (x ≡ y)
cut_digits mark octets before x y low h p e = until_same mark before (encode_lower octets) x y p (other_digits mark octets low h) e

pub same_digits : (mark : ℕ) (a b x y : List ℕ) → mark < 48 → IsOctets a → IsOctets b → encode_lower a ++ mark ∷ x ≡ encode_lower b ++ mark ∷ y → (a ≡ b) × (x ≡ y)
same_digits mark a b x y low ha hb e =
    let r = cut_digits mark b (encode_lower a) x y low hb (other_digits mark a low ha) e in
    (hex_same a b ha hb r.0, r.1)

pub one_octet : (octet : ℕ) → octet < 256 → IsOctets (octet ∷ [])
one_octet octet lt zero d h = lt
one_octet octet lt (suc k) d h = absurd (omega (arith, h))

-- what stands behind the first folder
pub behind_folder : (a b : ℕ) (x y : List ℕ) → encode_lower (a ∷ []) ++ (codes "/" ++ x) ≡ encode_lower (b ∷ []) ++ (codes "/" ++ y) → x ≡ y
behind_folder a b x y e =
    let same : length (encode_lower (a ∷ [])) ≡ length (encode_lower (b ∷ [])) = length-encode_with lower_digits (a ∷ []) ∙ sym (length-encode_with lower_digits (b ∷ [])) in
    (split_same (codes "/") (codes "/") x y refl (split_same (encode_lower (a ∷ [])) (encode_lower (b ∷ [])) _ _ same e).1).1

folder_same : (a b : ℕ) (x y : List ℕ) → a < 256 → b < 256 →
    encode_lower (a ∷ []) ++ (codes "/" ++ x) ≡ encode_lower (b ∷ []) ++ (codes "/" ++ y) → (a ≡ b) × (x ≡ y)
folder_same a b x y la lb e =
    let r = same_digits 47 (a ∷ []) (b ∷ []) x y (omega arith) (one_octet a la) (one_octet b lb) e in
    (cc r.0, r.1)

-- folders and what stands in them are told by the path
inst_path_same : (a b c d : ℕ) (x y : List ℕ) → a < 256 → b < 256 → c < 256 → d < 256 → inst_path a b x ≡ inst_path c d y → (a ≡ c) × (b ≡ d) × (x ≡ y)
inst_path_same a b c d x y la lb lc ld e =
    let front = codes "attachments/" in
    let one = folder_same a c _ _ la lc (split_same front front _ _ refl e).1 in
    let two = folder_same b d x y lb ld one.1 in
    (one.0, two.0, two.1)

-- the path of an instance, by its folders
pub inst_text : (hash id : List ℕ) → 2 ≤ length hash → path_text (Inst hash id) ≡ inst_path (slice_index hash 0) (slice_index hash 1) (encode_lower hash ++ (codes "-" ++ encode_lower id))
inst_text [] id l = absurd (omega arith)
inst_text (a ∷ []) id l = absurd (omega arith)
inst_text (a ∷ b ∷ rest) id l = refl

-- what is the name of an instance in these folders
pub named : (first second : ℕ) (text hash id : List ℕ) → first < 256 → second < 256 → IsStoreFile (Inst hash id) → inst_path first second text ≡ path_text (Inst hash id) →
    (first ≡ slice_index hash 0) × (second ≡ slice_index hash 1) × (text ≡ encode_lower hash ++ (codes "-" ++ encode_lower id))
named first second text hash id lf ls h e =
    inst_path_same first second (slice_index hash 0) (slice_index hash 1) text _ lf ls (h.1 0 0 (omega (arith, h.0))) (h.1 1 0 (omega (arith, h.0))) (e ∙ inst_text hash id (omega (arith, h.0)))
