-- The paths of instances, in pieces.
use Rattle.std.specs.Prelude.{◌≡◌, ◌<◌, ◌≤◌, ℕ, zero, suc, List, [], ◌∷◌, ◌++◌, length, take, slice_index, IsTrue, refl}
use Rattle.std.specs.List.{list_all}
use Rattle.std.proofs.Common.{sym, ◌∙◌, arith, length-append}
use Rattle.std.proofs.Math.Seq.{take-append_seam}
use Rattle.hex.specs.Hex.{encode_lower, lower_digits}
use Rattle.hex.proofs.HexLemmas.{length-encode_with}
use Rattle.mdbox_base.specs.Words.{IsOctets, is_other_than}
use Rattle.mdbox_base.specs.declared.ids.Hash.{Hash}
use Rattle.mdbox_base.specs.declared.ids.InstId.{InstId}
use Rattle.model_storage.proofs.ReferenceLemmas.{hex_same}
use Rattle.model_storage.specs.References.{instance_path}
use Rattle.dbox_metadata.specs.Instances.{NamesInstance, IsInstancePath}
use Rattle.dbox_metadata.proofs.SplitLemmas.{cut_digits}

-- the octet at a place, in digits
abbrev pub digits_at : List ℕ → ℕ → List ℕ
digits_at octets i = encode_lower (slice_index octets i ∷ [])

-- a path by its pieces
abbrev pub pieces_text : List ℕ → List ℕ → List ℕ → List ℕ → List ℕ
pieces_text first second hash id = first ++ 47 ∷ (second ++ 47 ∷ (hash ++ 45 ∷ id))

pieces_of : (octets : List ℕ) (id : InstId) → 2 ≤ length octets → instance_path (record { 0 = octets }) id ≡ pieces_text (digits_at octets 0) (digits_at octets 1) (encode_lower octets) (encode_lower id.0)
pieces_of [] id l = absurd (omega arith)
pieces_of (a ∷ []) id l = absurd (omega arith)
pieces_of (a ∷ b ∷ rest) id l = refl

pub path_pieces : (hash : Hash) (id : InstId) → NamesInstance hash id → instance_path hash id ≡ pieces_text (digits_at hash.0 0) (digits_at hash.0 1) (encode_lower hash.0) (encode_lower id.0)
path_pieces hash id names = pieces_of hash.0 id (omega (arith, names.hash_length))

one_octet : (n : ℕ) → n < 256 → IsOctets (n ∷ [])
one_octet n lt zero d h = lt
one_octet n lt (suc k) d h = absurd (omega (arith, h))

pub octet_fits : (octets : List ℕ) (i : ℕ) → IsOctets octets → i < length octets → IsOctets (slice_index octets i ∷ [])
octet_fits octets i h lt = one_octet (slice_index octets i) (h i 0 lt)

-- the pieces of a path that is cut at the marks, one after another
pub first_piece : (path first rest : List ℕ) (hash : Hash) (id : InstId) → path ≡ first ++ 47 ∷ rest → IsTrue (list_all (is_other_than 47) first) → IsInstancePath path hash id →
    (first ≡ digits_at hash.0 0) × (rest ≡ digits_at hash.0 1 ++ 47 ∷ (encode_lower hash.0 ++ 45 ∷ encode_lower id.0))
first_piece path first rest hash id e p (names, is) =
    cut_digits 47 (slice_index hash.0 0 ∷ []) first rest _ (omega arith) (octet_fits hash.0 0 names.hash_octets (omega (arith, names.hash_length))) p (sym e ∙ is ∙ path_pieces hash id names)

pub second_piece : (second name : List ℕ) (hash : Hash) (id : InstId) → IsTrue (list_all (is_other_than 47) second) → NamesInstance hash id →
    second ++ 47 ∷ name ≡ digits_at hash.0 1 ++ 47 ∷ (encode_lower hash.0 ++ 45 ∷ encode_lower id.0) → (second ≡ digits_at hash.0 1) × (name ≡ encode_lower hash.0 ++ 45 ∷ encode_lower id.0)
second_piece second name hash id p names e =
    cut_digits 47 (slice_index hash.0 1 ∷ []) second name _ (omega arith) (octet_fits hash.0 1 names.hash_octets (omega (arith, names.hash_length))) p e

pub third_piece : (digits behind : List ℕ) (hash : Hash) (id : InstId) → IsTrue (list_all (is_other_than 45) digits) → NamesInstance hash id →
    digits ++ 45 ∷ behind ≡ encode_lower hash.0 ++ 45 ∷ encode_lower id.0 → (digits ≡ encode_lower hash.0) × (behind ≡ encode_lower id.0)
third_piece digits behind hash id p names e = cut_digits 45 hash.0 digits behind _ (omega arith) names.hash_octets p e

-- a path has 79 octets
pub path_length : (hash : Hash) (id : InstId) → NamesInstance hash id → length (instance_path hash id) ≡ 79
path_length hash id names =
    rw (path_pieces hash id names)
    (omega (
      arith,
      names.hash_length,
      names.id_length,
      length-append (digits_at hash.0 0) (47 ∷ (digits_at hash.0 1 ++ 47 ∷ (encode_lower hash.0 ++ 45 ∷ encode_lower id.0))),
      length-append (digits_at hash.0 1) (47 ∷ (encode_lower hash.0 ++ 45 ∷ encode_lower id.0)),
      length-append (encode_lower hash.0) (45 ∷ encode_lower id.0),
      length-encode_with lower_digits (slice_index hash.0 0 ∷ []),
      length-encode_with lower_digits (slice_index hash.0 1 ∷ []),
      length-encode_with lower_digits hash.0,
      length-encode_with lower_digits id.0,
    ))

-- equal digits, equal octets
pub same_octets : (a b : List ℕ) (text : List ℕ) → IsOctets a → IsOctets b → text ≡ encode_lower a → text ≡ encode_lower b → a ≡ b
same_octets a b text ha hb ea eb = hex_same a b ha hb (sym ea ∙ eb)

pub same_octet : (a b : ℕ) (text : List ℕ) → a < 256 → b < 256 → text ≡ encode_lower (a ∷ []) → text ≡ encode_lower (b ∷ []) → a ≡ b
same_octet a b text ha hb ea eb = let h : a ∷ [] ≡ b ∷ [] = same_octets (a ∷ []) (b ∷ []) text (one_octet a ha) (one_octet b hb) ea eb in cc h

-- the path in front of a text
pub front_of_path : (text behind : List ℕ) (hash : Hash) (id : InstId) → NamesInstance hash id → text ≡ instance_path hash id ++ behind → take 79 text ≡ instance_path hash id
front_of_path text behind hash id names e = rw (e, ← path_length hash id names) (take-append_seam (instance_path hash id) behind)
