-- The values of written lines have no LF.
use Rattle.std.specs.Prelude.{◌≡◌, ◌≤◌, ℕ, zero, suc, Bool, true, false, List, [], ◌∷◌, ◌++◌, flat_map, codes, take, drop, All, IsTrue, Option, Some, None, refl, if◌then◌else◌}
use Rattle.std.specs.List.{list_all, AllByRecursion}
use Rattle.std.specs.Fmt.{decimal}
use Rattle.std.proofs.Common.{arith}
use Rattle.std.proofs.lemmas.Grind.{common_steps}
use Rattle.std.proofs.lemmas.List.Folds.{list_all-append}
use Rattle.std.proofs.lemmas.List.Sums.{list_all-from_AllPass}
use Rattle.hex.specs.Hex.{encode_lower, is_hex_digit, IsBytes}
use Rattle.hex.proofs.HexLemmas.{decode_of-encode_lower, decode_of-ok}
use Rattle.mdbox_base.specs.declared.metadata.LineForm.{LineForm}
use Rattle.mdbox_base.specs.declared.metadata.ExtRef.{ExtRef}
use Rattle.model_storage.specs.StorageFile.{is_no_end}
use Rattle.model_storage.specs.References.{ReferenceFits, FormFits, reference_text, references_text, options_text, instance_path}
use Rattle.model_storage.proofs.ReferenceLemmas.{both, first, second, octets_are_bytes, is_digit, decimal_digits}
use Rattle.model_octets.proofs.HexTextLemmas.{is_lower_hex}

-- the written values have no LF
pub clear : (p : ℕ → Bool) (xs : List ℕ) → ((c : ℕ) → IsTrue (p c) → IsTrue (is_no_end c)) → IsTrue (list_all p xs) → IsTrue (list_all is_no_end xs)
clear p [] each h = refl
clear p (x ∷ xs) each h = both (is_no_end x) _ (each x (first (p x) _ h)) (clear p xs each (second (p x) _ h))

clear_append : (xs ys : List ℕ) → IsTrue (list_all is_no_end xs) → IsTrue (list_all is_no_end ys) → IsTrue (list_all is_no_end (xs ++ ys))
clear_append xs ys hx hy = rw (list_all-append is_no_end xs ys) (both (list_all is_no_end xs) _ hx hy)

pub lower_clear : (c : ℕ) → IsTrue (is_lower_hex c) → IsTrue (is_no_end c)
lower_clear c h = grind (arith, common_steps, h)

digit_clear : (c : ℕ) → IsTrue (is_digit c) → IsTrue (is_no_end c)
digit_clear c h = grind (arith, common_steps, h)

hex_digit_clear : (c : ℕ) → IsTrue (is_hex_digit c) → IsTrue (is_no_end c)
hex_digit_clear c h = grind (arith, common_steps, h)

pub printing_clear : (name : List ℕ) → All (λ octet. 32 ≤ octet) name → IsTrue (list_all is_no_end name)
printing_clear name h = list_all-from_AllPass is_no_end name (λ k d lt. above (_) (h k d lt))
  where
    above : (c : ℕ) → 32 ≤ c → is_no_end c ≡ true
    above c le = grind (arith, common_steps, le)

pub octets_clear : (xs : List ℕ) → IsBytes xs → IsTrue (list_all is_no_end (encode_lower xs))
octets_clear xs h = clear is_hex_digit (encode_lower xs) hex_digit_clear (list_all-from_AllPass is_hex_digit (encode_lower xs) (decode_of-ok (encode_lower xs) xs (decode_of-encode_lower xs h)).1)

first_byte : (xs : List ℕ) → IsBytes xs → IsBytes (take 1 xs)
first_byte [] h i = h i
first_byte (x ∷ xs) h zero = h 0
first_byte (x ∷ xs) h (suc i) = omega arith

bytes_behind : (xs : List ℕ) → IsBytes xs → IsBytes (drop 1 xs)
bytes_behind [] h i = h i
bytes_behind (x ∷ xs) h i = h (suc i)

options_clear : (form : Option LineForm) → FormFits form → IsTrue (list_all is_no_end (options_text form))
options_clear None fits = refl
options_clear (Some form) fits = clear_append (decimal form.length) (if form.crlf then codes "C" else codes "") (clear is_digit (decimal form.length) digit_clear (decimal_digits form.length (omega (arith, fits.most)))) (mark form.crlf)
  where
    mark : (crlf : Bool) → IsTrue (list_all is_no_end (if crlf then codes "C" else codes ""))
    mark true = refl
    mark false = refl

-- a text without LF
record IsClear (xs : List ℕ) : Type 0 where
  none : IsTrue (list_all is_no_end xs)

in_front : (xs : List ℕ) {ys : List ℕ} → IsTrue (list_all is_no_end xs) → IsClear ys → IsClear (xs ++ ys)
in_front xs {ys = ys} hx hy = record { none = clear_append xs ys hx hy.none }

mark_in_front : (c : ℕ) {ys : List ℕ} → IsTrue (is_no_end c) → IsClear ys → IsClear (c ∷ ys)
mark_in_front c {ys = ys} h hy = record { none = both (is_no_end c) _ h hy.none }

alone : (xs : List ℕ) → IsTrue (list_all is_no_end xs) → IsClear xs
alone xs h = record { none = h }

path_clear : (ref : ExtRef) → ReferenceFits ref → IsClear (instance_path ref.hash ref.id)
path_clear ref fits =
    let hash : IsBytes ref.hash.0 = octets_are_bytes ref.hash.0 fits.hash in
    let id : IsBytes ref.id.0 = octets_are_bytes ref.id.0 fits.id in
    in_front (encode_lower (take 1 ref.hash.0)) (octets_clear _ (first_byte ref.hash.0 hash))
    (mark_in_front 47 refl
    (in_front (encode_lower (take 1 (drop 1 ref.hash.0))) (octets_clear _ (first_byte (drop 1 ref.hash.0) (bytes_behind ref.hash.0 hash)))
    (mark_in_front 47 refl
    (in_front (encode_lower ref.hash.0) (octets_clear _ hash) (mark_in_front 45 refl (alone (encode_lower ref.id.0) (octets_clear ref.id.0 id)))))))

reference_clear : (ref : ExtRef) → ReferenceFits ref → IsTrue (list_all is_no_end (reference_text ref))
reference_clear ref fits =
    let whole : IsClear (reference_text ref) =
    in_front (decimal ref.start) (clear is_digit (decimal ref.start) digit_clear (decimal_digits ref.start (omega (arith, fits.start))))
    (mark_in_front 32 refl
    (in_front (decimal ref.count) (clear is_digit (decimal ref.count) digit_clear (decimal_digits ref.count (omega (arith, fits.count))))
    (mark_in_front 32 refl
    (in_front (options_text ref.form) (options_clear ref.form fits.form) (mark_in_front 32 refl (path_clear ref fits))))))
    in
    whole.none

behind_clear : (refs : List ExtRef) → AllByRecursion ReferenceFits refs → IsTrue (list_all is_no_end (flat_map (λ r. codes " " ++ reference_text r) refs))
behind_clear [] fit = refl
behind_clear (r ∷ rs) fit = clear_append (codes " " ++ reference_text r) (flat_map (λ r. codes " " ++ reference_text r) rs) (reference_clear r fit.0) (behind_clear rs fit.1)

pub references_clear : (refs : List ExtRef) → AllByRecursion ReferenceFits refs → IsTrue (list_all is_no_end (references_text refs))
references_clear [] fit = refl
references_clear (r ∷ rs) fit = clear_append (reference_text r) (flat_map (λ r. codes " " ++ reference_text r) rs) (reference_clear r fit.0) (behind_clear rs fit.1)
