-- A number's written text reads back.
use Rattle.std.specs.Prelude.{◌≡◌, ◌<◌, ◌≤◌, ◌^◌, ◌+◌, ◌*◌, ◌/◌, ◌%◌, ◌==◌, ◌||◌, ℕ, zero, suc, Bool, true, false, List, [], ◌∷◌, length, IsTrue, Option, Some, None, option_and_then, refl, if◌then◌else◌}
use Rattle.std.specs.List.{list_all}
use Rattle.std.specs.Fmt.{digits, digits_onto, digit_glyph}
use Rattle.std.proofs.Common.{sym, ◌∙◌, ap, arith, subst}
use Rattle.std.proofs.lemmas.Grind.{common_steps}
use Rattle.std.proofs.Math.Nat.{mul-le-mul_right, pow-le-pow_right, pow-succ'}
use Rattle.mdbox_base.specs.Numbers.{is_between, hex_digit_value, hex_from, hex_text, IsHex}

-- a lower-case hexadecimal digit
abbrev pub is_lower_hex : ℕ → Bool
is_lower_hex c = is_between 48 57 c || is_between 97 102 c

glyph_value : (d : ℕ) → d < 16 → hex_digit_value (digit_glyph false d) ≡ Some d
glyph_value d lt = grind (arith, common_steps, lt)

glyph_lower : (d : ℕ) → d < 16 → is_lower_hex (digit_glyph false d) ≡ true
glyph_lower d lt = grind (arith, common_steps, lt)

-- one digit more in front of the rest
glyph_step : (high d n : ℕ) (acc : List ℕ) → d < 16 → 16 * high + d ≡ n → hex_from high (digit_glyph false d ∷ acc) ≡ hex_from n acc
glyph_step high d n acc lt e =
    ap (λ (o : Option ℕ). option_and_then (λ d. hex_from (16 * high + d) acc) o) (glyph_value d lt) ∙ ap (λ (m : ℕ). hex_from m acc) e

onto_step : (k n : ℕ) (acc : List ℕ) (b : Bool) → (n / 16 == 0) ≡ b → n < 16 * 16 ^ k →
    (n / 16 < 16 ^ k → hex_from 0 (digits_onto k 16 false (n / 16) (digit_glyph false (n % 16) ∷ acc)) ≡ hex_from (n / 16) (digit_glyph false (n % 16) ∷ acc)) →
    hex_from 0 (if b then digit_glyph false (n % 16) ∷ acc else digits_onto k 16 false (n / 16) (digit_glyph false (n % 16) ∷ acc)) ≡ hex_from n acc
onto_step k n acc true h lt rest = let z : n / 16 ≡ 0 = grind (arith, common_steps, h) in glyph_step 0 (n % 16) n acc (omega arith) (omega (arith, z))
onto_step k n acc false h lt rest = rest (omega (arith, lt)) ∙ glyph_step (n / 16) (n % 16) n acc (omega arith) (omega arith)

onto_value : (k n : ℕ) (acc : List ℕ) → n < 16 ^ k → hex_from 0 (digits_onto k 16 false n acc) ≡ hex_from n acc
onto_value zero n acc lt = let z : n ≡ 0 = omega (arith, lt) in rw z refl
onto_value (suc k) n acc lt = onto_step k n acc (n / 16 == 0) refl (omega (arith, lt)) (λ h. onto_value k (n / 16) (digit_glyph false (n % 16) ∷ acc) h)

-- the digits are digits
lower_step : (k n : ℕ) (acc : List ℕ) (b : Bool) → IsTrue (list_all is_lower_hex acc) →
    (IsTrue (list_all is_lower_hex (digit_glyph false (n % 16) ∷ acc)) → IsTrue (list_all is_lower_hex (digits_onto k 16 false (n / 16) (digit_glyph false (n % 16) ∷ acc)))) →
    IsTrue (list_all is_lower_hex (if b then digit_glyph false (n % 16) ∷ acc else digits_onto k 16 false (n / 16) (digit_glyph false (n % 16) ∷ acc)))
lower_step k n acc true h rest = rw (glyph_lower (n % 16) (omega arith)) h
lower_step k n acc false h rest = rest (rw (glyph_lower (n % 16) (omega arith)) h)

onto_lower : (k n : ℕ) (acc : List ℕ) → IsTrue (list_all is_lower_hex acc) → IsTrue (list_all is_lower_hex (digits_onto k 16 false n acc))
onto_lower zero n acc h = h
onto_lower (suc k) n acc h = lower_step k n acc (n / 16 == 0) h (λ q. onto_lower k (n / 16) (digit_glyph false (n % 16) ∷ acc) q)

-- and as many as the number needs
short_step : (k j n : ℕ) (acc : List ℕ) (b : Bool) → (n / 16 == 0) ≡ b → n < 16 ^ suc j →
    ((i : ℕ) → n / 16 < 16 ^ suc i → length (digits_onto k 16 false (n / 16) (digit_glyph false (n % 16) ∷ acc)) ≤ length acc + 1 + suc i) →
    length (if b then digit_glyph false (n % 16) ∷ acc else digits_onto k 16 false (n / 16) (digit_glyph false (n % 16) ∷ acc)) ≤ length acc + suc j
short_step k j n acc true h lt rest = omega arith
short_step k zero n acc false h lt rest = absurd (let p : 16 ^ 1 ≡ 16 = refl in let z : n / 16 ≡ 0 = omega (arith, lt, p) in grind (arith, common_steps, h, z))
short_step k (suc j) n acc false h lt rest = let r = rest j (omega (arith, lt)) in omega (arith, r)

onto_short : (k j n : ℕ) (acc : List ℕ) → n < 16 ^ suc j → length (digits_onto k 16 false n acc) ≤ length acc + suc j
onto_short zero j n acc lt = omega arith
onto_short (suc k) j n acc lt =
    short_step k j n acc (n / 16 == 0) refl lt (λ i h. let r = onto_short k i (n / 16) (digit_glyph false (n % 16) ∷ acc) h in omega (arith, r))

onto_some : (k n : ℕ) (acc : List ℕ) → length acc ≤ length (digits_onto k 16 false n acc)
onto_some zero n acc = omega arith
onto_some (suc k) n acc = by_test (n / 16 == 0) (onto_some k (n / 16) (digit_glyph false (n % 16) ∷ acc))
  where
    by_test : (b : Bool) → length (digit_glyph false (n % 16) ∷ acc) ≤ length (digits_onto k 16 false (n / 16) (digit_glyph false (n % 16) ∷ acc)) →
        length acc ≤ length (if b then digit_glyph false (n % 16) ∷ acc else digits_onto k 16 false (n / 16) (digit_glyph false (n % 16) ∷ acc))
    by_test true h = omega arith
    by_test false h = omega (arith, h)

some_digits : (k n : ℕ) (acc : List ℕ) → length acc + 1 ≤ length (digits_onto (suc k) 16 false n acc)
some_digits k n acc = by_test (n / 16 == 0) (onto_some k (n / 16) (digit_glyph false (n % 16) ∷ acc))
  where
    by_test : (b : Bool) → length (digit_glyph false (n % 16) ∷ acc) ≤ length (digits_onto k 16 false (n / 16) (digit_glyph false (n % 16) ∷ acc)) →
        length acc + 1 ≤ length (if b then digit_glyph false (n % 16) ∷ acc else digits_onto k 16 false (n / 16) (digit_glyph false (n % 16) ∷ acc))
    by_test true h = omega arith
    by_test false h = omega (arith, h)

-- The written digits of a number below 2 ^ 64 are 1 to 16 digits of it, in lower case.
pub hex_text_is_hex : (n : ℕ) → n < 2 ^ 64 → IsHex 16 (hex_text n) n
unfolding digits
hex_text_is_hex n lt = record {
  some = some_digits 63 n [];
  short = onto_short 64 15 n [] (omega (arith, lt));
  value = onto_value 64 n [] (omega (arith, lt));
}

pub hex_text_is_lower : (n : ℕ) → IsTrue (list_all is_lower_hex (hex_text n))
unfolding digits
hex_text_is_lower n = onto_lower 64 n [] refl

-- a digit is below 16
value_below : (c d : ℕ) → hex_digit_value c ≡ Some d → d < 16
value_below c d e = grind (arith, common_steps, e)

below_step : (high n l d : ℕ) → d < 16 → n < (16 * high + d + 1) * l → n < (high + 1) * (16 * l)
below_step high n l d small below =
    let more : (16 * high + d + 1) * l ≤ (16 * high + 16) * l = mul-le-mul_right l (omega (arith, small)) in
    omega (arith, below, more)

by_digit : (high n : ℕ) (ds : List ℕ) (o : Option ℕ) → ((d : ℕ) → o ≡ Some d → d < 16) → ((d : ℕ) → hex_from (16 * high + d) ds ≡ Some n → n < (16 * high + d + 1) * 16 ^ length ds) →
    option_and_then (λ d. hex_from (16 * high + d) ds) o ≡ Some n → n < (high + 1) * (16 * 16 ^ length ds)
by_digit high n ds None small rest k = absurd (let z : None ≡ Some n = k in cc z)
by_digit high n ds (Some d) small rest k = below_step high n (16 ^ length ds) d (small d refl) (rest d k)

number_below : (high n : ℕ) (ds : List ℕ) → hex_from high ds ≡ Some n → n < (high + 1) * 16 ^ length ds
number_below high n [] e = let h : high ≡ n = cc e in let one : 16 ^ 0 ≡ 1 = refl in omega (arith, h)
number_below high n (c ∷ ds) e =
    let r = by_digit high n ds (hex_digit_value c) (λ d h. value_below c d h) (λ d h. number_below (16 * high + d) n ds h) e in
    subst (λ (l : ℕ). n < (high + 1) * l) (sym (pow-succ' 16 (length ds))) r

-- Up to 16 digits spell a number below 2 ^ 64.
pub hex_below : (digits : List ℕ) (n : ℕ) → IsHex 16 digits n → n < 2 ^ 64
hex_below digits n h =
    let below : n < (0 + 1) * 16 ^ length digits = number_below 0 n digits h.value in
    let most : 16 ^ length digits ≤ 16 ^ 16 = pow-le-pow_right (omega arith) h.short in
    omega (arith, below, most)
