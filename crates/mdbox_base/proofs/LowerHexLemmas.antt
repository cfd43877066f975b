-- Lower-case digits and the octets that they name.
use Rattle.std.specs.Prelude.{◌≡◌, ◌<◌, ◌+◌, ◌*◌, ◌/◌, ◌%◌, ◌==◌, ◌&&◌, ◌||◌, ℕ, zero, suc, Bool, true, false, List, [], ◌∷◌, length, slice_index, nat_lt, if◌then◌else◌, Option, Some, None, Result, Ok, Err, refl}
use Rattle.std.specs.List.{list_any}
use Rattle.std.specs.Char.{is_ascii_uppercase}
use Rattle.std.specs.Result.{result_unwrap_or, result_ok}
use Rattle.std.proofs.Common.{sym, ◌∙◌, ap, arith, inl, inr}
use Rattle.std.proofs.lemmas.Grind.{common_steps}
use Rattle.std.proofs.lemmas.Bool.{and_parts, cases_lt, eqb-true}
use Rattle.std.proofs.lemmas.List.{get_or_default, get_or_past}
use Rattle.hex.specs.Hex.{encode_with, encode_lower, lower_digits, IsBytes, decode_pairs, decode_sized, hex_digit_value, pair_value, digit_or_error, ◌>>=◌}
use Rattle.hex.proofs.HexLemmas.{decode_sized-ok, decode_sized-twice, decode_of-ok, decode_of-even}
use Rattle.hex.specs.declared.error.FromHexError.{FromHexError}
use Rattle.mdbox_base.specs.Words.{IsOctets}

-- what a test shows of each number below n
abbrev each_below : (ℕ → Bool) → ℕ → Bool
each_below p zero = true
each_below p (suc n) = p n && each_below p n

each_below-at : (p : ℕ → Bool) (n k : ℕ) → each_below p n ≡ true → k < n → p k ≡ true
each_below-at p zero k h lt = absurd (omega arith)
each_below-at p (suc n) k h lt =
    let parts = and_parts (p n) (each_below p n) h in
    elim (cases_lt k n) [
      | inl below ↦ each_below-at p n k parts.1 below
      | inr top ↦ let e : k ≡ n = omega arith in rw e parts.0
    ]

-- the digit of a number below 16
pub lower_digit : (d : ℕ) → d < 16 → slice_index lower_digits d ≡ (if nat_lt d 10 then 48 + d else 87 + d)
lower_digit d lt = eqb-true _ _ (each_below-at (λ k. slice_index lower_digits k == (if nat_lt k 10 then 48 + k else 87 + k)) 16 d refl lt)

no_capital : (d : ℕ) → d < 16 → is_ascii_uppercase (slice_index lower_digits d) ≡ false
no_capital d lt = rw (lower_digit d lt) (grind (arith, common_steps))

-- the octets' digits have no capital
pub no_capitals : (octets : List ℕ) → IsOctets octets → list_any is_ascii_uppercase (encode_lower octets) ≡ false
unfolding encode_with
no_capitals [] h = refl
no_capitals (b ∷ rest) h =
    let fits : b < 256 = h 0 0 (omega arith) in
    rw (no_capital (b / 16) (omega arith), no_capital (b % 16) (omega arith)) (no_capitals rest (λ k d lt. h (suc k) d (omega arith)))

value_below : (c v : ℕ) → hex_digit_value c ≡ Some v → v < 16
value_below c v e = grind (arith, common_steps)

-- a digit that isn't a capital is that of its value
digit_back : (c v : ℕ) → is_ascii_uppercase c ≡ false → hex_digit_value c ≡ Some v → slice_index lower_digits v ≡ c
digit_back c v low e =
    let small = value_below c v e in
    rw (lower_digit v small) (grind (arith, common_steps))

-- two digits that read
pair_parts : (a b i : ℕ) (o p : Option ℕ) (byte : ℕ) → (digit_or_error a i o >>= (λ high. digit_or_error b (i + 1) p >>= (λ low. Ok (high * 16 + low)))) ≡ Ok byte →
    (high : ℕ) × (low : ℕ) × (o ≡ Some high) × (p ≡ Some low) × (high * 16 + low ≡ byte)
pair_parts a b i None p byte e = cc e
pair_parts a b i (Some x) None byte e = cc e
pair_parts a b i (Some x) (Some y) byte e = (x, y, refl, refl, ap (λ (r : Result ℕ FromHexError). result_unwrap_or r 0) e)

-- a pair of digits and the rest that read
rest_parts : (p : Result ℕ FromHexError) (q : Result (List ℕ) FromHexError) (octets : List ℕ) → (p >>= (λ byte. q >>= (λ bytes. Ok (byte ∷ bytes)))) ≡ Ok octets →
    (byte : ℕ) × (bytes : List ℕ) × (p ≡ Ok byte) × (q ≡ Ok bytes) × (byte ∷ bytes ≡ octets)
rest_parts (Err d) q octets e = cc e
rest_parts (Ok x) (Err d) octets e = cc e
rest_parts (Ok x) (Ok xs) octets e = (x, xs, refl, refl, ap (λ (r : Result (List ℕ) FromHexError). result_unwrap_or r []) e)

neither : (a b : Bool) → (a || b) ≡ false → (a ≡ false) × (b ≡ false)
neither true b e = cc e
neither false b e = (refl, e)

-- what reads as octets, without a capital, is their digits
pairs_back : (i : ℕ) (text octets : List ℕ) → list_any is_ascii_uppercase text ≡ false → decode_pairs i text ≡ Ok octets → text ≡ encode_lower octets
unfolding decode_pairs encode_with
pairs_back i [] octets h e =
    let same : [] ≡ octets = ap (λ (r : Result (List ℕ) FromHexError). result_unwrap_or r []) e in
    rw (← same) refl
pairs_back i (a ∷ []) octets h e = cc e
pairs_back i (a ∷ b ∷ rest) octets h e =
    let r = rest_parts (pair_value a b i) (decode_pairs (i + 2) rest) octets e in
    let d = pair_parts a b i (hex_digit_value a) (hex_digit_value b) r.0 r.2 in
    let one = neither (is_ascii_uppercase a) (is_ascii_uppercase b || list_any is_ascii_uppercase rest) h in
    let two = neither (is_ascii_uppercase b) (list_any is_ascii_uppercase rest) one.1 in
    let x = value_below a d.0 d.2 in
    let y = value_below b d.1 d.3 in
    let byte = d.4 in
    let high : r.0 / 16 ≡ d.0 = omega arith in
    let low : r.0 % 16 ≡ d.1 = omega arith in
    let first : slice_index lower_digits (r.0 / 16) ≡ a = ap (slice_index lower_digits) high ∙ digit_back a d.0 one.0 d.2 in
    let second : slice_index lower_digits (r.0 % 16) ≡ b = ap (slice_index lower_digits) low ∙ digit_back b d.1 two.0 d.3 in
    let behind : rest ≡ encode_lower r.1 = pairs_back (i + 2) rest r.1 two.1 r.3 in
    let pairs : a ∷ b ∷ rest ≡ slice_index lower_digits (r.0 / 16) ∷ slice_index lower_digits (r.0 % 16) ∷ encode_lower r.1 = cc in
    pairs ∙ ap encode_lower r.4

-- what reads as so many octets, without a capital
pub digits_back : (text octets : List ℕ) (n : ℕ) → list_any is_ascii_uppercase text ≡ false → decode_sized text n ≡ Ok octets →
    (length octets ≡ n) × IsOctets octets × (text ≡ encode_lower octets)
digits_back text octets n h e =
    let twice : length text ≡ 2 * n = decode_sized-ok text n octets e in
    let whole = sym (decode_sized-twice text n twice) ∙ e in
    let read = decode_of-ok text octets whole in
    let bytes = read.3 in
    (omega (arith, read.2), λ k d lt. rw (get_or_default octets k d 0 lt) (bytes k), pairs_back 0 text octets h (sym (decode_of-even text read.0) ∙ whole))

pub ok_from_some : {T E : Type 0} → (r : Result T E) (x : T) → result_ok r ≡ Some x → r ≡ Ok x
ok_from_some (Ok y) x e = let h : y ≡ x = cc e in ap Ok h
ok_from_some (Err d) x e = cc e

pub octets_are_bytes : (xs : List ℕ) → IsOctets xs → IsBytes xs
octets_are_bytes xs h i =
    elim (cases_lt i (length xs)) [ inl lt ↦ h i 0 lt | inr le ↦ rw (get_or_past xs i 0 le) (omega arith) ]
