-- Decimal texts against what `parse` reads.
use Rattle.std.proofs.Common.{◌≡◌, ◌≢◌, ◌≤◌, ◌<◌, ◌^◌, ℕ, suc, zero, List, [], ◌∷◌, length, get_or, sym, ap, subst, ◌∙◌, arith, Result, Ok, Err, IsUtf8, decimal, IfSome, IfNone}
use Rattle.std.specs.Str.Parse.{ParsesUnsigned, AllDigits, digits_value, without_leading_plus}
use Rattle.std.proofs.lemmas.Fmt.{decimal_is_IsNumeral, first_decimal, decimal_digit, decimal-digits_value, IsAscii-decimal, decimal_nonempty, parse-decimal}
use Rattle.std.proofs.lemmas.Str.{IsUtf8-from_ascii}
use Rattle.std.proofs.lemmas.Str.Parse.{numerals_by_value, tells_digits, without_leading_plus_none, digit_at}
use Rattle.std.specs.Result.{OkIff, result_ok}

-- a decimal text begins with no plus sign
pub no_sign : (text : List ℕ) (n : ℕ) → n < 2 ^ 64 → text ≡ decimal n → get_or text 0 0 ≢ 43
no_sign text n h e p =
    let d = digit_at (decimal n) 0 (decimal_is_IsNumeral n h).0.1 (decimal_nonempty n h) in
    let q : get_or (decimal n) 0 0 ≡ 43 = subst (λ (l : List ℕ). get_or l 0 0 ≡ 43) e p in
    omega arith

-- a decimal text begins with a zero only if it is `0`
pub no_leading_zero : (text : List ℕ) (n : ℕ) → n < 2 ^ 64 → text ≡ decimal n → get_or text 0 0 ≡ 48 → 2 ≤ length text → ⊥
no_leading_zero text zero h e p q =
    let one : text ≡ 48 ∷ [] = e ∙ decimal_digit 0 (omega arith) in
    let long : length text ≡ 1 = ap length one in
    omega arith
no_leading_zero text (suc n) h e p q =
    let first = first_decimal (suc n) (omega arith) h in
    let z : get_or (decimal (suc n)) 0 0 ≡ 48 = subst (λ (l : List ℕ). get_or l 0 0 ≡ 48) e p in
    omega arith

-- a decimal text is text
pub is_text : (text : List ℕ) (n : ℕ) → n < 2 ^ 64 → text ≡ decimal n → IsUtf8 text
is_text text n h e = subst IsUtf8 (sym e) (IsUtf8-from_ascii (decimal n) (IsAscii-decimal n h))

one_long : (text : List ℕ) → (get_or text 0 0 ≡ 48 → 2 ≤ length text → ⊥) → get_or text 0 0 ≡ 48 → 0 < length text → length text ≡ 1
one_long text alone e h = let z = alone e in omega arith

-- what `parse` reads without a sign or a leading zero is the decimal text of its number
pub read_is_decimal : {E : Type 0} (text : List ℕ) → get_or text 0 0 ≢ 43 → (get_or text 0 0 ≡ 48 → 2 ≤ length text → ⊥) → (r : Result ℕ E) → ParsesUnsigned 64 10 text r → IfSome (result_ok r) (λ n. text ≡ decimal n)
read_is_decimal text sign alone (Err e) h = tt
read_is_decimal {E} text sign alone (Ok n) h =
    let same : without_leading_plus text ≡ text = without_leading_plus_none text sign in
    let P : List ℕ → Type 0 = λ l. OkIff {T = ℕ} {E = E} (Ok n) (((0 < length l) × AllDigits 10 l) × (digits_value 10 l < 2 ^ 64)) (digits_value 10 l) in
    let k : P text = subst P same h in
    let back = decimal-digits_value (numerals_by_value (AllDigits 10) tells_digits) text k.0.0.1 k.0.0.0 (λ e. one_long text alone e k.0.0.0) k.0.1 in
    sym back ∙ ap decimal (sym k.1)

-- where `parse` reads nothing, the text is no decimal text
pub unread_is_none : {E : Type 0} (text : List ℕ) (r : Result ℕ E) → ParsesUnsigned 64 10 text r → IfNone (result_ok r) ((n : ℕ) → n < 2 ^ 64 → text ≡ decimal n → ⊥)
unread_is_none text (Ok n) h = tt
unread_is_none text (Err e) h = λ n small is. let same = parse-decimal 64 n text (Err e) small small is h in cc
