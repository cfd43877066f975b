-- Digits as a loop reads and writes them: of a hexadecimal text, and of any base from 10.
use Rattle.std.proofs.Common.{◌≡◌, ◌≤◌, ◌<◌, ◌^◌, ◌+◌, ◌*◌, ◌/◌, ◌%◌, ◌-◌, ℕ, suc, zero, arith, pow-suc, false, cond, List, [], ◌∷◌, ap, ◌∙◌, refl, mul-le-mul_left, mod-eq_of_lt, ne_eqb, eq-eqb}
use Rattle.std.proofs.Math.Nat.{pow-le-pow_right, div-lt_iff_lt-mul, div-eq_of_lt, le-div_iff_mul-le}
use Rattle.std.specs.Fmt.{digits, digits_onto, digit_glyph}

-- the next step of a loop over at most 16 digits stays below 2 ^ 64
pub next_fits : (value index : ℕ) → value < 16 ^ index → index < 16 → 16 * value + 15 < 2 ^ 64
next_fits value index small within =
    let top : 16 ^ (suc index) ≤ 16 ^ 16 = pow-le-pow_right {n = 16} (omega arith) {i = suc index} {j = 16} (omega arith) in
    omega (arith, pow-suc 16 index)

onto-more : (k base n : ℕ) (acc : List ℕ) → 10 ≤ base → base ≤ n → digits_onto (suc k) base false n acc ≡ digits_onto k base false (n / base) (digit_glyph false (n % base) ∷ acc)
onto-more k base n acc low more =
    let pos : 0 < base = omega arith in
    let bound : 1 * base ≤ n = omega arith in
    let some : 1 ≤ n / base = (le-div_iff_mul-le {k = base} {x = 1} {y = n} pos).1 bound in
    ap (λ b. cond b (digit_glyph false (n % base) ∷ acc) (digits_onto k base false (n / base) (digit_glyph false (n % base) ∷ acc))) (ne_eqb (n / base) 0 (λ e. omega arith))

onto-last : (k base n : ℕ) (acc : List ℕ) → n < base → digits_onto (suc k) base false n acc ≡ digit_glyph false n ∷ acc
onto-last k base n acc less =
    ap (λ b. cond b (digit_glyph false (n % base) ∷ acc) (digits_onto k base false (n / base) (digit_glyph false (n % base) ∷ acc))) (eq-eqb (n / base) 0 (div-eq_of_lt less))
    ∙ ap (λ d. digit_glyph false d ∷ acc) (mod-eq_of_lt less)

-- the digits of a number up to a place of 20 places, before those behind it
pub digits_to : ℕ → ℕ → ℕ → List ℕ → List ℕ
digits_to place base n behind = digits_onto (place + 45) base false n behind

-- all places: the number's digits
pub digits_to-all : (base n : ℕ) → digits_to 19 base n [] ≡ digits base false n
unfolding digits_to digits
digits_to-all base n = refl

-- the digits up to a place are those of the rest up to the place before, and the last one
pub digits_to-more : (place base n : ℕ) (behind : List ℕ) → 10 ≤ base → base ≤ n → 1 ≤ place → digits_to place base n behind ≡ digits_to (place - 1) base (n / base) (digit_glyph false (n % base) ∷ behind)
unfolding digits_to
digits_to-more place base n behind low more some =
    let e : place + 45 ≡ suc (place - 1 + 45) = omega arith in
    ap (λ k. digits_onto k base false n behind) e ∙ onto-more (place - 1 + 45) base n behind low more

-- or that digit alone
pub digits_to-last : (place base n : ℕ) (behind : List ℕ) → n < base → digits_to place base n behind ≡ digit_glyph false n ∷ behind
unfolding digits_to
digits_to-last place base n behind less =
    let e : place + 45 ≡ suc (place + 44) = omega arith in
    ap (λ k. digits_onto k base false n behind) e ∙ onto-last (place + 44) base n behind less

-- a number without its last digit is shorter by one
pub rest_shorter : (base n k : ℕ) → 10 ≤ base → n < 10 ^ (k + 1) → n / base < 10 ^ k
rest_shorter base n k low small =
    let pos : 0 < base = omega arith in
    let e : k + 1 ≡ suc k = omega arith in
    let at : n < 10 ^ (suc k) = rw e at small in
    let grown : 10 ^ k * 10 ≤ 10 ^ k * base = mul-le-mul_left (10 ^ k) low in
    let bound : n < 10 ^ k * base = omega (arith, pow-suc 10 k) in
    (div-lt_iff_lt-mul {k = base} {x = n} {y = 10 ^ k} pos).1 bound

-- a number of more than one digit needs a second place
pub place_some : (n place : ℕ) → n < 10 ^ (place + 1) → 10 ≤ n → 1 ≤ place
place_some n zero small more = let one : n < 10 = small in absurd (omega arith)
place_some n (suc place) small more = omega arith
