-- Numbers at the front of a text.
use Rattle.std.proofs.Common.{◌≡◌, ℕ, ◌+◌, ◌<◌, List, [], ◌∷◌, ◌++◌, length, get_or, take, drop, refl, sym, ap, ◌∙◌, append-nil, arith, inl, inr}
use Rattle.std.specs.Int.{w16, w32, w64, to_be_bytes, from_be_bytes}
use Rattle.std.proofs.lemmas.Bool.{cases_lt}
use Rattle.std.proofs.lemmas.List.{take-append-drop, length-take, get_or-take, get_or_past}
use Rattle.std.proofs.lemmas.Nat.{be_bytes_2, be_bytes_4, be_bytes_8}

abbrev pub AreOctets : List ℕ → Type 0
AreOctets text = (i : ℕ) → get_or text i 0 < 256

taken_octets : (n : ℕ) (text : List ℕ) → AreOctets text → AreOctets (take n text)
taken_octets n text h i =
    elim (cases_lt i n) [
      | inl lt ↦ rw (get_or-take n text i 0 lt) (h i)
      | inr le ↦ rw (get_or_past (take n text) i 0 (omega (arith, length-take n text))) (omega arith)
    ]

-- A text begins with these octets, and with that many.
abbrev pub Begins : List ℕ → List ℕ → ℕ → List ℕ → Type 0
Begins text front size rest = (text ≡ front ++ rest) × (length text ≡ size + length rest)

begins : (n : ℕ) (text front spelled rest : List ℕ) → front ≡ take n text → rest ≡ drop n text → length rest + n ≡ length text → spelled ≡ take n text → Begins text spelled n rest
begins n text front spelled rest f r l s = (
  sym (take-append-drop n text) ∙ ap (λ (t : List ℕ). t ++ drop n text) (sym s) ∙ ap (λ (t : List ℕ). spelled ++ t) (sym r),
  omega (arith, l),
)

pub short_front : (text front rest : List ℕ) (n : ℕ) → AreOctets text → front ≡ take 2 text → rest ≡ drop 2 text → length rest + 2 ≡ length text → n ≡ from_be_bytes w16 front → Begins text (to_be_bytes w16 n) 2 rest
short_front text front rest n o f r l e =
    begins 2 text front (to_be_bytes w16 n) rest f r l (be_bytes_2 (take 2 text) n (omega (arith, l, length-take 2 text)) (taken_octets 2 text o) (e ∙ ap (from_be_bytes w16) f))

pub number_front : (text front rest : List ℕ) (n : ℕ) → AreOctets text → front ≡ take 4 text → rest ≡ drop 4 text → length rest + 4 ≡ length text → n ≡ from_be_bytes w32 front → Begins text (to_be_bytes w32 n) 4 rest
number_front text front rest n o f r l e =
    begins 4 text front (to_be_bytes w32 n) rest f r l (be_bytes_4 (take 4 text) n (omega (arith, l, length-take 4 text)) (taken_octets 4 text o) (e ∙ ap (from_be_bytes w32) f))

pub long_front : (text front rest : List ℕ) (n : ℕ) → AreOctets text → front ≡ take 8 text → rest ≡ drop 8 text → length rest + 8 ≡ length text → n ≡ from_be_bytes w64 front → Begins text (to_be_bytes w64 n) 8 rest
long_front text front rest n o f r l e =
    begins 8 text front (to_be_bytes w64 n) rest f r l (be_bytes_8 (take 8 text) n (omega (arith, l, length-take 8 text)) (taken_octets 8 text o) (e ∙ ap (from_be_bytes w64) f))

-- octets behind which nothing stands
pub whole : (n : ℕ) (text front rest : List ℕ) → front ≡ take n text → rest ≡ drop n text → length rest + n ≡ length text → length rest ≡ 0 → (text ≡ front) × (length front ≡ n)
whole n text front rest f r l none =
    let e : text ≡ front ++ rest = (begins n text front front rest f r l f).0 in
    let w : text ≡ front = e ∙ ap (λ (t : List ℕ). front ++ t) (empty rest none) ∙ append-nil front in
    (w, omega (arith, l, none, ap length w))
  where
    empty : (xs : List ℕ) → length xs ≡ 0 → xs ≡ []
    empty [] h = refl
    empty (x ∷ xs) h = absurd (omega (arith, h))
