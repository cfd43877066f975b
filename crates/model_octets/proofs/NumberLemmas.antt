-- Numbers in octets have one spelling.
use Rattle.std.specs.Prelude.{◌≡◌, ◌<◌, ◌^◌, ℕ, List, ◌∷◌, ◌++◌, refl, nat_eq, false, []}
use Rattle.std.specs.Int.{w16, w32, w64, to_be_bytes, from_be_bytes}
use Rattle.std.proofs.Common.{sym, ◌∙◌, ap, arith}
use Rattle.std.proofs.lemmas.Grind.{common_steps}
use Rattle.std.proofs.lemmas.Nat.{from_be_bytes-to_be_bytes_2, from_be_bytes-to_be_bytes_4, from_be_bytes-to_be_bytes_8}
use Rattle.model_octets.proofs.PiecesLemmas.{split_same}

-- a number below 2 ^ 16, 2 ^ 32 or 2 ^ 64 has one spelling
pub two_same : (m n : ℕ) → m < 2 ^ 16 → n < 2 ^ 16 → to_be_bytes w16 m ≡ to_be_bytes w16 n → m ≡ n
two_same m n hm hn e = sym (from_be_bytes-to_be_bytes_2 m hm) ∙ ap (from_be_bytes w16) e ∙ from_be_bytes-to_be_bytes_2 n hn

pub four_same : (m n : ℕ) → m < 2 ^ 32 → n < 2 ^ 32 → to_be_bytes w32 m ≡ to_be_bytes w32 n → m ≡ n
four_same m n hm hn e = sym (from_be_bytes-to_be_bytes_4 m hm) ∙ ap (from_be_bytes w32) e ∙ from_be_bytes-to_be_bytes_4 n hn

pub eight_same : (m n : ℕ) → m < 2 ^ 64 → n < 2 ^ 64 → to_be_bytes w64 m ≡ to_be_bytes w64 n → m ≡ n
eight_same m n hm hn e = sym (from_be_bytes-to_be_bytes_8 m hm) ∙ ap (from_be_bytes w64) e ∙ from_be_bytes-to_be_bytes_8 n hn

-- a number in front, whatever follows it
pub next_two : (m n : ℕ) (x y : List ℕ) → m < 2 ^ 16 → n < 2 ^ 16 → to_be_bytes w16 m ++ x ≡ to_be_bytes w16 n ++ y → (m ≡ n) × (x ≡ y)
next_two m n x y hm hn e = let r = split_same (to_be_bytes w16 m) (to_be_bytes w16 n) x y refl e in (two_same m n hm hn r.0, r.1)

pub next_four : (m n : ℕ) (x y : List ℕ) → m < 2 ^ 32 → n < 2 ^ 32 → to_be_bytes w32 m ++ x ≡ to_be_bytes w32 n ++ y → (m ≡ n) × (x ≡ y)
next_four m n x y hm hn e = let r = split_same (to_be_bytes w32 m) (to_be_bytes w32 n) x y refl e in (four_same m n hm hn r.0, r.1)

pub next_eight : (m n : ℕ) (x y : List ℕ) → m < 2 ^ 64 → n < 2 ^ 64 → to_be_bytes w64 m ++ x ≡ to_be_bytes w64 n ++ y → (m ≡ n) × (x ≡ y)
next_eight m n x y hm hn e = let r = split_same (to_be_bytes w64 m) (to_be_bytes w64 n) x y refl e in (eight_same m n hm hn r.0, r.1)

-- the first of a list, and the rest
abbrev pub front : List ℕ → ℕ
front [] = 0
front (x ∷ xs) = x

abbrev pub behind : List ℕ → List ℕ
behind [] = []
behind (x ∷ xs) = xs

pub next_one : (m n : ℕ) (x y : List ℕ) → m ∷ x ≡ n ∷ y → (m ≡ n) × (x ≡ y)
next_one m n x y e = (ap front e, ap behind e)

-- texts with different octets in front are not one
pub differ : (m n : ℕ) (x y : List ℕ) → m ∷ x ≡ n ∷ y → nat_eq m n ≡ false → ⊥
differ m n x y e apart = let h : m ≡ n = ap front e in grind (arith, common_steps)
