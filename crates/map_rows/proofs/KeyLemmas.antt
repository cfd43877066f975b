-- Numbers of GUIDs and of places: these are equal if and only if their numbers are.
use Rattle.map_rows.proofs.Common.{◌≡◌, ◌+◌, ◌<◌, ◌≤◌, ◌==◌, ℕ, zero, suc, true, List, [], ◌∷◌, length, get_or, drop, refl, sym, ap, ◌∙◌, arith, bytes_eq, nat_tests, All-head, All-tail, IsOctets, text_is, text_yes, place_number}
use Rattle.std.proofs.Common.{◌*◌, drop-cons}
use Rattle.std.specs.Int.{w128, from_be_bytes}
use Rattle.std.proofs.lemmas.Nat.{same_from_place}
use Rattle.model_octets.proofs.SearchLemmas.{both_same}
use Rattle.map_rows.specs.Keys.{guid_number}

-- octets behind a number, as one number
abbrev spelled : ℕ → List ℕ → ℕ
spelled n [] = n
spelled n (x ∷ xs) = spelled (n * 256 + x) xs

same_octets : (xs ys : List ℕ) (m n : ℕ) → length xs ≡ length ys → IsOctets xs → IsOctets ys → spelled m xs ≡ spelled n ys → (m ≡ n) × (xs ≡ ys)
same_octets [] [] m n l a b e = (e, refl)
same_octets [] (y ∷ ys) m n l a b e = absurd (omega (arith, l))
same_octets (x ∷ xs) [] m n l a b e = absurd (omega (arith, l))
same_octets (x ∷ xs) (y ∷ ys) m n l a b e =
    let rest = same_octets xs ys (m * 256 + x) (n * 256 + y) (omega (arith, l)) (All-tail (λ z. z < 256) x xs a) (All-tail (λ z. z < 256) y ys b) e in
    let p : x < 256 = All-head (λ z. z < 256) x xs a in
    let q : y < 256 = All-head (λ z. z < 256) y ys b in
    let same = same_from_place m x n y 256 p q rest.0 in
    let h : x ≡ y = same.1 in
    let t : xs ≡ ys = rest.1 in
    (same.0, cc (h, t))

-- the number of the octets before a place
abbrev read_to : ℕ → List ℕ → ℕ
read_to zero bs = 0
read_to (suc i) bs = read_to i bs * 256 + get_or bs i 0

from_first : (bs : List ℕ) → spelled 0 bs ≡ spelled 0 (drop 0 bs)
from_first [] = refl
from_first (b ∷ bs) = refl

past_all : (xs : List ℕ) (k n : ℕ) → length xs ≤ k → spelled n (drop k xs) ≡ n
past_all [] zero n le = refl
past_all [] (suc k) n le = refl
past_all (x ∷ xs) zero n le = absurd (omega (arith, le))
past_all (x ∷ xs) (suc k) n le = past_all xs k n (omega (arith, le))

read_front : (bs : List ℕ) (i : ℕ) → i ≤ length bs → spelled 0 bs ≡ spelled (read_to i bs) (drop i bs)
read_front bs zero le = from_first bs
read_front bs (suc i) le = read_front bs i (omega (arith, le)) ∙ ap (spelled (read_to i bs)) (drop-cons bs i 0 (omega (arith, le)))

big_endian : (bs : List ℕ) → from_be_bytes w128 bs ≡ read_to 16 bs
big_endian bs = omega arith

guid_spelled : (bs : List ℕ) → length bs ≡ 16 → guid_number bs ≡ spelled 0 bs
unfolding guid_number
guid_spelled bs l = big_endian bs ∙ sym (read_front bs 16 (omega (arith, l)) ∙ past_all bs 16 (read_to 16 bs) (omega (arith, l)))

equal : (a b : ℕ) → a ≡ b → (a == b) ≡ true
equal a b h = grind (arith, nat_tests, h)

equal_is : (a b : ℕ) → (a == b) ≡ true → a ≡ b
equal_is a b h = grind (arith, nat_tests, h)

-- GUIDs with one number are one
pub guid_only : (a b : List ℕ) → length a ≡ 16 → IsOctets a → length b ≡ 16 → IsOctets b → guid_number a ≡ guid_number b → a ≡ b
guid_only a b la oa lb ob e = (same_octets a b 0 0 (la ∙ sym lb) oa ob (sym (guid_spelled a la) ∙ e ∙ guid_spelled b lb)).1

-- a test of the number is a test of the GUID
pub guid_test : (a b : List ℕ) → length a ≡ 16 → IsOctets a → length b ≡ 16 → IsOctets b → (guid_number a == guid_number b) ≡ bytes_eq a b
guid_test a b la oa lb ob =
    both_same (guid_number a == guid_number b) (bytes_eq a b)
    (λ e. text_yes a b (guid_only a b la oa lb ob (equal_is (guid_number a) (guid_number b) e)))
    (λ e. equal (guid_number a) (guid_number b) (ap guid_number (text_is a b e)))

-- places with one number are one
pub place_only : (f o g p : ℕ) → o < 4294967296 → p < 4294967296 → place_number f o ≡ place_number g p → (f ≡ g) × (o ≡ p)
place_only f o g p lo lp e = same_from_place f o g p 4294967296 lo lp e
