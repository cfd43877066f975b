-- What a crash may leave of a file, by what was done to it.
use Rattle.std.proofs.Common.{◌≡◌, ℕ, ◌+◌, ◌<◌, ◌≤◌, zero, suc, false, nat_le, nat_lt, List, [], ◌∷◌, ◌++◌, length, take, drop, slice_get, Some, refl, arith}
use Rattle.std.proofs.Math.Seq.{take-length}
use Rattle.std.proofs.lemmas.List.{drop_all, append-nil}
use Rattle.std.proofs.lemmas.Bool.{le-ltb, lt-leb, and_left, and_right}
use Rattle.disk_model.specs.Disk.{FileState, MayHold, covers, overlaid}

-- a place before or behind a range isn't covered by it
pub covers-before : (at n i : ℕ) → i < at → covers at n i ≡ false
covers-before at n i before = and_left (nat_le at i) (nat_lt i (at + n)) (lt-leb at i before)

pub covers-behind : (at n i : ℕ) → at + n ≤ i → covers at n i ≡ false
covers-behind at n i behind = and_right (nat_le at i) (nat_lt i (at + n)) (le-ltb i (at + n) behind)

-- lists that agree at each place below n
pub same_front : (n : ℕ) (a b : List ℕ) → n ≤ length a → n ≤ length b → ((i : ℕ) → i < n → slice_get a i ≡ slice_get b i) → take n a ≡ take n b
same_front zero a b la lb same = refl
same_front (suc n) [] b la lb same = absurd (omega (arith, la))
same_front (suc n) (x ∷ xs) [] la lb same = absurd (omega (arith, lb))
same_front (suc n) (x ∷ xs) (y ∷ ys) la lb same =
    let head : Some x ≡ Some y = same 0 (omega arith) in
    let tail : take n xs ≡ take n ys = same_front n xs ys (omega (arith, la)) (omega (arith, lb)) (λ i below. same (suc i) (omega arith)) in
    cc

-- octets below each length that no write touched are left as they stand
pub front_stays : (f : FileState) (octets : List ℕ) (n : ℕ) → MayHold f octets → n ≤ f.least → n ≤ length f.octets
    → ((i : ℕ) → i < n → f.is_loose i ≡ false) → take n octets ≡ take n f.octets
front_stays f octets n holds least long firm =
    let l : f.least ≤ length octets = holds.least in
    same_front n octets f.octets (omega arith) long (λ i below. holds.same i (omega arith) (firm i below))

-- octets written at the end
pub overlaid-end : (text from : List ℕ) → overlaid text (length text) from ≡ text ++ from
overlaid-end text from =
    let behind : drop (length text + length from) text ≡ [] = drop_all (length text + length from) text (omega arith) in
    rw (take-length text, behind) (append-nil (text ++ from))
