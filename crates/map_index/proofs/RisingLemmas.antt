-- Pairs of a list, the front ones first.
use Rattle.map_index.proofs.Common.{◌≡◌, ◌<◌, ◌≤◌, ◌+◌, ◌-◌, ℕ, List, [], ◌∷◌, length, get_or, refl, sym, ap, subst, ◌∙◌, arith, map, All, AllPairs, All-head, All-tail, AllPairs-cons, pairs_head, pairs_tail, IsNumber}
use Rattle.std.proofs.Common.{below_more}
use Rattle.std.proofs.lemmas.List.{get_or-map}

-- the pairs of a list are those of its first item, and those of the rest
pub pairs_split : {X : Type 0} → (R : X → X → Type 0) (x : X) (xs ys : List X) → ys ≡ x ∷ xs → AllPairs R ys → All (R x) xs × AllPairs R xs
pairs_split R x xs ys e p = let q : AllPairs R (x ∷ xs) = subst (AllPairs R) e p in (pairs_head R x xs q, pairs_tail R x xs q)

pub pairs_joined : {X : Type 0} → (R : X → X → Type 0) (x : X) (xs ys : List X) → ys ≡ x ∷ xs → All (R x) xs → AllPairs R xs → AllPairs R ys
pairs_joined R x xs ys e all p = subst (AllPairs R) (sym e) (AllPairs-cons R x xs all p)

-- ---- rising numbers

-- an item seen as a number
pub number_of : {X : Type 0} → (f : X → ℕ) (xs : List X) (n : ℕ) (x : X) → n < length xs → x ≡ get_or xs n x → get_or (map f xs) n 0 ≡ f x
number_of f xs n x lt e = get_or-map f xs n x 0 lt ∙ ap f (sym e)

-- numbers rise below this place
abbrev pub RisesBelow : List ℕ → ℕ → Type 0
RisesBelow ns n = (k : ℕ) → k + 1 < n → get_or ns k 0 < get_or ns (k + 1) 0

pub rises_more : (ns : List ℕ) (n : ℕ) → 1 ≤ n → RisesBelow ns n → get_or ns (n - 1) 0 < get_or ns n 0 → RisesBelow ns (n + 1)
rises_more ns n some front here = λ k lt.
    below_more (λ (i : ℕ). i ≡ k + 1 → get_or ns k 0 < get_or ns i 0) n (λ i b e. let h : k + 1 < n = omega (arith, b, e) in subst (λ (j : ℕ). get_or ns k 0 < get_or ns j 0) (sym e) (front k h))
    (λ e. let at : n - 1 ≡ k = omega (arith, e) in subst (λ (j : ℕ). get_or ns j 0 < get_or ns n 0) at here)
    (k + 1) lt refl

-- as many numbers as lie in a range
count_rising : (low high : ℕ) (ns : List ℕ) → AllPairs (λ a b. a < b) ns → All (λ n. low ≤ n) ns → All (λ n. n ≤ high) ns → length ns + low ≤ high + 1 + (low - (high + 1))
count_rising low high [] p a b = omega arith
count_rising low high (n ∷ ns) p a b =
    let first : low ≤ n = All-head (λ m. low ≤ m) n ns a in
    let last : n ≤ high = All-head (λ m. m ≤ high) n ns b in
    let rest = count_rising (n + 1) high ns (pairs_tail (λ a b. a < b) n ns p) (λ k d lt. let h = pairs_head (λ a b. a < b) n ns p k d lt in omega (arith, h)) (All-tail (λ m. m ≤ high) n ns b) in
    omega (arith, first, last, rest)

pub few_rising : (ns : List ℕ) → AllPairs (λ a b. a < b) ns → All IsNumber ns → length ns ≤ 4294967294
few_rising ns p a =
    let h = count_rising 1 4294967294 ns p (λ k d lt. (a k d lt).low) (λ k d lt. (a k d lt).high) in
    omega (arith, h)
