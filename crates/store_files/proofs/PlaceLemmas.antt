-- Places of lists: what is seen there, and what a search finds among rising numbers.
use Rattle.std.proofs.Common.{◌≡◌, ◌≢◌, ◌<◌, ◌≤◌, ◌+◌, inl, inr, ℕ, suc, zero, List, [], ◌∷◌, ◌++◌, length, map, take, get_or, set, slice_get, Option, Some, None, Result, Ok, Err, IfOk, IfErr, All, AllPairs, refl, sym, ◌∙◌, ap, arith}
use Rattle.std.specs.Option.{option_map}
use Rattle.std.specs.Ordering.{nat_cmp, ordering_index}
use Rattle.std.specs.List.Sorted.{IsSearchInRange, IsBinarySearchResult, IsNonDecreasingBy}
use Rattle.std.proofs.lemmas.Cmp.{ranked}
use Rattle.std.proofs.lemmas.Bool.{cases_lt, cases_eq}
use Rattle.std.proofs.lemmas.Bool.Decides.{nat_tests}
use Rattle.std.proofs.lemmas.List.{take_more}
use Rattle.std.proofs.lemmas.List.Elements.{All-head, All-tail}
use Rattle.std.proofs.lemmas.Option.{slice_get_within, get_or_from_slice_get}
use Rattle.model_octets.proofs.PairLemmas.{pairs_head, pairs_tail}

-- what is there, behind what is seen
behind : {A B : Type 0} → (f : A → B) (o : Option A) (y : B) → Some y ≡ option_map f o → (x : A) × (o ≡ Some x) × (y ≡ f x)
behind f None y e = absurd (cc e)
behind f (Some x) y e = (x, refl, let h : y ≡ f x = cc e in h)

take_next : {X : Type 0} → (xs : List X) (k : ℕ) (x : X) → slice_get xs k ≡ Some x → take (k + 1) xs ≡ take k xs ++ x ∷ []
take_next xs k x e = take_more xs k x (slice_get_within xs k x e) ∙ ap (λ (y : _). take k xs ++ y ∷ []) (get_or_from_slice_get xs k x x e)

-- what is seen at a place, which is one more of those that are there
pub seen_next : {X S : Type 0} → (see : X → S) (xs : List X) (k : ℕ) (o : Option S) (s : S) → o ≡ option_map see (slice_get xs k) → o ≡ Some s
    → (x : X) × (s ≡ see x) × (take (k + 1) xs ≡ take k xs ++ x ∷ [])
seen_next see xs k o s look is =
    let b = behind see (slice_get xs k) s (sym is ∙ look) in
    (b.0, b.2, take_next xs k b.0 b.1)

-- ---- searches

-- the answers rise along the list
answers_rise : {X : Type 0} → (key : X → ℕ) (xs : List X) (n : ℕ) → AllPairs (λ a b. key a < key b) xs → IsNonDecreasingBy (λ x. ordering_index (nat_cmp (key x) n)) xs
answers_rise key xs n rise i j d le lt =
    let up : key (get_or xs i d) ≤ key (get_or xs j d) = elim (cases_eq i j) [
      | inl same ↦ let e : key (get_or xs i d) ≡ key (get_or xs j d) = ap (λ (k : ℕ). key (get_or xs k d)) same in omega (arith, e)
      | inr apart ↦ let l : key (get_or xs i d) < key (get_or xs j d) = rise i j d (omega (arith, le, apart)) lt in omega (arith, l)
    ] in
    higher (key (get_or xs i d)) (key (get_or xs j d)) up
  where
    higher : (a b : ℕ) → a ≤ b → ordering_index (nat_cmp a n) ≤ ordering_index (nat_cmp b n)
    higher a b le = grind (arith, nat_tests)

-- what a search says of a number: where it stands, or that it is not there
pub searched : {X : Type 0} → (key : X → ℕ) (xs : List X) (n : ℕ) → AllPairs (λ a b. key a < key b) xs → (r : Result ℕ ℕ) → IsSearchInRange r (length xs) → IsBinarySearchResult (λ x. nat_cmp (key x) n) xs r
    → record { found : IfOk r (λ at. (x : X) × (slice_get xs at ≡ Some x) × (key x ≡ n)); absent : IfErr r (λ at. All (λ x. key x ≢ n) xs) }
searched {X} key xs n rise (Ok at) within equal = record { found = there xs at within (λ d. ranked _ n _ (sym (equal d))); absent = tt }
  where
    there : (ys : List X) (k : ℕ) → k < length ys → ((d : X) → key (get_or ys k d) ≡ n) → (x : X) × (slice_get ys k ≡ Some x) × (key x ≡ n)
    there [] k lt same = absurd (omega (arith, lt))
    there (y ∷ ys) zero lt same = (y, refl, same y)
    there (y ∷ ys) (suc k) lt same = there ys k (omega (arith, lt)) same
searched {X} key xs n rise (Err at) within parted = record {
  found = tt;
  absent = λ k d lt e. elim (cases_lt k at) [
    | inl before ↦ let l : key (get_or xs k d) < n = ranked _ n _ (sym ((parted (answers_rise key xs n rise)).0 k d (omega arith) before)) in omega (arith, l, e)
    | inr past ↦ let l : n < key (get_or xs k d) = ranked _ n _ (sym ((parted (answers_rise key xs n rise)).1 k d past lt)) in omega (arith, l, e)
  ];
}

-- ---- changes

-- what changes no element changes no list
pub map_fixed : {X : Type 0} → (f : X → X) (xs : List X) → All (λ x. f x ≡ x) xs → map f xs ≡ xs
map_fixed f [] fixed = refl
map_fixed f (x ∷ xs) fixed =
    ap (λ (y : _). y ∷ map f xs) (All-head (λ y. f y ≡ y) x xs fixed) ∙ ap (λ (ys : List _). x ∷ ys) (map_fixed f xs (All-tail (λ y. f y ≡ y) x xs fixed))

-- a change of the one element with its number, which leaves the others alone
pub set_is_map : {X : Type 0} → (f : X → X) (key : X → ℕ) (xs : List X) (at : ℕ) (x : X) → AllPairs (λ a b. key a < key b) xs → slice_get xs at ≡ Some x → ((y : X) → key y ≢ key x → f y ≡ y) → set xs at (f x) ≡ map f xs
set_is_map f key [] at x rise e fixed = absurd (let w : None ≡ Some x = e in cc)
set_is_map f key (y ∷ ys) zero x rise e fixed =
    let is : y ≡ x = let w : Some y ≡ Some x = e in cc in
    let less = pairs_head (λ a b. key a < key b) y ys rise in
    let rest : map f ys ≡ ys = map_fixed f ys (λ k d lt. fixed (get_or ys k d) (λ same. let l : key y < key (get_or ys k d) = less k d lt in let n : key y ≡ key x = ap key is in omega (arith, l, same, n))) in
    ap (λ (z : _). f z ∷ ys) (sym is) ∙ ap (λ (zs : List _). f y ∷ zs) (sym rest)
set_is_map f key (y ∷ ys) (suc at) x rise e fixed =
    let w = slice_get_within ys at x e in
    let l : key y < key (get_or ys at x) = pairs_head (λ a b. key a < key b) y ys rise at x w in
    let n : key (get_or ys at x) ≡ key x = ap key (get_or_from_slice_get ys at x x e) in
    let here : f y ≡ y = fixed y (λ same. omega (arith, l, n, same)) in
    ap (λ (zs : List _). y ∷ zs) (set_is_map f key ys at x (pairs_tail (λ a b. key a < key b) y ys rise) e fixed) ∙ ap (λ (z : _). z ∷ map f ys) (sym here)
