-- What a search finds among items in order of a number.
use Rattle.map_index.proofs.Common.{AllPairs, ◌≡◌, ◌≢◌, inl, inr, ℕ, ◌<◌, ◌≤◌, ◌==◌, Bool, true, false, List, [], ◌∷◌, length, get_or, map, refl, sym, ap, subst, arith, list_any, position_or_len, nat_tests, AllPairs-cons, pairs_head, pairs_tail, pairs_nil}
use Rattle.std.proofs.Common.{Result, Ok, Err}
use Rattle.std.specs.Prelude.{MatchResult}
use Rattle.std.specs.Result.{is_ok}
use Rattle.std.specs.List.Sorted.{IsSearchInRange, IsBinarySearchResult, IsNonDecreasingBy}
use Rattle.std.specs.Ordering.{nat_cmp, ordering_index}
use Rattle.std.proofs.lemmas.Cmp.{ranked}
use Rattle.std.proofs.lemmas.Bool.{cases_lt, cases_eq}
use Rattle.std.proofs.lemmas.List.Folds.{list_any_at, list_any_none}
use Rattle.std.proofs.lemmas.List.Sums.{fails_before_first, passes_at_first, position_or_len_is}
use Rattle.map_index.proofs.DerivedListLemmas.{All-unmap}

-- the answers of a search rise along the items
pub answers_rise : {X : Type 0} → (f : X → ℕ) (xs : List X) (n : ℕ) → AllPairs (λ a b. f a < f b) xs → IsNonDecreasingBy (λ x. ordering_index (nat_cmp (f x) n)) xs
answers_rise f xs n rise i j d le lt =
    let up : f (get_or xs i d) ≤ f (get_or xs j d) = elim (cases_eq i j) [
      | inl same ↦ let e : f (get_or xs i d) ≡ f (get_or xs j d) = ap (λ (k : ℕ). f (get_or xs k d)) same in omega (arith, e)
      | inr apart ↦ let l : f (get_or xs i d) < f (get_or xs j d) = rise i j d (omega (arith, le, apart)) lt in omega (arith, l)
    ] in
    higher n (f (get_or xs i d)) (f (get_or xs j d)) up
  where
    higher : (n a b : ℕ) → a ≤ b → ordering_index (nat_cmp a n) ≤ ordering_index (nat_cmp b n)
    higher n a b le = grind (arith, nat_tests)

equal : (a b : ℕ) → a ≡ b → (a == b) ≡ true
equal a b h = grind (arith, nat_tests, h)

unequal : (a b : ℕ) → a ≢ b → (a == b) ≡ false
unequal a b h = grind (arith, nat_tests, h)

-- the place that was found, or none
pub searched : {X : Type 0} → (f : X → ℕ) (xs : List X) (n : ℕ) → AllPairs (λ a b. f a < f b) xs → (r : Result ℕ ℕ) → IsSearchInRange r (length xs) → IsBinarySearchResult (λ x. nat_cmp (f x) n) xs r
    → MatchResult r (λ at. at ≡ position_or_len (λ x. f x == n) xs) (λ _. length xs ≡ position_or_len (λ x. f x == n) xs)
searched f [] n rise (Ok at) within equal_at = absurd (omega (arith, within))
searched f (x ∷ xs) n rise (Ok at) within equal_at =
    let here : f (get_or (x ∷ xs) at x) ≡ n = ranked _ n _ (sym (equal_at x)) in
    sym (position_or_len_is (λ y. f y == n) (x ∷ xs) at x (omega (arith, within))
    (λ k lt. unequal _ n (λ e. let l : f (get_or (x ∷ xs) k x) < f (get_or (x ∷ xs) at x) = rise k at x lt within in omega (arith, l, e, here)))
    (λ lt. equal _ n here))
searched f [] n rise (Err at) within parted = refl
searched f (x ∷ xs) n rise (Err at) within parted =
    let p = parted (answers_rise f (x ∷ xs) n rise) in
    sym (position_or_len_is (λ y. f y == n) (x ∷ xs) (length (x ∷ xs)) x (omega arith)
    (λ k lt. unequal _ n (λ e. elim (cases_lt k at) [
      | inl before ↦ let l : f (get_or (x ∷ xs) k x) < n = ranked _ n _ (sym (p.0 k x (omega arith) before)) in omega (arith, l, e)
      | inr behind ↦ let l : n < f (get_or (x ∷ xs) k x) = ranked _ n _ (sym (p.1 k x behind lt)) in omega (arith, l, e)
    ]))
    (λ lt. absurd (omega (arith, lt))))

one_passes : {X : Type 0} → (p : X → Bool) (xs : List X) → position_or_len p xs < length xs → list_any p xs ≡ true
one_passes p [] lt = absurd (omega (arith, lt))
one_passes p (x ∷ xs) lt = list_any_at p (x ∷ xs) (position_or_len p (x ∷ xs)) x lt (passes_at_first p (x ∷ xs) x lt)

-- whether one was found
pub any_searched : {X : Type 0} → (f : X → ℕ) (xs : List X) (n : ℕ) → AllPairs (λ a b. f a < f b) xs → (r : Result ℕ ℕ) → IsSearchInRange r (length xs) → IsBinarySearchResult (λ x. nat_cmp (f x) n) xs r → is_ok r ≡ list_any (λ x. f x == n) xs
any_searched f xs n rise (Ok at) within equal_at =
    let place = searched f xs n rise (Ok at) within equal_at in
    sym (one_passes (λ x. f x == n) xs (subst (λ (k : ℕ). k < length xs) place within))
any_searched f xs n rise (Err at) within parted =
    let past = searched f xs n rise (Err at) within parted in
    sym (list_any_none (λ x. f x == n) xs (λ k d lt. fails_before_first (λ x. f x == n) xs k d (omega (arith, past, lt))))

-- what holds of all pairs of a list that is made of another
pub pairs_unmap : {X Y : Type 0} → (R : Y → Y → Type 0) (f : X → Y) (xs : List X) → AllPairs R (map f xs) → AllPairs (λ a b. R (f a) (f b)) xs
pairs_unmap R f [] p = pairs_nil (λ a b. R (f a) (f b))
pairs_unmap R f (x ∷ xs) p = AllPairs-cons (λ a b. R (f a) (f b)) x xs (All-unmap (R (f x)) f xs (pairs_head R (f x) (map f xs) p)) (pairs_unmap R f xs (pairs_tail R (f x) (map f xs) p))
