-- What a search finds among records in order of map uid.
use Rattle.map_rows.proofs.Common.{AllPairs, nat_lt, ◌≡◌, ◌≢◌, inl, inr, ℕ, ◌-◌, ◌<◌, ◌≤◌, ◌==◌, Bool, true, false, not, cond, Some, None, List, [], ◌∷◌, length, find, get_or, map, Result, Ok, Err, refl, sym, ◌∙◌, ap, subst, ◌+◌, arith, list_any, IsSearchInRange, IsBinarySearchResult, IsNonDecreasingBy}
use Rattle.map_rows.proofs.Common.{nat_cmp, ranked, cases_lt, cases_eq, nat_tests, find_at, slice_get_past, AllPairs-cons, pairs_head, pairs_tail, pairs_nil, MapRecord, Record, meant_record}
use Rattle.std.specs.Prelude.{position, slice_get}
use Rattle.std.specs.Prelude.{MatchResult}
use Rattle.std.specs.Result.{is_ok}
use Rattle.std.specs.List.{position_or_len}
use Rattle.std.specs.Ordering.{ordering_index}
use Rattle.std.proofs.lemmas.List.{length-map}
use Rattle.std.proofs.lemmas.List.Folds.{list_any_at, list_any_none}
use Rattle.std.proofs.lemmas.Option.{same_Some, slice_get-get_or}
use Rattle.std.proofs.lemmas.List.Sums.{fails_before_first, passes_at_first, position_or_len_is}
use Rattle.map_rows.proofs.DerivedListLemmas.{All-unmap}

-- the answers of a search rise along the items
pub answers_rise : {X : Type 0} → (f : X → ℕ) (xs : List X) (n : ℕ) → AllPairs (λ a b. f a < f b) xs → IsNonDecreasingBy (λ x. ordering_index (nat_cmp (f x) n)) xs
answers_rise f xs n rise i j d le lt =
    let up : f (get_or xs i d) ≤ f (get_or xs j d) = elim (cases_eq i j) [
      | inl same ↦ let e : f (get_or xs i d) ≡ f (get_or xs j d) = ap (λ (k : ℕ). f (get_or xs k d)) same in omega (arith, e)
      | inr apart ↦ let l : f (get_or xs i d) < f (get_or xs j d) = rise i j d (omega (arith, le, apart)) lt in omega (arith, l)
    ] in
    higher n (f (get_or xs i d)) (f (get_or xs j d)) up
  where
    higher : (n a b : ℕ) → a ≤ b → ordering_index (nat_cmp a n) ≤ ordering_index (nat_cmp b n)
    higher n a b le = grind (arith, nat_tests)

equal : (a b : ℕ) → a ≡ b → (a == b) ≡ true
equal a b h = grind (arith, nat_tests, h)

unequal : (a b : ℕ) → a ≢ b → (a == b) ≡ false
unequal a b h = grind (arith, nat_tests, h)

-- the place that was found, or none
pub searched : {X : Type 0} → (f : X → ℕ) (xs : List X) (n : ℕ) → AllPairs (λ a b. f a < f b) xs → (r : Result ℕ ℕ) → IsSearchInRange r (length xs) → IsBinarySearchResult (λ x. nat_cmp (f x) n) xs r
    → MatchResult r (λ at. at ≡ position_or_len (λ x. f x == n) xs) (λ _. length xs ≡ position_or_len (λ x. f x == n) xs)
searched f [] n rise (Ok at) within equal_at = absurd (omega (arith, within))
searched f (x ∷ xs) n rise (Ok at) within equal_at =
    let here : f (get_or (x ∷ xs) at x) ≡ n = ranked _ n _ (sym (equal_at x)) in
    sym (position_or_len_is (λ y. f y == n) (x ∷ xs) at x (omega (arith, within))
    (λ k lt. unequal _ n (λ e. let l : f (get_or (x ∷ xs) k x) < f (get_or (x ∷ xs) at x) = rise k at x lt within in omega (arith, l, e, here)))
    (λ lt. equal _ n here))
searched f [] n rise (Err at) within parted = refl
searched f (x ∷ xs) n rise (Err at) within parted =
    let p = parted (answers_rise f (x ∷ xs) n rise) in
    sym (position_or_len_is (λ y. f y == n) (x ∷ xs) (length (x ∷ xs)) x (omega arith)
    (λ k lt. unequal _ n (λ e. elim (cases_lt k at) [
      | inl before ↦ let l : f (get_or (x ∷ xs) k x) < n = ranked _ n _ (sym (p.0 k x (omega arith) before)) in omega (arith, l, e)
      | inr behind ↦ let l : n < f (get_or (x ∷ xs) k x) = ranked _ n _ (sym (p.1 k x behind lt)) in omega (arith, l, e)
    ]))
    (λ lt. absurd (omega (arith, lt))))

-- what holds of all pairs of a list that is made of another
pub pairs_unmap : {X Y : Type 0} → (R : Y → Y → Type 0) (f : X → Y) (xs : List X) → AllPairs R (map f xs) → AllPairs (λ a b. R (f a) (f b)) xs
pairs_unmap R f [] p = pairs_nil (λ a b. R (f a) (f b))
pairs_unmap R f (x ∷ xs) p = AllPairs-cons (λ a b. R (f a) (f b)) x xs (All-unmap (R (f x)) f xs (pairs_head R (f x) (map f xs) p)) (pairs_unmap R f xs (pairs_tail R (f x) (map f xs) p))

-- ---- places

place_step : (b : Bool) (m n : ℕ) → m ≡ n → cond (not b) (1 + m) 0 ≡ cond (not b) (1 + n) 0
place_step b m n e = rw e refl

pub place_seen : {X Y : Type 0} → (p : Y → Bool) (f : X → Y) (xs : List X) → position_or_len p (map f xs) ≡ position_or_len (λ x. p (f x)) xs
place_seen p f [] = refl
place_seen p f (x ∷ xs) = place_step (p (f x)) _ _ (place_seen p f xs)

-- a place that is there
pub placed : {X : Type 0} → (p : X → Bool) (xs : List X) (n : ℕ) → n ≡ position_or_len p xs → n < length xs → Some n ≡ position p xs
placed p xs n e lt = let h : nat_lt n (length xs) ≡ true = grind (arith, nat_tests, lt) in rw (← e) (rw h refl)

pub unplaced : {X : Type 0} → (p : X → Bool) (xs : List X) (n : ℕ) → n ≡ position_or_len p xs → length xs ≤ n → None ≡ position p xs
unplaced p xs n e le = let h : nat_lt n (length xs) ≡ false = grind (arith, nat_tests, le) in rw (← e) (rw h refl)

-- the place of a map uid in the records that the table has
pub place_found : (uid : ℕ) (rs xs : List Record) (ms : List MapRecord) (n : ℕ) → n ≡ position_or_len (λ (r : Record). r.row.uid.0 == uid) rs → rs ≡ xs → map meant_record xs ≡ ms → n < length rs
    → (Some n ≡ position (λ (row : MapRecord). row.uid == uid) ms) × (slice_get ms n ≡ find (λ (row : MapRecord). row.uid == uid) ms)
place_found uid rs xs ms n e same view lt =
    let p = λ (row : MapRecord). row.uid == uid in
    let here : n ≡ position_or_len p ms = e ∙ sym (place_seen p meant_record rs) ∙ ap (λ (zs : List Record). position_or_len p (map meant_record zs)) same ∙ ap (position_or_len p) view in
    let long : length rs ≡ length xs = ap (λ (zs : List Record). length zs) same in
    let size : length ms ≡ length xs = ap (λ (zs : List MapRecord). length zs) (sym view) ∙ length-map xs meant_record in
    (placed p ms n here (omega (arith, size, long, lt)), ap (slice_get ms) here ∙ sym (find_at p ms))

pub place_missing : (uid : ℕ) (rs xs : List Record) (ms : List MapRecord) (n : ℕ) → n ≡ position_or_len (λ (r : Record). r.row.uid.0 == uid) rs → rs ≡ xs → map meant_record xs ≡ ms → length rs ≤ n
    → (None ≡ position (λ (row : MapRecord). row.uid == uid) ms) × (None ≡ find (λ (row : MapRecord). row.uid == uid) ms)
place_missing uid rs xs ms n e same view le =
    let p = λ (row : MapRecord). row.uid == uid in
    let here : n ≡ position_or_len p ms = e ∙ sym (place_seen p meant_record rs) ∙ ap (λ (zs : List Record). position_or_len p (map meant_record zs)) same ∙ ap (position_or_len p) view in
    let long : length rs ≡ length xs = ap (λ (zs : List Record). length zs) same in
    let size : length ms ≡ length xs = ap (λ (zs : List MapRecord). length zs) (sym view) ∙ length-map xs meant_record in
    let past : length ms ≤ n = omega (arith, size, long, le) in
    (unplaced p ms n here past, sym (find_at p ms ∙ ap (slice_get ms) (sym here) ∙ slice_get_past ms n past))

one_passes : {X : Type 0} → (p : X → Bool) (xs : List X) → position_or_len p xs < length xs → list_any p xs ≡ true
one_passes p [] lt = absurd (omega (arith, lt))
one_passes p (x ∷ xs) lt = list_any_at p (x ∷ xs) (position_or_len p (x ∷ xs)) x lt (passes_at_first p (x ∷ xs) x lt)

-- whether one was found
pub any_searched : {X : Type 0} → (f : X → ℕ) (xs : List X) (n : ℕ) → AllPairs (λ a b. f a < f b) xs → (r : Result ℕ ℕ) → IsSearchInRange r (length xs) → IsBinarySearchResult (λ x. nat_cmp (f x) n) xs r → is_ok r ≡ list_any (λ x. f x == n) xs
any_searched f xs n rise (Ok at) within equal_at =
    let place = searched f xs n rise (Ok at) within equal_at in
    sym (one_passes (λ x. f x == n) xs (subst (λ (k : ℕ). k < length xs) place within))
any_searched f xs n rise (Err at) within parted =
    let past = searched f xs n rise (Err at) within parted in
    sym (list_any_none (λ x. f x == n) xs (λ k d lt. fails_before_first (λ x. f x == n) xs k d (omega (arith, past, lt))))

-- what was found, and that none was
pub found_at : {X : Type 0} → (f : X → ℕ) (xs : List X) (n at : ℕ) (d : X) → at < length xs → at ≡ position_or_len (λ y. f y == n) xs → Some (get_or xs at d) ≡ find (λ y. f y == n) xs
found_at f xs n at d lt e = sym (slice_get-get_or xs at d lt) ∙ ap (slice_get xs) e ∙ sym (find_at (λ y. f y == n) xs)

pub found_nowhere : {X : Type 0} → (f : X → ℕ) (xs : List X) (n : ℕ) → length xs ≡ position_or_len (λ y. f y == n) xs → None ≡ find (λ y. f y == n) xs
found_nowhere f xs n e = sym (slice_get_past xs (length xs) (omega arith)) ∙ ap (slice_get xs) e ∙ sym (find_at (λ y. f y == n) xs)

-- a place that has the number is the one
pub guessed : {X : Type 0} → (f : X → ℕ) (xs : List X) (n at : ℕ) (d : X) → AllPairs (λ a b. f a < f b) xs → at < length xs → f (get_or xs at d) ≡ n → at ≡ position_or_len (λ x. f x == n) xs
guessed f xs n at d rise within here =
    sym (position_or_len_is (λ x. f x == n) xs at d (omega (arith, within))
    (λ k lt. unequal _ n (λ e. let l : f (get_or xs k d) < f (get_or xs at d) = rise k at d lt within in omega (arith, l, e, here))) (λ lt. equal _ n here))

-- what is greater than the last item's number is greater than all
pub below_last : {X : Type 0} → (f : X → ℕ) (xs : List X) (last : X) (n k : ℕ) (d : X) → AllPairs (λ a b. f a < f b) xs → Some last ≡ slice_get xs (length xs - 1) → f last < n → k < length xs → f (get_or xs k d) < n
below_last f xs last n k d rise is lt below =
    let end : length xs - 1 < length xs = omega (arith, below) in
    let most : f last ≡ f (get_or xs (length xs - 1) d) = ap f (same_Some _ _ (is ∙ slice_get-get_or xs (length xs - 1) d end)) in
    elim (cases_eq k (length xs - 1)) [
      | inl e ↦ let here : f (get_or xs k d) ≡ f (get_or xs (length xs - 1) d) = ap (λ (i : ℕ). f (get_or xs i d)) e in omega (arith, here, most, lt)
      | inr apart ↦ let l : f (get_or xs k d) < f (get_or xs (length xs - 1) d) = rise k (length xs - 1) d (omega (arith, below, apart)) end in omega (arith, l, most, lt)
    ]
