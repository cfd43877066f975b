-- Known instances in order of id: what a search finds, and what one instance more or less changes.
use Rattle.std.specs.Prelude.{AllPairs, Contains, insert, remove, not, if◌then◌else◌}
use Rattle.std.specs.Option.{option_map}
use Rattle.std.specs.Cmp.{IsTotalOrder}
use Rattle.std.specs.Cmp.Lexicographic.{slice_cmp}
use Rattle.std.specs.Ordering.{nat_cmp, ordering_then, ordering_reverse, is_lt, MatchOrdering}
use Rattle.std.specs.declared.cmp.Ordering.{Ordering}
use Rattle.std.specs.declared.cmp.Ordering.TheVariants.{Less, Equal, Greater}
use Rattle.std.specs.List.Sorted.{IsSearchInRange, IsBinarySearchResult, IsSortedBy}
use Rattle.std.proofs.Common.{◌≡◌, ◌≢◌, inl, inr, ℕ, zero, suc, ◌+◌, ◌-◌, ◌<◌, ◌≤◌, Bool, true, false, ◌&&◌, List, [], ◌∷◌, ◌++◌, length, filter, find, take, drop, set, slice_get, get_or, Option, Some, None, Result, Ok, Err, IfOk, IfErr, All, refl, sym, ◌∙◌, ap, subst, arith}
use Rattle.std.proofs.lemmas.Cmp.{ranked, nat_list_cmp_total, on_total, tied_itself}
use Rattle.std.proofs.lemmas.Bool.{cases_Bool, cases_lt, cases_eq, cond-true, cond-false, true≢false, false≢true}
use Rattle.std.proofs.lemmas.List.{take_all, length-drop}
use Rattle.std.proofs.lemmas.List.Elements.{All-nil, All-cons, All-head, All-tail, All-append, All-weaker, All-filter, All-take, filter_passes}
use Rattle.std.proofs.lemmas.List.Kept.{AllPairs-cons, AllPairs-filter}
use Rattle.std.proofs.lemmas.List.Sorted.{searchable_from_sorted}
use Rattle.mdbox_base.specs.declared.ids.InstId.{InstId}
use Rattle.model_octets.proofs.PairLemmas.{NotBoth, pairs_head, pairs_tail}
use Rattle.model_octets.proofs.SearchLemmas.{found_is, text_is, text_yes}
use Rattle.sis_store.specs.declared.instance.KnownInstance.{KnownInstance}
use Rattle.sis_store.specs.Instances.{IsIdBefore, has_id, instance_in, is_id_past, with_holders, with_instance, without_instance}

-- ---- the order of octets

abbrev pub by_octets : List ℕ → List ℕ → Ordering
by_octets = slice_cmp nat_cmp

pub turned : (a b : List ℕ) (o : Ordering) → by_octets a b ≡ o → by_octets b a ≡ ordering_reverse o
turned a b o e = nat_list_cmp_total.antisymm b a ∙ ap ordering_reverse e

then_equal : (o p : Ordering) → ordering_then o p ≡ Equal → (o ≡ Equal) × (p ≡ Equal)
then_equal Less p e = absurd (let k : Less ≡ Equal = e in cc)
then_equal Equal p e = (refl, e)
then_equal Greater p e = absurd (let k : Greater ≡ Equal = e in cc)

same_number : (x y : ℕ) → nat_cmp x y ≡ Equal → x ≡ y
same_number x y e = subst (λ (o : Ordering). MatchOrdering o (x < y) (x ≡ y) (y < x)) e (ranked x y (nat_cmp x y) refl)

pub same_octets : (xs ys : List ℕ) → by_octets xs ys ≡ Equal → xs ≡ ys
same_octets [] [] e = refl
same_octets [] (y ∷ ys) e = absurd (let k : Less ≡ Equal = e in cc)
same_octets (x ∷ xs) [] e = absurd (let k : Greater ≡ Equal = e in cc)
same_octets (x ∷ xs) (y ∷ ys) e =
    let parts = then_equal (nat_cmp x y) (by_octets xs ys) e in
    let first : x ≡ y = same_number x y parts.0 in
    let rest : xs ≡ ys = same_octets xs ys parts.1 in
    cc

pub not_before_itself : (xs ys : List ℕ) → xs ≡ ys → by_octets xs ys ≡ Less → ⊥
not_before_itself xs ys e l =
    let same : by_octets xs ys ≡ Equal = ap (by_octets xs) (sym e) ∙ tied_itself nat_list_cmp_total xs in
    let k : Less ≡ Equal = sym l ∙ same in
    cc

abbrev id_made : List ℕ → InstId
id_made octets = record { 0 = octets }

pub same_id : (a b : InstId) → a.0 ≡ b.0 → a ≡ b
same_id a b e = ap id_made e

pub lt_less : (o : Ordering) → o ≡ Less → is_lt o ≡ true
lt_less o e = ap is_lt e

lt_not : (o p : Ordering) → o ≡ p → is_lt p ≡ false → is_lt o ≡ false
lt_not o p e h = ap is_lt e ∙ h

lt_turned : (xs ys : List ℕ) → by_octets xs ys ≡ Greater → is_lt (by_octets ys xs) ≡ true
lt_turned xs ys e = lt_less (by_octets ys xs) (turned xs ys Greater e)

not_lt_turned : (xs ys : List ℕ) → by_octets xs ys ≡ Less → is_lt (by_octets ys xs) ≡ false
not_lt_turned xs ys e = lt_not (by_octets ys xs) Greater (turned xs ys Less e) refl

pub less_lt : (o : Ordering) → is_lt o ≡ true → o ≡ Less
less_lt Less e = refl
less_lt Equal e = absurd (false≢true e)
less_lt Greater e = absurd (false≢true e)

-- an order that isn't less, of what isn't the same, is the other way round
other_way : (xs ys : List ℕ) → is_lt (by_octets xs ys) ≡ false → (xs ≡ ys → ⊥) → by_octets ys xs ≡ Less
other_way xs ys h apart = by (by_octets xs ys) refl
  where
    by : (o : Ordering) → by_octets xs ys ≡ o → by_octets ys xs ≡ Less
    by Less e = absurd (true≢false (sym (ap is_lt e) ∙ h))
    by Equal e = absurd (apart (same_octets xs ys e))
    by Greater e = turned xs ys Greater e

-- ---- ids rise

abbrev pub Rise : List KnownInstance → Type 0
Rise known = AllPairs (λ a b. IsIdBefore a.row.id b.row.id) known

abbrev R : KnownInstance → KnownInstance → Type 0
R a b = IsIdBefore a.row.id b.row.id

-- what a search says of an id
pub record FoundId (known : List KnownInstance) (id : InstId) (at : ℕ) : Type 0 where
  pub within : at < length known
  pub is : (d : KnownInstance) → (get_or known at d).row.id.0 ≡ id.0

pub record SoughtId (known : List KnownInstance) (id : InstId) (at : ℕ) : Type 0 where
  pub within : at ≤ length known
  pub before : (k : ℕ) (d : KnownInstance) → k < at → by_octets (get_or known k d).row.id.0 id.0 ≡ Less
  pub behind : (k : ℕ) (d : KnownInstance) → at ≤ k → k < length known → by_octets (get_or known k d).row.id.0 id.0 ≡ Greater

id_total : IsTotalOrder (λ (a b : InstId). by_octets a.0 b.0)
id_total = on_total (λ (i : InstId). i.0) nat_list_cmp_total

sorted : (known : List KnownInstance) → Rise known → IsSortedBy (λ (a b : KnownInstance). is_lt (by_octets a.row.id.0 b.row.id.0)) known
sorted known rise k d low high =
    not_lt_turned (get_or known k d).row.id.0 (get_or known (k + 1) d).row.id.0 (rise k (k + 1) d (omega arith) high)

pub searched_ids : (known : List KnownInstance) (id : InstId) → Rise known → (r : Result ℕ ℕ) → IsSearchInRange r (length known) → IsBinarySearchResult (λ (k : KnownInstance). by_octets k.row.id.0 id.0) known r
    → record { found : IfOk r (FoundId known id); absent : IfErr r (SoughtId known id) }
searched_ids known id rise (Ok at) within equal = record { found = record { within = within; is = λ d. same_octets (get_or known at d).row.id.0 id.0 (equal d) }; absent = tt }
searched_ids known id rise (Err at) within parted =
    let up = searchable_from_sorted id_total (λ (k : KnownInstance). k.row.id) known id (sorted known rise) in
    record {
      found = tt;
      absent = record { within = within; before = λ k d lt. (parted up).0 k d (omega arith) lt; behind = λ k d le lt. (parted up).1 k d le lt };
    }

-- ---- places

pub get_at : {X : Type 0} → (xs : List X) (at : ℕ) → at < length xs → (x : X) × (slice_get xs at ≡ Some x)
get_at [] at within = absurd (omega (arith, within))
get_at (x ∷ xs) zero within = (x, refl)
get_at (x ∷ xs) (suc at) within = get_at xs at (omega (arith, within))

pub got : {X : Type 0} → (xs : List X) (at : ℕ) (x d : X) → slice_get xs at ≡ Some x → get_or xs at d ≡ x
got [] at x d e = absurd (let w : None ≡ Some x = e in cc)
got (y ∷ xs) zero x d e = let w : Some y ≡ Some x = e in cc
got (y ∷ xs) (suc at) x d e = got xs at x d e

pub is_within : {X : Type 0} → (xs : List X) (at : ℕ) (x : X) → slice_get xs at ≡ Some x → at < length xs
is_within [] at x e = absurd (let w : None ≡ Some x = e in cc)
is_within (y ∷ xs) zero x e = omega arith
is_within (y ∷ xs) (suc at) x e = let w = is_within xs at x e in omega (arith, w)

pub contained : {X : Type 0} → (xs : List X) (at : ℕ) (x : X) → slice_get xs at ≡ Some x → Contains xs x
contained xs at x e = (at, is_within xs at x e, got xs at x x e)

pub found_id : (known : List KnownInstance) (id : InstId) (at : ℕ) → FoundId known id at → (k : KnownInstance) × (slice_get known at ≡ Some k) × (k.row.id ≡ id)
found_id known id at found =
    let g = get_at known at found.within in
    (g.0, g.1, same_id g.0.row.id id (sym (ap (λ (k : KnownInstance). k.row.id.0) (got known at g.0 g.0 g.1)) ∙ found.is g.0))

pub sought_id : (known : List KnownInstance) (id : InstId) (at : ℕ) → SoughtId known id at → All (λ k. k.row.id ≢ id) known
sought_id known id at s = λ k d lt e. elim (cases_lt k at) [
  | inl before ↦ not_before_itself (get_or known k d).row.id.0 id.0 (ap (λ (i : InstId). i.0) e) (s.before k d before)
  | inr behind ↦ not_before_itself id.0 (get_or known k d).row.id.0 (sym (ap (λ (i : InstId). i.0) e)) (turned (get_or known k d).row.id.0 id.0 Greater (s.behind k d behind lt))
]

-- ---- the instance of an id

ids_apart : (known : List KnownInstance) (id : InstId) → Rise known → AllPairs (NotBoth (has_id id)) known
ids_apart known id rise = λ i j d lt le p q.
    not_before_itself (get_or known i d).row.id.0 (get_or known j d).row.id.0 (text_is (get_or known i d).row.id.0 id.0 p ∙ sym (text_is (get_or known j d).row.id.0 id.0 q)) (rise i j d lt le)

pub instance-in : (known : List KnownInstance) (k : KnownInstance) → Rise known → Contains known k → instance_in k.row.id known ≡ Some k
instance-in known k rise c = found_is (has_id k.row.id) known k c (text_yes k.row.id.0 k.row.id.0 refl) (ids_apart known k.row.id rise)

pub instance-at : (known : List KnownInstance) (id : InstId) (at : ℕ) (k : KnownInstance) → Rise known → slice_get known at ≡ Some k → k.row.id ≡ id → instance_in id known ≡ Some k
instance-at known id at k rise e same = found_is (has_id id) known k (contained known at k e) (text_yes k.row.id.0 id.0 (ap (λ (i : InstId). i.0) same)) (ids_apart known id rise)

pub find_none : {X : Type 0} → (p : X → Bool) (xs : List X) → All (λ x. p x ≡ false) xs → find p xs ≡ None
find_none p [] a = refl
find_none p (x ∷ xs) a = cond-false (p x) (Some x) (find p xs) (All-head (λ y. p y ≡ false) x xs a) ∙ find_none p xs (All-tail (λ y. p y ≡ false) x xs a)

pub hasnt : (id : InstId) (k : KnownInstance) → k.row.id ≢ id → has_id id k ≡ false
hasnt id k apart = elim (cases_Bool (has_id id k)) [ inl is ↦ absurd (apart (same_id k.row.id id (text_is k.row.id.0 id.0 is))) | inr isnt ↦ isnt ]

pub instance-none : (known : List KnownInstance) (id : InstId) → All (λ k. k.row.id ≢ id) known → instance_in id known ≡ None
instance-none known id none = find_none (has_id id) known (All-weaker (λ k. k.row.id ≢ id) (λ k. has_id id k ≡ false) (λ k h. hasnt id k h) known none)

-- ---- the place past an id

pub all-take : {X : Type 0} → (Q : X → Type 0) (n : ℕ) (xs : List X) → n ≤ length xs → ((k : ℕ) (d : X) → k < n → Q (get_or xs k d)) → All Q (take n xs)
all-take Q zero xs le h = All-nil Q
all-take Q (suc n) [] le h = absurd (omega (arith, le))
all-take Q (suc n) (x ∷ xs) le h = All-cons Q x (take n xs) (h 0 x (omega arith)) (all-take Q n xs (omega (arith, le)) (λ k d lt. h (suc k) d (omega (arith, lt))))

pub all-drop : {X : Type 0} → (Q : X → Type 0) (n : ℕ) (xs : List X) → ((k : ℕ) (d : X) → n ≤ k → k < length xs → Q (get_or xs k d)) → All Q (drop n xs)
all-drop Q zero xs h = λ k d lt. h k d (omega arith) lt
all-drop Q (suc n) [] h = All-nil Q
all-drop Q (suc n) (x ∷ xs) h = all-drop Q n xs (λ k d le lt. h (suc k) d (omega (arith, le)) (omega (arith, lt)))

up_to : (known : List KnownInstance) (after : InstId) (at k : ℕ) (d : KnownInstance) → Rise known → FoundId known after at → k < at + 1 → is_id_past (Some after) (get_or known k d).row.id ≡ false
up_to known after at k d rise found lt = elim (cases_eq k at) [
  | inl same ↦
      let here : (get_or known k d).row.id.0 ≡ after.0 = ap (λ (i : ℕ). (get_or known i d).row.id.0) same ∙ found.is d in
      lt_not (by_octets after.0 (get_or known k d).row.id.0) Equal (ap (by_octets after.0) here ∙ tied_itself nat_list_cmp_total after.0) refl
  | inr apart ↦
      let l : by_octets (get_or known k d).row.id.0 after.0 ≡ Less = subst (λ (i : List ℕ). by_octets (get_or known k d).row.id.0 i ≡ Less) (found.is d) (rise k at d (omega (arith, lt, apart)) found.within) in
      not_lt_turned (get_or known k d).row.id.0 after.0 l
]

pub past-found_before : (known : List KnownInstance) (after : InstId) (at : ℕ) → Rise known → FoundId known after at → All (λ k. is_id_past (Some after) k.row.id ≡ false) (take (at + 1) known)
past-found_before known after at rise found =
    all-take (λ k. is_id_past (Some after) k.row.id ≡ false) (at + 1) known (let w = found.within in omega (arith, w)) (λ k d lt. up_to known after at k d rise found lt)

pub past-found_behind : (known : List KnownInstance) (after : InstId) (at : ℕ) → Rise known → FoundId known after at → All (λ k. is_id_past (Some after) k.row.id ≡ true) (drop (at + 1) known)
past-found_behind known after at rise found = all-drop (λ k. is_id_past (Some after) k.row.id ≡ true) (at + 1) known (λ k d le lt.
    lt_less (by_octets after.0 (get_or known k d).row.id.0) (subst (λ (i : List ℕ). by_octets i (get_or known k d).row.id.0 ≡ Less) (found.is d) (rise at k d (omega (arith, le)) lt)))

pub past-sought_before : (known : List KnownInstance) (after : InstId) (at : ℕ) → SoughtId known after at → All (λ k. is_id_past (Some after) k.row.id ≡ false) (take at known)
past-sought_before known after at s = all-take (λ k. is_id_past (Some after) k.row.id ≡ false) at known s.within (λ k d lt. not_lt_turned (get_or known k d).row.id.0 after.0 (s.before k d lt))

pub past-sought_behind : (known : List KnownInstance) (after : InstId) (at : ℕ) → SoughtId known after at → All (λ k. is_id_past (Some after) k.row.id ≡ true) (drop at known)
past-sought_behind known after at s = all-drop (λ k. is_id_past (Some after) k.row.id ≡ true) at known (λ k d le lt. lt_turned (get_or known k d).row.id.0 after.0 (s.behind k d le lt))

-- the first instance that passes, behind those that don't

find_step : {X : Type 0} → (p q : X → Bool) (x : X) (xs ys : List X) → p x ≡ false → find p xs ≡ find q ys → find p (x ∷ xs) ≡ find q ys
find_step p q x xs ys fails rest = rw fails rest

find-behind : {X : Type 0} → (p q : X → Bool) (n : ℕ) (xs : List X) → All (λ x. p x ≡ false) (take n xs) → All (λ x. p x ≡ q x) (drop n xs) → find p xs ≡ find q (drop n xs)
find-behind p q zero [] before behind = refl
find-behind p q zero (x ∷ xs) before behind =
    let e : p x ≡ q x = All-head (λ y. p y ≡ q y) x xs behind in
    let rest : find p xs ≡ find q xs = find-behind p q zero xs (All-nil (λ y. p y ≡ false)) (All-tail (λ y. p y ≡ q y) x xs behind) in
    rw (e, rest) refl
find-behind p q (suc n) [] before behind = refl
find-behind p q (suc n) (x ∷ xs) before behind =
    find_step p q x xs (drop n xs) (All-head (λ y. p y ≡ false) x (take n xs) before) (find-behind p q n xs (All-tail (λ y. p y ≡ false) x (take n xs) before) behind)

and_right : (a b : Bool) → b ≡ false → (a && b) ≡ false
and_right true b e = e
and_right false b e = refl

and_is : (a b : Bool) → b ≡ true → (a && b) ≡ a
and_is true b e = e
and_is false b e = refl

-- the first of those past an id that pass
pub next-is : (q : KnownInstance → Bool) (known : List KnownInstance) (after : Option InstId) (at : ℕ) → All (λ k. is_id_past after k.row.id ≡ false) (take at known) → All (λ k. is_id_past after k.row.id ≡ true) (drop at known)
    → option_map (λ (k : KnownInstance). k.row.id) (find q (take (length known - at) (drop at known))) ≡ option_map (λ (k : KnownInstance). k.row.id) (find (λ k. q k && is_id_past after k.row.id) known)
next-is q known after at before behind =
    let all : take (length known - at) (drop at known) ≡ drop at known = take_all (length known - at) (drop at known) (let l = length-drop at known in omega (arith, l)) in
    let p : KnownInstance → Bool = λ k. q k && is_id_past after k.row.id in
    let found : find p known ≡ find q (drop at known) =
    find-behind p q at known (λ k d lt. and_right (q (get_or (take at known) k d)) (is_id_past after (get_or (take at known) k d).row.id) (before k d lt))
    (λ k d lt. and_is (q (get_or (drop at known) k d)) (is_id_past after (get_or (drop at known) k d).row.id) (behind k d lt)) in
    ap (λ (ks : List KnownInstance). option_map (λ (k : KnownInstance). k.row.id) (find q ks)) all ∙ sym (ap (option_map (λ (k : KnownInstance). k.row.id)) found)

-- ---- how many hold an instance

abbrev pub held_by : InstId → ℕ → KnownInstance → KnownInstance
held_by id holders k = if has_id id k then record k { holders = holders } else k

pub row-kept : (id : InstId) (holders : ℕ) (k : KnownInstance) → (held_by id holders k).row ≡ k.row
row-kept id holders k = elim (cases_Bool (has_id id k)) [
  | inl is ↦ ap (λ (x : KnownInstance). x.row) (cond-true (has_id id k) (record k { holders = holders }) k is)
  | inr isnt ↦ ap (λ (x : KnownInstance). x.row) (cond-false (has_id id k) (record k { holders = holders }) k isnt)
]

later_apart : (x : KnownInstance) (xs : List KnownInstance) (id : InstId) → Rise (x ∷ xs) → x.row.id ≡ id → All (λ k. has_id id k ≡ false) xs
later_apart x xs id rise e = λ k d lt.
    hasnt id (get_or xs k d) (λ same. not_before_itself x.row.id.0 (get_or xs k d).row.id.0 (ap (λ (i : InstId). i.0) (e ∙ sym same)) (pairs_head R x xs rise k d lt))

first_apart : (x k : KnownInstance) (xs : List KnownInstance) (at : ℕ) → Rise (x ∷ xs) → slice_get xs at ≡ Some k → has_id k.row.id x ≡ false
first_apart x k xs at rise e =
    hasnt k.row.id x (λ same. not_before_itself x.row.id.0 k.row.id.0 (ap (λ (i : InstId). i.0) same)
    (subst (λ (y : KnownInstance). by_octets x.row.id.0 y.row.id.0 ≡ Less) (got xs at k k e) (pairs_head R x xs rise at k (is_within xs at k e))))

pub holders-none : (id : InstId) (holders : ℕ) (known : List KnownInstance) → All (λ k. has_id id k ≡ false) known → with_holders id holders known ≡ known
holders-none id holders [] none = refl
holders-none id holders (x ∷ xs) none =
    let here : held_by id holders x ≡ x = cond-false (has_id id x) (record x { holders = holders }) x (All-head (λ k. has_id id k ≡ false) x xs none) in
    let rest : with_holders id holders xs ≡ xs = holders-none id holders xs (All-tail (λ k. has_id id k ≡ false) x xs none) in
    ap (λ (y : KnownInstance). y ∷ with_holders id holders xs) here ∙ ap (λ (ys : List KnownInstance). x ∷ ys) rest

pub holders-set : (known : List KnownInstance) (at holders : ℕ) (k : KnownInstance) → Rise known → slice_get known at ≡ Some k → set known at (record k { holders = holders }) ≡ with_holders k.row.id holders known
holders-set [] at holders k rise e = absurd (let w : None ≡ Some k = e in cc)
holders-set (x ∷ xs) zero holders k rise e =
    let same : x ≡ k = (let w : Some x ≡ Some k = e in cc) in
    let has : has_id k.row.id x ≡ true = text_yes x.row.id.0 k.row.id.0 (ap (λ (y : KnownInstance). y.row.id.0) same) in
    let here : held_by k.row.id holders x ≡ record k { holders = holders } = cond-true (has_id k.row.id x) (record x { holders = holders }) x has ∙ ap (λ (y : KnownInstance). record y { holders = holders }) same in
    let rest : with_holders k.row.id holders xs ≡ xs = holders-none k.row.id holders xs (later_apart x xs k.row.id rise (ap (λ (y : KnownInstance). y.row.id) same)) in
    sym (ap (λ (y : KnownInstance). y ∷ with_holders k.row.id holders xs) here ∙ ap (λ (ys : List KnownInstance). record k { holders = holders } ∷ ys) rest)
holders-set (x ∷ xs) (suc at) holders k rise e =
    let here : held_by k.row.id holders x ≡ x = cond-false (has_id k.row.id x) (record x { holders = holders }) x (first_apart x k xs at rise e) in
    let rest : set xs at (record k { holders = holders }) ≡ with_holders k.row.id holders xs = holders-set xs at holders k (pairs_tail R x xs rise) e in
    ap (λ (ys : List KnownInstance). x ∷ ys) rest ∙ sym (ap (λ (y : KnownInstance). y ∷ with_holders k.row.id holders xs) here)

-- ---- one instance less

pub without-none : (id : InstId) (known : List KnownInstance) → All (λ k. has_id id k ≡ false) known → without_instance id known ≡ known
without-none id [] none = refl
without-none id (x ∷ xs) none =
    let kept : not (has_id id x) ≡ true = ap not (All-head (λ k. has_id id k ≡ false) x xs none) in
    cond-true (not (has_id id x)) (x ∷ without_instance id xs) (without_instance id xs) kept ∙ ap (λ (ys : List KnownInstance). x ∷ ys) (without-none id xs (All-tail (λ k. has_id id k ≡ false) x xs none))

pub without-at : (known : List KnownInstance) (at : ℕ) (k : KnownInstance) → Rise known → slice_get known at ≡ Some k → remove known at ≡ without_instance k.row.id known
without-at [] at k rise e = absurd (let w : None ≡ Some k = e in cc)
without-at (x ∷ xs) zero k rise e =
    let same : x ≡ k = (let w : Some x ≡ Some k = e in cc) in
    let has : has_id k.row.id x ≡ true = text_yes x.row.id.0 k.row.id.0 (ap (λ (y : KnownInstance). y.row.id.0) same) in
    let rest = without-none k.row.id xs (later_apart x xs k.row.id rise (ap (λ (y : KnownInstance). y.row.id) same)) in
    first xs ∙ sym (cond-false (not (has_id k.row.id x)) (x ∷ without_instance k.row.id xs) (without_instance k.row.id xs) (ap not has) ∙ rest)
  where
    first : (ys : List KnownInstance) → remove (x ∷ ys) zero ≡ ys
    first [] = refl
    first (y ∷ ys) = refl
without-at (x ∷ xs) (suc at) k rise e =
    let kept : not (has_id k.row.id x) ≡ true = ap not (first_apart x k xs at rise e) in
    ap (λ (ys : List KnownInstance). x ∷ ys) (without-at xs at k (pairs_tail R x xs rise) e) ∙ sym (cond-true (not (has_id k.row.id x)) (x ∷ without_instance k.row.id xs) (without_instance k.row.id xs) kept)

-- ---- one instance more

filter_none : {X : Type 0} → (p : X → Bool) (xs : List X) → All (λ x. p x ≡ false) xs → filter p xs ≡ []
filter_none p [] a = refl
filter_none p (x ∷ xs) a = cond-false (p x) (x ∷ filter p xs) (filter p xs) (All-head (λ y. p y ≡ false) x xs a) ∙ filter_none p xs (All-tail (λ y. p y ≡ false) x xs a)

filter_all : {X : Type 0} → (p : X → Bool) (xs : List X) → All (λ x. p x ≡ true) xs → filter p xs ≡ xs
filter_all p [] a = refl
filter_all p (x ∷ xs) a = cond-true (p x) (x ∷ filter p xs) (filter p xs) (All-head (λ y. p y ≡ true) x xs a) ∙ ap (λ (ys : List _). x ∷ ys) (filter_all p xs (All-tail (λ y. p y ≡ true) x xs a))

filter_front : {X : Type 0} → (p : X → Bool) (n : ℕ) (xs : List X) → All (λ x. p x ≡ true) (take n xs) → All (λ x. p x ≡ false) (drop n xs) → filter p xs ≡ take n xs
filter_front p zero xs a b = filter_none p xs b
filter_front p (suc n) [] a b = refl
filter_front p (suc n) (x ∷ xs) a b =
    cond-true (p x) (x ∷ filter p xs) (filter p xs) (All-head (λ y. p y ≡ true) x (take n xs) a) ∙ ap (λ (ys : List _). x ∷ ys) (filter_front p n xs (All-tail (λ y. p y ≡ true) x (take n xs) a) b)

filter_back : {X : Type 0} → (p : X → Bool) (n : ℕ) (xs : List X) → All (λ x. p x ≡ false) (take n xs) → All (λ x. p x ≡ true) (drop n xs) → filter p xs ≡ drop n xs
filter_back p zero xs a b = filter_all p xs b
filter_back p (suc n) [] a b = refl
filter_back p (suc n) (x ∷ xs) a b =
    cond-false (p x) (x ∷ filter p xs) (filter p xs) (All-head (λ y. p y ≡ false) x (take n xs) a) ∙ filter_back p n xs (All-tail (λ y. p y ≡ false) x (take n xs) a) b

pub with-at : (known : List KnownInstance) (at : ℕ) (new : KnownInstance) → All (λ k. k.row.id ≢ new.row.id) known → All (λ k. is_id_past (Some new.row.id) k.row.id ≡ false) (take at known) → All (λ k. is_id_past (Some new.row.id) k.row.id ≡ true) (drop at known)
    → insert known at new ≡ with_instance new known
with-at known at new unknown before behind =
    let front : filter (λ k. is_lt (by_octets k.row.id.0 new.row.id.0)) known ≡ take at known =
    filter_front (λ (k : KnownInstance). is_lt (by_octets k.row.id.0 new.row.id.0)) at known
    (λ k d lt. lt_less (by_octets (get_or (take at known) k d).row.id.0 new.row.id.0)
    (other_way new.row.id.0 (get_or (take at known) k d).row.id.0 (before k d lt) (λ e. in_front k d lt (same_id (get_or (take at known) k d).row.id new.row.id (sym e)))))
    (λ k d lt. not_lt_turned new.row.id.0 (get_or (drop at known) k d).row.id.0 (less_lt (by_octets new.row.id.0 (get_or (drop at known) k d).row.id.0) (behind k d lt))) in
    let back : filter (λ k. is_lt (by_octets new.row.id.0 k.row.id.0)) known ≡ drop at known = filter_back (λ (k : KnownInstance). is_lt (by_octets new.row.id.0 k.row.id.0)) at known before behind in
    sym (ap (λ (xs : List KnownInstance). xs ++ new ∷ filter (λ k. is_lt (by_octets new.row.id.0 k.row.id.0)) known) front ∙ ap (λ (xs : List KnownInstance). take at known ++ new ∷ xs) back)
  where
    in_front : All (λ k. k.row.id ≢ new.row.id) (take at known)
    in_front = All-take (λ k. k.row.id ≢ new.row.id) at known unknown

pairs_join : {X : Type 0} → (Q : X → X → Type 0) (xs ys : List X) (y : X) → ((a b c : X) → Q a b → Q b c → Q a c) → AllPairs Q xs → AllPairs Q ys → All (λ a. Q a y) xs → All (Q y) ys → AllPairs Q (xs ++ y ∷ ys)
pairs_join Q [] ys y trans pa pb la lb = AllPairs-cons Q y ys lb pb
pairs_join Q (a ∷ xs) ys y trans pa pb la lb =
    let l : Q a y = All-head (λ x. Q x y) a xs la in
    AllPairs-cons Q a (xs ++ y ∷ ys) (All-append (Q a) xs (y ∷ ys) (pairs_head Q a xs pa) (All-cons (Q a) y ys l (All-weaker (Q y) (Q a) (λ z h. trans a y z l h) ys lb)))
    (pairs_join Q xs ys y trans (pairs_tail Q a xs pa) pb (All-tail (λ x. Q x y) a xs la) lb)

pub rise-with : (known : List KnownInstance) (new : KnownInstance) → Rise known → Rise (with_instance new known)
rise-with known new rise =
    let p : KnownInstance → Bool = λ k. is_lt (by_octets k.row.id.0 new.row.id.0) in
    let q : KnownInstance → Bool = λ k. is_lt (by_octets new.row.id.0 k.row.id.0) in
    pairs_join R (filter p known) (filter q known) new (λ a b c x y. nat_list_cmp_total.trans a.row.id.0 b.row.id.0 c.row.id.0 x y) (AllPairs-filter R p known rise) (AllPairs-filter R q known rise)
    (All-weaker (λ k. p k ≡ true) (λ k. R k new) (λ k h. less_lt (by_octets k.row.id.0 new.row.id.0) h) (filter p known) (filter_passes p known))
    (All-weaker (λ k. q k ≡ true) (λ k. R new k) (λ k h. less_lt (by_octets new.row.id.0 k.row.id.0) h) (filter q known) (filter_passes q known))

pub all-with : (Q : KnownInstance → Type 0) (known : List KnownInstance) (new : KnownInstance) → All Q known → Q new → All Q (with_instance new known)
all-with Q known new a h =
    All-append Q (filter (λ k. is_lt (by_octets k.row.id.0 new.row.id.0)) known) (new ∷ filter (λ k. is_lt (by_octets new.row.id.0 k.row.id.0)) known) (All-filter _ Q known a) (All-cons Q new _ h (All-filter _ Q known a))
