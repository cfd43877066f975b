-- The lists of an entry that switches a file.
use Rattle.purge_task.proofs.Common.{◌≡◌, ◌≢◌, inl, inr, ℕ, zero, suc, ◌+◌, ◌<◌, ◌≤◌, ◌==◌, Bool, true, false, cond, Option, Some, None, List, [], ◌∷◌, ◌++◌, length, get_or, map, All, refl, sym, ap, subst, ◌∙◌, arith, AllPairs, ◌⊎◌, Contains, find, nat_lt, sum_by, list_any, IsStrictlyIncreasing}
use Rattle.purge_task.proofs.Common.{option_map, option_map_or, cases_eq, length-map, All-nil, All-head, All-tail, All-push, All-contains, All-weaker, All-contains_itself, All-filter, Contains-push, list_any-append, MapUid, MapPlace, HasRecord, MapRecord, MapMeaning, has_map_uid, record_at}
use Rattle.purge_task.proofs.Common.{IsSoundMap, equal_is, equal_yes, pairs_head, pairs_tail, pairs_nil, pairs_push, MapRow, record_from, shown_record, messages_in, AreSwitchLists, is_wanted_at}
use Rattle.std.proofs.Common.{filter}
use Rattle.std.specs.List.Sorted.{IsNonDecreasingBy, IsPermutation}
use Rattle.std.proofs.lemmas.List.{length_push}
use Rattle.std.proofs.lemmas.List.Elements.{filter_passes}
use Rattle.std.proofs.lemmas.List.Folds.{list_any_at}
use Rattle.std.proofs.lemmas.List.Kept.{AllPairs-filter}
use Rattle.std.proofs.lemmas.List.Sorted.{All-permutation, Contains-permutation, list_any-IsPermutation}
use Rattle.map_rows.specs.Orders.{times}
use Rattle.map_rows.proofs.SwitchLemmas.{times_permuted}
use Rattle.purge_task.specs.Switched.{AreDropped, AreMoved, AreUnwanted}
use Rattle.purge_task.proofs.WalkLemmas.{IsFoundRow, upto, below, below_is, unequal, found_row, none_found, sound_row, more_walked, all_walked, sum_walked, sum_within}

-- ---- numbers that differ, in order

none_at : {X : Type 0} → (f : X → ℕ) (n : ℕ) (xs : List X) → All (λ x. f x ≢ n) xs → times (λ x. f x == n) xs ≡ 0
none_at f n [] a = refl
none_at f n (x ∷ xs) a = rw (unequal (f x) n (All-head (λ y. f y ≢ n) x xs a)) (none_at f n xs (All-tail (λ y. f y ≢ n) x xs a))

apart_step : {X : Type 0} → (f : X → ℕ) (n : ℕ) (x : X) (xs : List X) (b : Bool) → (f x == n) ≡ b → All (λ y. f x ≢ f y) xs → times (λ y. f y == n) xs ≤ 1 → cond b (1 + times (λ y. f y == n) xs) (times (λ y. f y == n) xs) ≤ 1
apart_step f n x xs true e a h = let z = none_at f n xs (All-weaker (λ y. f x ≢ f y) (λ y. f y ≢ n) (λ y other s. other (equal_is (f x) n e ∙ sym s)) xs a) in omega (arith, z)
apart_step f n x xs false e a h = h

-- numbers that differ stand there once
apart_once : {X : Type 0} → (f : X → ℕ) (n : ℕ) (xs : List X) → AllPairs (λ a b. f a ≢ f b) xs → times (λ x. f x == n) xs ≤ 1
apart_once f n [] p = omega arith
apart_once f n (x ∷ xs) p = apart_step f n x xs (f x == n) refl (pairs_head (λ a b. f a ≢ f b) x xs p) (apart_once f n xs (pairs_tail (λ a b. f a ≢ f b) x xs p))

more : (b : Bool) (n : ℕ) → 1 ≤ n → 1 ≤ cond b (1 + n) n
more true n h = omega arith
more false n h = h

no_less : (b : Bool) (n : ℕ) → 2 ≤ n → 2 ≤ cond b (1 + n) n
no_less true n h = omega (arith, h)
no_less false n h = h

counted_at : {X : Type 0} → (p : X → Bool) (xs : List X) (j : ℕ) (d : X) → j < length xs → p (get_or xs j d) ≡ true → 1 ≤ times p xs
counted_at p [] j d lt e = absurd (omega (arith, lt))
counted_at p (x ∷ xs) zero d lt e = rw e (omega arith)
counted_at p (x ∷ xs) (suc j) d lt e = more (p x) (times p xs) (counted_at p xs j d (omega (arith, lt)) e)

counted_twice : {X : Type 0} → (p : X → Bool) (xs : List X) (i j : ℕ) (d : X) → i < j → j < length xs → p (get_or xs i d) ≡ true → p (get_or xs j d) ≡ true → 2 ≤ times p xs
counted_twice p [] i j d l lt e f = absurd (omega (arith, lt))
counted_twice p (x ∷ xs) i zero d l lt e f = absurd (omega (arith, l))
counted_twice p (x ∷ xs) zero (suc j) d l lt e f = rw e (let r = counted_at p xs j d (omega (arith, lt)) f in omega (arith, r))
counted_twice p (x ∷ xs) (suc i) (suc j) d l lt e f = no_less (p x) (times p xs) (counted_twice p xs i j d (omega (arith, l)) (omega (arith, lt)) e f)

pub mapped_at : {X : Type 0} → (f : X → ℕ) (xs : List X) (k : ℕ) (d : X) → k < length xs → get_or (map f xs) k 0 ≡ f (get_or xs k d)
mapped_at f [] k d lt = absurd (omega (arith, lt))
mapped_at f (x ∷ xs) zero d lt = refl
mapped_at f (x ∷ xs) (suc k) d lt = mapped_at f xs k d (omega (arith, lt))

rises_at : {X : Type 0} → (f : X → ℕ) (xs ys : List X) (k : ℕ) (d : X) → AllPairs (λ a b. f a ≢ f b) xs → IsPermutation xs ys → IsNonDecreasingBy f ys → k + 1 < length ys → f (get_or ys k d) < f (get_or ys (k + 1) d)
rises_at f xs ys k d apart same sorted lt =
    let up : f (get_or ys k d) ≤ f (get_or ys (k + 1) d) = sorted k (k + 1) d (omega arith) lt in
    elim (cases_eq (f (get_or ys k d)) (f (get_or ys (k + 1) d))) [
      | inl tie ↦ (
          let two = counted_twice (λ x. f x == f (get_or ys (k + 1) d)) ys k (k + 1) d (omega arith) lt (equal_yes _ _ tie) (equal_yes (f (get_or ys (k + 1) d)) (f (get_or ys (k + 1) d)) refl) in
          let one = apart_once f (f (get_or ys (k + 1) d)) xs apart in
          let as_many = times_permuted (λ x. f x == f (get_or ys (k + 1) d)) xs ys same in
          absurd (omega (arith, two, one, as_many))
          )
      | inr apart_too ↦ omega (arith, up, apart_too)
    ]

-- a list in order whose numbers differ rises
pub rises : {X : Type 0} → (f : X → ℕ) (xs ys : List X) → AllPairs (λ a b. f a ≢ f b) xs → IsPermutation xs ys → IsNonDecreasingBy f ys → IsStrictlyIncreasing (map f ys)
rises f xs [] apart same sorted = λ k lt. absurd (omega (arith, lt))
rises f xs (y ∷ ys) apart same sorted = λ k lt.
    let long = length-map (y ∷ ys) f in
    let l : k + 1 < length (y ∷ ys) = omega (arith, lt, long) in
    let h = rises_at f xs (y ∷ ys) k y apart same sorted l in
    let a = mapped_at f (y ∷ ys) k y (omega (arith, l)) in
    let b = mapped_at f (y ∷ ys) (k + 1) y l in
    omega (arith, h, a, b)

-- ---- what a filter keeps

kept_step : {X : Type 0} → (p : X → Bool) (b : Bool) (y x : X) (kept : List X) → p y ≡ b → p x ≡ true → (y ≡ x) ⊎ Contains kept x → Contains (cond b (y ∷ kept) kept) x
kept_step p true y x kept e passes (inl same) = (zero, omega arith, same)
kept_step p true y x kept e passes (inr has) = (let lt = has.1 in (suc has.0, omega (arith, lt), has.2))
kept_step p false y x kept e passes (inl same) = absurd (let w : false ≡ true = sym e ∙ ap p same ∙ passes in cc w)
kept_step p false y x kept e passes (inr has) = has

pub contains_filter : {X : Type 0} → (p : X → Bool) (xs : List X) (x : X) → Contains xs x → p x ≡ true → Contains (filter p xs) x
contains_filter p [] x (k, lt, e) passes = absurd (omega (arith, lt))
contains_filter p (y ∷ ys) x (zero, lt, e) passes = kept_step p (p y) y x (filter p ys) refl passes (inl e)
contains_filter p (y ∷ ys) x (suc k, lt, e) passes = kept_step p (p y) y x (filter p ys) refl passes (inr (contains_filter p ys x (k, omega (arith, lt), e) passes))

-- ---- wanted or not

wanted_as : (o : Option MapRecord) → option_map_or (λ row. nat_lt 0 row.count) o false ≡ true → (row : MapRecord) × (o ≡ Some row) × (1 ≤ row.count)
wanted_as None e = absurd (let w : false ≡ true = e in cc w)
wanted_as (Some row) e = (let lt = below_is 0 row.count e in (row, refl, omega (arith, lt)))

wanted_record : (m : MapMeaning) (uid : ℕ) → is_wanted_at m uid ≡ true → HasRecord m uid (λ row. 1 ≤ row.count)
wanted_record m uid e = wanted_as (record_at m uid) e

record_wanted : (m : MapMeaning) (uid : ℕ) → HasRecord m uid (λ row. 1 ≤ row.count) → is_wanted_at m uid ≡ true
record_wanted m uid h = let some = h.2 in rw h.1 (below 0 h.0.count (omega (arith, some)))

-- ---- what is moved

pub moved_are : (m : MapMeaning) (copied kept moved : List MapPlace) → AllPairs (λ a b. a.uid.0 ≢ b.uid.0) copied → kept ≡ filter (λ p. is_wanted_at m p.uid.0) copied → IsPermutation kept moved → IsNonDecreasingBy (λ p. p.uid.0) moved → AreMoved m copied moved
moved_are m copied kept moved once is same sorted =
    let test : MapPlace → Bool = λ p. is_wanted_at m p.uid.0 in
    let apart : AllPairs (λ a b. a.uid.0 ≢ b.uid.0) kept = subst (AllPairs (λ a b. a.uid.0 ≢ b.uid.0)) (sym is) (AllPairs-filter (λ a b. a.uid.0 ≢ b.uid.0) test copied once) in
    let here : All (λ p. Contains copied p × HasRecord m p.uid.0 (λ row. 1 ≤ row.count)) kept = subst (All (λ p. Contains copied p × HasRecord m p.uid.0 (λ row. 1 ≤ row.count))) (sym is)
    (λ k d lt. (All-filter test (Contains copied) copied (All-contains_itself copied) k d lt, wanted_record m (get_or (filter test copied) k d).uid.0 (filter_passes test copied k d lt))) in
    record {
      rising = rises (λ p. p.uid.0) kept moved apart same sorted;
      copied_are = All-permutation (λ p. Contains copied p × HasRecord m p.uid.0 (λ row. 1 ≤ row.count)) kept moved same here;
      every = λ k d lt wanted. Contains-permutation kept moved (get_or copied k d) same (subst (λ (ps : List MapPlace). Contains ps (get_or copied k d)) (sym is) (contains_filter test copied (get_or copied k d) (All-contains_itself copied k d lt) (record_wanted m (get_or copied k d).uid.0 wanted)));
    }

-- ---- the record of a map uid

pub at_uid : (rows : List MapRecord) (r : MapRecord) → AllPairs (λ a b. a.uid < b.uid) rows → Contains rows r → find (λ o. o.uid == r.uid) rows ≡ Some r
at_uid [] r rising (k, lt, e) = absurd (omega (arith, lt))
at_uid (x ∷ xs) r rising (zero, lt, e) = rw (equal_yes x.uid r.uid (ap (λ (o : MapRecord). o.uid) e)) (ap Some e)
at_uid (x ∷ xs) r rising (suc k, lt, e) =
    let l = All-contains (λ b. x.uid < b.uid) xs r (pairs_head (λ a b. a.uid < b.uid) x xs rising) (k, omega (arith, lt), e) in
    rw (unequal x.uid r.uid (λ s. omega (arith, s, l))) (at_uid xs r (pairs_tail (λ a b. a.uid < b.uid) x xs rising) (k, omega (arith, lt), e))

pub record_there : (m : MapMeaning) (r : MapRecord) → IsSoundMap m → Contains m.records r → record_at m r.uid ≡ Some r
record_there m r sound has = at_uid m.records r sound.rising has

-- ---- what is dropped

-- the records of the file with count 0 that begin before this offset
pub record AreUnwantedTo (m : MapMeaning) (file from : ℕ) (uids : List MapUid) : Type 0 where
  pub once : AllPairs (λ a b. a.0 ≢ b.0) uids
  pub here : All (λ u. HasRecord m u.0 (λ row. (row.file ≡ file) × (row.count ≡ 0) × (row.offset < from))) uids
  pub every : All (λ row. row.file ≡ file → row.offset < from → row.count ≡ 0 → has_map_uid row.uid uids ≡ true) m.records
  pub few : length uids ≤ sum_by (upto file from (λ o. 1)) m.records

pub unwanted_begins : (m : MapMeaning) (file : ℕ) (uids : List MapUid) → uids ≡ [] → AreUnwantedTo m file 0 uids
unwanted_begins m file uids e = subst (AreUnwantedTo m file 0) (sym e) (record {
  once = pairs_nil (λ a b. a.0 ≢ b.0);
  here = All-nil (λ u. HasRecord m u.0 (λ row. (row.file ≡ file) × (row.count ≡ 0) × (row.offset < 0)));
  every = λ k d lt here low. absurd (omega (arith, low));
  few = omega arith;
})

here_later : (m : MapMeaning) (file from end : ℕ) (uids : List MapUid) → from ≤ end → All (λ u. HasRecord m u.0 (λ row. (row.file ≡ file) × (row.count ≡ 0) × (row.offset < from))) uids → All (λ u. HasRecord m u.0 (λ row. (row.file ≡ file) × (row.count ≡ 0) × (row.offset < end))) uids
here_later m file from end uids le a = All-weaker (λ u. HasRecord m u.0 (λ row. (row.file ≡ file) × (row.count ≡ 0) × (row.offset < from))) (λ u. HasRecord m u.0 (λ row. (row.file ≡ file) × (row.count ≡ 0) × (row.offset < end))) (λ u h. (let lt = h.2.2 in (h.0, h.1, (h.2.0, h.2.1, omega (arith, lt, le))))) uids a

-- a record that is wanted is passed over
pub unwanted_passes : (m : MapMeaning) (file from : ℕ) (row : MapRow) (uids : List MapUid) → IsSoundMap m → Some row ≡ option_map shown_record (record_from m file from) → (row.count ≡ 0 → ⊥) → AreUnwantedTo m file from uids → AreUnwantedTo m file (row.offset + row.size) uids
unwanted_passes m file from row uids sound e wanted so =
    let b = found_row m file from row e in
    let r = b.0 in
    let found = b.2 in
    let counts = ap (λ (w : MapRow). w.count) b.1 in
    let sum = sum_walked m file from r (λ o. 1) sound found in
    let few = so.few in
    let low = found.behind in
    let end : ℕ = r.offset + r.size in
    subst (λ (x : MapRow). AreUnwantedTo m file (x.offset + x.size) uids) (sym b.1) (record {
      once = so.once;
      here = here_later m file from (r.offset + r.size) uids (omega (arith, low)) so.here;
      every = more_walked m file from r (λ o. o.count ≡ 0 → has_map_uid o.uid uids ≡ true) sound found (λ none. absurd (wanted (counts ∙ none))) so.every;
      few = omega (arith, few, sum);
    })

other_uid : (m : MapMeaning) (r : MapRecord) (u from : ℕ) → record_at m r.uid ≡ Some r → from ≤ r.offset → (h : HasRecord m u (λ row. row.offset < from)) → u ≢ r.uid
other_uid m r u from at low h same =
    let e : Some h.0 ≡ Some r = sym h.1 ∙ ap (record_at m) same ∙ at in
    let is : h.0 ≡ r = cc e in
    let lt = h.2 in
    let o = ap (λ (x : MapRecord). x.offset) is in
    omega (arith, lt, low, o)

any_left : {X : Type 0} → (p : X → Bool) (xs ys : List X) → list_any p xs ≡ true → list_any p (xs ++ ys) ≡ true
any_left p xs ys e = list_any-append p xs ys ∙ rw e refl

any_last : {X : Type 0} → (p : X → Bool) (xs : List X) (y : X) → p y ≡ true → list_any p (xs ++ y ∷ []) ≡ true
any_last p xs y e = let has = Contains-push xs y in list_any_at p (xs ++ y ∷ []) has.0 y has.1 (rw has.2 e)

added : (m : MapMeaning) (file from : ℕ) (r : MapRecord) (uids : List MapUid) → IsSoundMap m → IsFoundRow m file from r → r.count ≡ 0 → AreUnwantedTo m file from uids → AreUnwantedTo m file (r.offset + r.size) (uids ++ record { 0 = r.uid } ∷ [])
added m file from r uids sound found none so =
    let at = record_there m r sound found.has in
    let some = (sound_row m r sound found.has).size in
    let sum = sum_walked m file from r (λ o. 1) sound found in
    let few = so.few in
    let low = found.behind in
    let long = length_push uids (record { 0 = r.uid }) in
    let last : MapUid = record { 0 = r.uid } in
    record {
      once = pairs_push (λ a b. a.0 ≢ b.0) uids last so.once (All-weaker (λ u. HasRecord m u.0 (λ row. (row.file ≡ file) × (row.count ≡ 0) × (row.offset < from))) (λ u. u.0 ≢ r.uid) (λ u h. other_uid m r u.0 from at low (h.0, h.1, h.2.2)) uids so.here);
      here = All-push (λ u. HasRecord m u.0 (λ row. (row.file ≡ file) × (row.count ≡ 0) × (row.offset < r.offset + r.size))) uids last (here_later m file from (r.offset + r.size) uids (omega (arith, low)) so.here) (r, at, (found.here, none, omega (arith, some)));
      every = more_walked m file from r (λ o. o.count ≡ 0 → has_map_uid o.uid (uids ++ last ∷ []) ≡ true) sound found (λ _. any_last (λ u. u.0 == r.uid) uids last (equal_yes r.uid r.uid refl)) (λ k d lt here before zero_count. any_left (λ u. u.0 == (get_or m.records k d).uid) uids (last ∷ []) (so.every k d lt here before zero_count));
      few = omega (arith, few, sum, long);
    }

-- one that isn't is listed
pub unwanted_adds : (m : MapMeaning) (file from : ℕ) (row : MapRow) (uids : List MapUid) → IsSoundMap m → Some row ≡ option_map shown_record (record_from m file from) → row.count ≡ 0 → AreUnwantedTo m file from uids → AreUnwantedTo m file (row.offset + row.size) (uids ++ row.uid ∷ [])
unwanted_adds m file from row uids sound e none so =
    let b = found_row m file from row e in
    subst (λ (x : MapRow). AreUnwantedTo m file (x.offset + x.size) (uids ++ x.uid ∷ [])) (sym b.1) (added m file from b.0 uids sound b.2 (sym (ap (λ (w : MapRow). w.count) b.1) ∙ none) so)

-- there is room for one more
pub room_for_one : (m : MapMeaning) (file from : ℕ) (row : MapRow) (uids : List MapUid) (capacity : ℕ) → IsSoundMap m → Some row ≡ option_map shown_record (record_from m file from) → AreUnwantedTo m file from uids → messages_in m file ≤ capacity → length uids < capacity
room_for_one m file from row uids capacity sound e so enough =
    let b = found_row m file from row e in
    let sum = sum_walked m file from b.0 (λ o. 1) sound b.2 in
    let within = sum_within m file (b.0.offset + b.0.size) (λ o. 1) in
    let few = so.few in
    omega (arith, sum, within, few, enough)

pub unwanted_ends : (m : MapMeaning) (file from : ℕ) (uids : List MapUid) → None ≡ option_map shown_record (record_from m file from) → AreUnwantedTo m file from uids → AreUnwanted m file uids
unwanted_ends m file from uids e so = record {
  once = so.once;
  here = All-weaker (λ u. HasRecord m u.0 (λ row. (row.file ≡ file) × (row.count ≡ 0) × (row.offset < from))) (λ u. HasRecord m u.0 (λ row. (row.file ≡ file) × (row.count ≡ 0))) (λ u h. (h.0, h.1, (h.2.0, h.2.1))) uids so.here;
  every = all_walked m file from (λ o. o.count ≡ 0 → has_map_uid o.uid uids ≡ true) (none_found m file from e) so.every;
}

pub dropped_are : (m : MapMeaning) (file : ℕ) (uids sorted : List MapUid) → AreUnwanted m file uids → IsPermutation uids sorted → IsNonDecreasingBy (λ u. u.0) sorted → AreDropped m file sorted
dropped_are m file uids sorted are same rising = record {
  rising = rises (λ u. u.0) uids sorted are.once same rising;
  here = All-permutation (λ u. HasRecord m u.0 (λ row. (row.file ≡ file) × (row.count ≡ 0))) uids sorted same are.here;
  every = λ k d lt here none. sym (list_any-IsPermutation (λ u. u.0 == (get_or m.records k d).uid) uids sorted same) ∙ are.every k d lt here none;
}

pub lists_are : (m : MapMeaning) (file : ℕ) (copied moved : List MapPlace) (dropped : List MapUid) → AreMoved m copied moved → AreDropped m file dropped → AreSwitchLists m file copied moved dropped
lists_are m file copied moved dropped a b = record {
  moved_rising = a.rising;
  moved_copied = a.copied_are;
  copied_moved = a.every;
  dropped_rising = b.rising;
  dropped_here = b.here;
  each_dropped = b.every;
}
