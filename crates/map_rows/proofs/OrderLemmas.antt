-- What a search finds among keys in order of number.
use Rattle.std.specs.Prelude.{insert}
use Rattle.map_rows.proofs.Common.{◌≡◌, ◌≢◌, inl, inr, ℕ, zero, suc, ◌-◌, ◌<◌, ◌≤◌, ◌==◌, Bool, true, false, List, [], ◌∷◌, ◌++◌, length, take, drop, slice_get, get_or, filter, find, fold, Option, Some, None, Result, Ok, Err, All, refl, sym, ◌∙◌, ap, arith, nat_lt, nat_le, IsSearchInRange}
use Rattle.map_rows.proofs.Common.{IsBinarySearchResult, IsNonDecreasingBy, nat_cmp, ranked, cases_lt, cases_eq, nat_tests, slice_get_past, All-cons, All-head, All-tail, All-weaker, AllPairs-cons, AllPairs-filter, find_at, pairs_head, pairs_tail, OrderKey, OrderValue, NumbersRise, last_of, with_key}
use Rattle.std.proofs.Common.{IfOk, IfErr}
use Rattle.std.specs.Ordering.{ordering_index}
use Rattle.std.proofs.lemmas.List.Elements.{All-append, filter_passes}
use Rattle.std.proofs.lemmas.List.Sums.{position_or_len_is}
use Rattle.map_rows.proofs.SearchLemmas.{below_last}
use Rattle.map_rows.specs.Orders.{IsFoundAt, IsPlaceFor, IsFirstFrom}

-- the answers of a search rise along the keys
answers_rise : (keys : List OrderKey) (n : ℕ) → NumbersRise keys → IsNonDecreasingBy (λ k. ordering_index (nat_cmp k.number n)) keys
answers_rise keys n rise i j d le lt =
    let up : (get_or keys i d).number ≤ (get_or keys j d).number = elim (cases_eq i j) [
      | inl same ↦ let e : (get_or keys i d).number ≡ (get_or keys j d).number = ap (λ (k : ℕ). (get_or keys k d).number) same in omega (arith, e)
      | inr apart ↦ let l : (get_or keys i d).number < (get_or keys j d).number = rise i j d (omega (arith, le, apart)) lt in omega (arith, l)
    ] in
    higher (get_or keys i d).number (get_or keys j d).number up
  where
    higher : (a b : ℕ) → a ≤ b → ordering_index (nat_cmp a n) ≤ ordering_index (nat_cmp b n)
    higher a b le = grind (arith, nat_tests)

pub searched : (keys : List OrderKey) (n : ℕ) → NumbersRise keys → (r : Result ℕ ℕ) → IsSearchInRange r (length keys) → IsBinarySearchResult (λ k. nat_cmp k.number n) keys r
    → IfOk r (IsFoundAt keys n) × IfErr r (IsPlaceFor keys n)
searched keys n rise (Ok at) within equal = (record { within = within; is = λ d. ranked _ n _ (sym (equal d)) }, tt)
searched keys n rise (Err at) within parted = (
  tt,
  record {
    within = within;
    before = λ k d lt. ranked _ n _ (sym ((parted (answers_rise keys n rise)).0 k d (omega arith) lt));
    behind = λ k d le lt. ranked _ n _ (sym ((parted (answers_rise keys n rise)).1 k d le lt));
  },
)

-- ---- keys before a place, and from it on

-- some key, for lists that have none
nowhere : OrderKey
nowhere = record { number = 0; uid = record { 0 = 0 } }

pub found_first : (keys : List OrderKey) (n at : ℕ) → NumbersRise keys → IsFoundAt keys n at → IsFirstFrom keys n at
found_first keys n at rise f = record {
  within = (let w = f.within in omega (arith, w));
  before = λ k d lt. let l : (get_or keys k d).number < (get_or keys at d).number = rise k at d lt f.within in let e : (get_or keys at d).number ≡ n = f.is d in omega (arith, l, e);
  behind = λ k d le lt. let e : (get_or keys at d).number ≡ n = f.is d in elim (cases_eq at k) [
    | inl same ↦ let s : (get_or keys at d).number ≡ (get_or keys k d).number = ap (λ (i : ℕ). (get_or keys i d).number) same in omega (arith, s, e)
    | inr apart ↦ let l : (get_or keys at d).number < (get_or keys k d).number = rise at k d (omega (arith, le, apart)) lt in omega (arith, l, e)
  ];
}

pub place_first : (keys : List OrderKey) (n at : ℕ) → IsPlaceFor keys n at → IsFirstFrom keys n at
place_first keys n at p = record {
  within = p.within;
  before = λ k d lt. p.before k d lt;
  behind = λ k d le lt. let l = p.behind k d le lt in omega (arith, l);
}

less : (a b : ℕ) → a < b → nat_lt a b ≡ true
less a b h = grind (arith, nat_tests, h)

not_less : (a b : ℕ) → b ≤ a → nat_lt a b ≡ false
not_less a b h = grind (arith, nat_tests, h)

at_most : (a b : ℕ) → a ≤ b → nat_le a b ≡ true
at_most a b h = grind (arith, nat_tests, h)

not_at_most : (a b : ℕ) → b < a → nat_le a b ≡ false
not_at_most a b h = grind (arith, nat_tests, h)

equal : (a b : ℕ) → a ≡ b → (a == b) ≡ true
equal a b h = grind (arith, nat_tests, h)

unequal : (a b : ℕ) → a ≢ b → (a == b) ≡ false
unequal a b h = grind (arith, nat_tests, h)

-- what passes is what stands before a place
filter_front : (p : OrderKey → Bool) (keys : List OrderKey) (at : ℕ) → ((k : ℕ) (d : OrderKey) → k < at → k < length keys → p (get_or keys k d) ≡ true) → ((k : ℕ) (d : OrderKey) → at ≤ k → k < length keys → p (get_or keys k d) ≡ false) → filter p keys ≡ take at keys
filter_front p [] zero hits miss = refl
filter_front p [] (suc at) hits miss = refl
filter_front p (x ∷ keys) zero hits miss =
    let h : p x ≡ false = miss 0 x (omega arith) (omega arith) in
    rw h (filter_front p keys zero (λ k d lt le. absurd (omega (arith, lt))) (λ k d le lt. miss (suc k) d (omega arith) (omega (arith, lt))) ∙ none keys)
  where
    none : (ys : List OrderKey) → take 0 ys ≡ []
    none [] = refl
    none (y ∷ ys) = refl
filter_front p (x ∷ keys) (suc at) hits miss =
    let h : p x ≡ true = hits 0 x (omega arith) (omega arith) in
    rw h (ap (λ (ys : List OrderKey). x ∷ ys) (filter_front p keys at (λ k d lt le. hits (suc k) d (omega (arith, lt)) (omega (arith, le))) (λ k d le lt. miss (suc k) d (omega (arith, le)) (omega (arith, lt)))))

-- what passes is what stands from a place on
filter_back : (p : OrderKey → Bool) (keys : List OrderKey) (at : ℕ) → ((k : ℕ) (d : OrderKey) → k < at → k < length keys → p (get_or keys k d) ≡ false) → ((k : ℕ) (d : OrderKey) → at ≤ k → k < length keys → p (get_or keys k d) ≡ true) → filter p keys ≡ drop at keys
filter_back p [] zero miss hits = refl
filter_back p [] (suc at) miss hits = refl
filter_back p (x ∷ keys) zero miss hits =
    let h : p x ≡ true = hits 0 x (omega arith) (omega arith) in
    rw h (ap (λ (ys : List OrderKey). x ∷ ys) (filter_back p keys zero (λ k d lt le. absurd (omega (arith, lt))) (λ k d le lt. hits (suc k) d (omega arith) (omega (arith, lt))) ∙ all keys))
  where
    all : (ys : List OrderKey) → drop 0 ys ≡ ys
    all [] = refl
    all (y ∷ ys) = refl
filter_back p (x ∷ keys) (suc at) miss hits =
    let h : p x ≡ false = miss 0 x (omega arith) (omega arith) in
    rw h (filter_back p keys at (λ k d lt le. miss (suc k) d (omega (arith, lt)) (omega (arith, le))) (λ k d le lt. hits (suc k) d (omega (arith, le)) (omega (arith, lt))))

-- ---- look-ups

find_first : (p : OrderKey → Bool) (keys : List OrderKey) (at : ℕ) → at ≤ length keys → ((k : ℕ) → k < at → p (get_or keys k nowhere) ≡ false) → (at < length keys → p (get_or keys at nowhere) ≡ true) → find p keys ≡ slice_get keys at
find_first p keys at within miss hits = find_at p keys ∙ ap (slice_get keys) (position_or_len_is p keys at nowhere within miss hits)

pub found_is : (keys : List OrderKey) (n at : ℕ) → NumbersRise keys → IsFoundAt keys n at → find (λ k. k.number == n) keys ≡ slice_get keys at
found_is keys n at rise f =
    find_first (λ k. k.number == n) keys at (let w = f.within in omega (arith, w))
    (λ k lt. unequal _ n (λ e. let l : (get_or keys k nowhere).number < (get_or keys at nowhere).number = rise k at nowhere lt f.within in let s = f.is nowhere in omega (arith, l, s, e)))
    (λ lt. equal _ n (f.is nowhere))

pub absent_is : (keys : List OrderKey) (n at : ℕ) → IsPlaceFor keys n at → find (λ k. k.number == n) keys ≡ None
absent_is keys n at p =
    find_first (λ k. k.number == n) keys (length keys) (omega arith)
    (λ k lt. unequal _ n (λ e. elim (cases_lt k at) [
      | inl before ↦ let l = p.before k nowhere before in omega (arith, l, e)
      | inr behind ↦ let l = p.behind k nowhere behind lt in omega (arith, l, e)
    ]))
    (λ lt. absurd (omega (arith, lt)))
    ∙ slice_get_past keys (length keys) (omega arith)

pub first_is : (keys : List OrderKey) (n at : ℕ) → IsFirstFrom keys n at → find (λ k. nat_le n k.number) keys ≡ slice_get keys at
first_is keys n at p =
    find_first (λ k. nat_le n k.number) keys at p.within
    (λ k lt. let l = p.before k nowhere lt in not_at_most n _ l)
    (λ lt. at_most n _ (p.behind at nowhere (omega arith) lt))

pub below_is : (keys : List OrderKey) (n at : ℕ) → IsFirstFrom keys n at → filter (λ k. nat_lt k.number n) keys ≡ take at keys
below_is keys n at p = filter_front (λ k. nat_lt k.number n) keys at (λ k d lt le. less _ n (p.before k d lt)) (λ k d le lt. not_less _ n (p.behind k d le lt))

last_from : (a : Option OrderKey) (keys : List OrderKey) (at : ℕ) → at < length keys → fold (λ last key. Some key) a (take (suc at) keys) ≡ slice_get keys at
last_from a [] at lt = absurd (omega (arith, lt))
last_from a (x ∷ keys) zero lt = first keys
  where
    first : (ys : List OrderKey) → fold (λ last key. Some key) (Some x) (take 0 ys) ≡ Some x
    first [] = refl
    first (y ∷ ys) = refl
last_from a (x ∷ keys) (suc at) lt = last_from (Some x) keys at (omega (arith, lt))

pub last_is : (keys : List OrderKey) (n at : ℕ) → IsFirstFrom keys n at → 1 ≤ at → last_of (filter (λ k. nat_lt k.number n) keys) ≡ slice_get keys (at - 1)
last_is keys n at p some =
    let w = p.within in
    let one : at ≡ suc (at - 1) = omega (arith, some) in
    ap last_of (below_is keys n at p ∙ ap (λ (i : ℕ). take i keys) one) ∙ last_from None keys (at - 1) (omega (arith, w, some))

pub none_below : (keys : List OrderKey) (n at : ℕ) → IsFirstFrom keys n at → at ≡ 0 → last_of (filter (λ k. nat_lt k.number n) keys) ≡ None
none_below keys n at p zero_is = ap last_of (below_is keys n at p ∙ ap (λ (i : ℕ). take i keys) zero_is ∙ nothing keys)
  where
    nothing : (ys : List OrderKey) → take 0 ys ≡ []
    nothing [] = refl
    nothing (y ∷ ys) = refl

-- ---- changes

pub inserted_is : (key : OrderKey) (keys : List OrderKey) (at : ℕ) → IsPlaceFor keys key.number at → insert keys at key ≡ with_key key keys
inserted_is key keys at p =
    let front = below_is keys key.number at (place_first keys key.number at p) in
    let back : filter (λ k. nat_lt key.number k.number) keys ≡ drop at keys = filter_back (λ k. nat_lt key.number k.number) keys at (λ k d lt le. let l = p.before k d lt in not_less key.number _ (omega (arith, l))) (λ k d le lt. less key.number _ (p.behind k d le lt)) in
    sym (ap (λ (ys : List OrderKey). ys ++ key ∷ filter (λ k. nat_lt key.number k.number) keys) front ∙ ap (λ (ys : List OrderKey). take at keys ++ key ∷ ys) back)

rises_between : (A : List OrderKey) (key : OrderKey) (B : List OrderKey) → NumbersRise A → All (λ a. a.number < key.number) A → NumbersRise B → All (λ b. key.number < b.number) B → NumbersRise (A ++ key ∷ B)
rises_between [] key B p a q b = AllPairs-cons (λ x y. x.number < y.number) key B b q
rises_between (x ∷ A) key B p a q b =
    let first : x.number < key.number = All-head (λ y. y.number < key.number) x A a in
    AllPairs-cons (λ y z. y.number < z.number) x (A ++ key ∷ B)
    (All-append (λ y. x.number < y.number) A (key ∷ B) (pairs_head (λ y z. y.number < z.number) x A p) (All-cons (λ y. x.number < y.number) key B first (All-weaker (λ y. key.number < y.number) (λ y. x.number < y.number) (λ y l. omega (arith, l, first)) B b)))
    (rises_between A key B (pairs_tail (λ y z. y.number < z.number) x A p) (All-tail (λ y. y.number < key.number) x A a) q b)

less_is : (a b : ℕ) → nat_lt a b ≡ true → a < b
less_is a b h = grind (arith, nat_tests, h)

pub with_rises : (key : OrderKey) (keys : List OrderKey) → NumbersRise keys → NumbersRise (with_key key keys)
with_rises key keys rise =
    rises_between (filter (λ k. nat_lt k.number key.number) keys) key (filter (λ k. nat_lt key.number k.number) keys)
    (AllPairs-filter (λ x y. x.number < y.number) (λ k. nat_lt k.number key.number) keys rise)
    (All-weaker (λ k. nat_lt k.number key.number ≡ true) (λ k. k.number < key.number) (λ k h. less_is _ _ h) _ (filter_passes (λ k. nat_lt k.number key.number) keys))
    (AllPairs-filter (λ x y. x.number < y.number) (λ k. nat_lt key.number k.number) keys rise)
    (All-weaker (λ k. nat_lt key.number k.number ≡ true) (λ k. key.number < k.number) (λ k h. less_is _ _ h) _ (filter_passes (λ k. nat_lt key.number k.number) keys))

-- ---- for the calls

abbrev of_order : List OrderKey → ℕ → OrderValue
of_order keys room = record { keys = keys; room = room }

pub same_value : (keys keys' : List OrderKey) (room room' : ℕ) → keys ≡ keys' → room ≡ room' → of_order keys room ≡ of_order keys' room'
same_value keys keys' room room' p q = cc (p, q)

some_there : (keys : List OrderKey) (at : ℕ) → at < length keys → slice_get keys at ≡ None → ⊥
some_there [] at lt e = omega (arith, lt)
some_there (x ∷ keys) zero lt e = let w : Some x ≡ None = e in cc w
some_there (x ∷ keys) (suc at) lt e = some_there keys at (omega (arith, lt)) e

-- a number that was found isn't new
pub not_new : (keys : List OrderKey) (n at : ℕ) → NumbersRise keys → IsFoundAt keys n at → find (λ k. k.number == n) keys ≡ None → ⊥
not_new keys n at rise f e = some_there keys at f.within (sym (found_is keys n at rise f) ∙ e)

-- a number that is greater than the last key's stands behind all keys
pub behind_last : (keys : List OrderKey) (last : OrderKey) (n : ℕ) → NumbersRise keys → Some last ≡ slice_get keys (length keys - 1) → last.number < n → IsPlaceFor keys n (length keys)
behind_last keys last n rise is lt = record {
  within = omega arith;
  before = λ k d below. below_last (λ (key : OrderKey). key.number) keys last n k d rise is lt below;
  behind = λ k d le within. absurd (omega (arith, le, within));
}
