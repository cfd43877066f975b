-- The record of the first key from a number on, and of the last below one.
use Rattle.map_rows.proofs.Common.{◌⊎◌, nat_le, nat_lt, ◌≡◌, ◌+◌, ◌<◌, ◌≤◌, ◌==◌, ◌&&◌, ◌||◌, ℕ, Bool, true, false, not, cond, Option, Some, None, List, [], ◌∷◌, filter, find, fold, All, refl, sym, ◌∙◌, ap, subst, inl, inr, arith, nat_tests, All-nil, All-cons, All-head, All-tail, All-weaker}
use Rattle.map_rows.proofs.Common.{pairs_head, pairs_tail, found_holds, found_none, OrderKey, NumbersRise, times, AreKeysOf, last_of}
use Rattle.map_rows.proofs.MemberLemmas.{some_counted, find_counted, none_counted, no_count, found_by, both, same_number}

-- ---- what all keys have, all rows have

-- where no element passes, nothing is found
pub none_found : {X : Type 0} → (p : X → Bool) (xs : List X) → All (λ x. p x ≡ false) xs → find p xs ≡ None
none_found p [] a = refl
none_found p (x ∷ xs) a = let h : p x ≡ false = All-head (λ y. p y ≡ false) x xs a in rw h (none_found p xs (All-tail (λ y. p y ≡ false) x xs a))

none_fails : {X : Type 0} → (p : X → Bool) (xs : List X) → All (λ x. p x ≡ true) xs → times (λ x. not (p x)) xs ≡ 0
none_fails p [] a = refl
none_fails p (x ∷ xs) a = let h : p x ≡ true = All-head (λ y. p y ≡ true) x xs a in rw h (none_fails p xs (All-tail (λ y. p y ≡ true) x xs a))

pass_step : {X : Type 0} → (p : X → Bool) (x : X) (xs : List X) (b : Bool) (n : ℕ) → p x ≡ b → cond (not b) (1 + n) n ≡ 0 → (n ≡ 0 → All (λ y. p y ≡ true) xs) → All (λ y. p y ≡ true) (x ∷ xs)
pass_step p x xs true n h e rest = All-cons (λ y. p y ≡ true) x xs h (rest e)
pass_step p x xs false n h e rest = absurd (omega (arith, e))

all_pass : {X : Type 0} → (p : X → Bool) (xs : List X) → times (λ x. not (p x)) xs ≡ 0 → All (λ x. p x ≡ true) xs
all_pass p [] e = All-nil (λ x. p x ≡ true)
all_pass p (x ∷ xs) e = pass_step p x xs (p x) (times (λ y. not (p y)) xs) refl e (all_pass p xs)

pub all_rows : {R : Type 0} → (key : R → OrderKey) (keys : List OrderKey) (rows : List R) (p : OrderKey → Bool) → AreKeysOf key keys rows → All (λ k. p k ≡ true) keys → All (λ r. p (key r) ≡ true) rows
all_rows key keys rows p are a = all_pass (λ r. p (key r)) rows (sym (are (λ (k : OrderKey). not (p k))) ∙ none_fails p keys a)

-- where a search finds no key, no row passes
pub no_row : {R : Type 0} → (key : R → OrderKey) (keys : List OrderKey) (rows : List R) (p : OrderKey → Bool) → AreKeysOf key keys rows → find p keys ≡ None → All (λ r. p (key r) ≡ false) rows
no_row key keys rows p are e = found_none (λ r. p (key r)) rows (none_counted (λ r. p (key r)) rows (sym (are p) ∙ no_count p keys e))

-- the row of a key that was found
pub key_row : {R : Type 0} → (key : R → OrderKey) (keys : List OrderKey) (rows : List R) (p : OrderKey → Bool) (k : OrderKey) → AreKeysOf key keys rows → times (λ r. (key r).uid.0 == k.uid.0) rows ≤ 1 → find p keys ≡ Some k
    → (r : R) × (find (λ x. (key x).uid.0 == k.uid.0) rows ≡ Some r) × ((key r).number ≡ k.number)
key_row key keys rows p k are once e =
    let q = λ (x : OrderKey). (x.uid.0 == k.uid.0) && (x.number == k.number) in
    let passes : q k ≡ true = rw (same_number k.uid.0) (same_number k.number) in
    let some : 1 ≤ times q keys = some_counted p q keys k e passes in
    let found = find_counted (λ r. q (key r)) rows (subst (λ (c : ℕ). 1 ≤ c) (are q) some) in
    let parts = both ((key found.0).uid.0 == k.uid.0) ((key found.0).number == k.number) found.2 in
    (found.0, found_by (λ r. q (key r)) (λ r. (key r).uid.0 == k.uid.0) rows found.0 once found.1 parts.0, equal_is _ k.number parts.1)
  where
    equal_is : (a b : ℕ) → (a == b) ≡ true → a ≡ b
    equal_is a b h = grind (arith, nat_tests, h)

-- ---- the one that passes

one_step : {X : Type 0} → (q : X → Bool) (y x : X) (ys : List X) (b : Bool) → q y ≡ b → (times q ys ≤ 1 → find q ys ≡ Some x → All (λ z. q z ≡ true → z ≡ x) ys) → cond b (1 + times q ys) (times q ys) ≤ 1 → cond b (Some y) (find q ys) ≡ Some x → All (λ z. q z ≡ true → z ≡ x) (y ∷ ys)
one_step q y x ys true h rest n e =
    let k : y ≡ x = cc e in
    All-cons (λ z. q z ≡ true → z ≡ x) y ys (λ _. k)
    (All-weaker (λ z. q z ≡ false) (λ z. q z ≡ true → z ≡ x) (λ z f t. absurd (let w : false ≡ true = sym f ∙ t in cc w)) ys (found_none q ys (none_counted q ys (omega (arith, n)))))
one_step q y x ys false h rest n e = All-cons (λ z. q z ≡ true → z ≡ x) y ys (λ t. absurd (let w : false ≡ true = sym h ∙ t in cc w)) (rest n e)

-- each that passes is the one that was found, where no more pass
pub only_one : {X : Type 0} → (q : X → Bool) (xs : List X) (x : X) → times q xs ≤ 1 → find q xs ≡ Some x → All (λ z. q z ≡ true → z ≡ x) xs
only_one q [] x n e = absurd (let w : None ≡ Some x = e in cc w)
only_one q (y ∷ ys) x n e = one_step q y x ys (q y) refl (only_one q ys x) n e

-- ---- the first key from a number on

less_or : (a b n : ℕ) → a < n → (nat_lt a n || nat_le b a) ≡ true
less_or a b n h = grind (arith, nat_tests, h)

or_least : (a b n : ℕ) → b ≤ a → (nat_lt a n || nat_le b a) ≡ true
or_least a b n h = grind (arith, nat_tests, h)

fails_le : (a n : ℕ) → nat_le n a ≡ false → a < n
fails_le a n h = grind (arith, nat_tests, h)

first_step : (n : ℕ) (x k : OrderKey) (keys : List OrderKey) (b : Bool) → nat_le n x.number ≡ b → All (λ y. x.number < y.number) keys
    → (find (λ y. nat_le n y.number) keys ≡ Some k → All (λ y. (nat_lt y.number n || nat_le k.number y.number) ≡ true) keys) → cond b (Some x) (find (λ y. nat_le n y.number) keys) ≡ Some k
    → All (λ y. (nat_lt y.number n || nat_le k.number y.number) ≡ true) (x ∷ keys)
first_step n x k keys true h above rest e =
    let same : x.number ≡ k.number = (let w : x ≡ k = cc e in ap (λ (y : OrderKey). y.number) w) in
    All-cons (λ y. (nat_lt y.number n || nat_le k.number y.number) ≡ true) x keys (or_least x.number k.number n (omega (arith, same)))
    (All-weaker (λ y. x.number < y.number) (λ y. (nat_lt y.number n || nat_le k.number y.number) ≡ true) (λ y l. or_least y.number k.number n (omega (arith, same, l))) keys above)
first_step n x k keys false h above rest e = All-cons (λ y. (nat_lt y.number n || nat_le k.number y.number) ≡ true) x keys (less_or x.number k.number n (fails_le x.number n h)) (rest e)

pub first_key : (n : ℕ) (keys : List OrderKey) (k : OrderKey) → NumbersRise keys → find (λ y. nat_le n y.number) keys ≡ Some k → All (λ y. (nat_lt y.number n || nat_le k.number y.number) ≡ true) keys
first_key n [] k rise e = absurd (let w : None ≡ Some k = e in cc w)
first_key n (x ∷ keys) k rise e = first_step n x k keys (nat_le n x.number) refl (pairs_head (λ a b. a.number < b.number) x keys rise) (first_key n keys k (pairs_tail (λ a b. a.number < b.number) x keys rise)) e

-- ---- the last key below a number

abbrev pub IsLastKey : ℕ → List OrderKey → OrderKey → Type 0
IsLastKey n keys k = (find (λ y. y.number == k.number) keys ≡ Some k) × (k.number < n) × All (λ y. (nat_le n y.number || nat_le y.number k.number) ≡ true) keys

from_or : (a b n : ℕ) → n ≤ a → (nat_le n a || nat_le a b) ≡ true
from_or a b n h = grind (arith, nat_tests, h)

or_most : (a b n : ℕ) → a ≤ b → (nat_le n a || nat_le a b) ≡ true
or_most a b n h = grind (arith, nat_tests, h)

is_less : (a n : ℕ) → nat_lt a n ≡ true → a < n
is_less a n h = grind (arith, nat_tests, h)

is_from : (a n : ℕ) → nat_lt a n ≡ false → n ≤ a
is_from a n h = grind (arith, nat_tests, h)

unequal : (a b : ℕ) → a < b → (a == b) ≡ false
unequal a b h = grind (arith, nat_tests, h)

unequal_above : (a b : ℕ) → b < a → (a == b) ≡ false
unequal_above a b h = grind (arith, nat_tests, h)

abbrev later_key : Option OrderKey → OrderKey → Option OrderKey
later_key last key = Some key

abbrev Ended : ℕ → List OrderKey → Option OrderKey → OrderKey → Type 0
Ended n keys o k = ((o ≡ Some k) × All (λ y. n ≤ y.number) keys) ⊎ IsLastKey n keys k

behind_less : (n : ℕ) (x k : OrderKey) (keys : List OrderKey) → x.number < n → All (λ y. x.number < y.number) keys → Ended n keys (Some x) k → IsLastKey n (x ∷ keys) k
behind_less n x k keys l above (inl (e, from)) =
    let w : x ≡ k = cc e in
    let same : x.number ≡ k.number = ap (λ (y : OrderKey). y.number) w in (
      here (x.number == k.number) (same_is x.number k.number same) e,
      omega (arith, same, l),
      All-cons (λ y. (nat_le n y.number || nat_le y.number k.number) ≡ true) x keys (or_most x.number k.number n (omega (arith, same)))
          (All-weaker (λ y. n ≤ y.number) (λ y. (nat_le n y.number || nat_le y.number k.number) ≡ true) (λ y h. from_or y.number k.number n h) keys from),
    )
  where
    same_is : (a b : ℕ) → a ≡ b → (a == b) ≡ true
    same_is a b h = grind (arith, nat_tests, h)

    here : (b : Bool) → b ≡ true → Some x ≡ Some k → cond b (Some x) (find (λ y. y.number == k.number) keys) ≡ Some k
    here b h e = rw h e
behind_less n x k keys l above (inr (f, below, all)) =
    let less : x.number < k.number = (found_holds (λ y. y.number == k.number) keys k (λ y. x.number < y.number) f above).0 in (
      here (x.number == k.number) (unequal x.number k.number less) f,
      below,
      All-cons (λ y. (nat_le n y.number || nat_le y.number k.number) ≡ true) x keys (or_most x.number k.number n (omega (arith, less))) all,
    )
  where
    here : (b : Bool) → b ≡ false → find (λ y. y.number == k.number) keys ≡ Some k → cond b (Some x) (find (λ y. y.number == k.number) keys) ≡ Some k
    here b h e = rw h e

behind_from : (n : ℕ) (o : Option OrderKey) (x k : OrderKey) (keys : List OrderKey) → n ≤ x.number → Ended n keys o k → Ended n (x ∷ keys) o k
behind_from n o x k keys l (inl (e, from)) = inl (e, All-cons (λ y. n ≤ y.number) x keys l from)
behind_from n o x k keys l (inr (f, below, all)) =
    inr (
      here (x.number == k.number) (unequal_above x.number k.number (omega (arith, l, below))) f,
      below,
      All-cons (λ y. (nat_le n y.number || nat_le y.number k.number) ≡ true) x keys (from_or x.number k.number n l) all,
    )
  where
    here : (b : Bool) → b ≡ false → find (λ y. y.number == k.number) keys ≡ Some k → cond b (Some x) (find (λ y. y.number == k.number) keys) ≡ Some k
    here b h e = rw h e

last_step : (n : ℕ) (o : Option OrderKey) (x k : OrderKey) (keys : List OrderKey) (b : Bool) → nat_lt x.number n ≡ b → All (λ y. x.number < y.number) keys
    → ((r : Option OrderKey) → fold later_key r (filter (λ y. nat_lt y.number n) keys) ≡ Some k → Ended n keys r k)
    → fold later_key o (cond b (x ∷ filter (λ y. nat_lt y.number n) keys) (filter (λ y. nat_lt y.number n) keys)) ≡ Some k → Ended n (x ∷ keys) o k
last_step n o x k keys true h above rest e = inr (behind_less n x k keys (is_less x.number n h) above (rest (Some x) e))
last_step n o x k keys false h above rest e = behind_from n o x k keys (is_from x.number n h) (rest o e)

last_ended : (n : ℕ) (o : Option OrderKey) (keys : List OrderKey) (k : OrderKey) → NumbersRise keys → fold later_key o (filter (λ y. nat_lt y.number n) keys) ≡ Some k → Ended n keys o k
last_ended n o [] k rise e = inl (e, All-nil (λ y. n ≤ y.number))
last_ended n o (x ∷ keys) k rise e = last_step n o x k keys (nat_lt x.number n) refl (pairs_head (λ a b. a.number < b.number) x keys rise) (λ r f. last_ended n r keys k (pairs_tail (λ a b. a.number < b.number) x keys rise) f) e

pub last_key : (n : ℕ) (keys : List OrderKey) (k : OrderKey) → NumbersRise keys → last_of (filter (λ y. nat_lt y.number n) keys) ≡ Some k → IsLastKey n keys k
last_key n keys k rise e = ended (last_ended n None keys k rise e)
  where
    ended : Ended n keys None k → IsLastKey n keys k
    ended (inl (f, from)) = absurd (let w : None ≡ Some k = f in cc w)
    ended (inr h) = h

-- where no key is below, each is at or behind it
some_stays : (x : OrderKey) (keys : List OrderKey) → fold later_key (Some x) keys ≡ None → ⊥
some_stays x [] e = let w : Some x ≡ None = e in cc w
some_stays x (y ∷ keys) e = some_stays y keys e

none_step : (n : ℕ) (x : OrderKey) (keys : List OrderKey) (b : Bool) → nat_lt x.number n ≡ b → (last_of (filter (λ y. nat_lt y.number n) keys) ≡ None → All (λ y. nat_le n y.number ≡ true) keys)
    → last_of (cond b (x ∷ filter (λ y. nat_lt y.number n) keys) (filter (λ y. nat_lt y.number n) keys)) ≡ None → All (λ y. nat_le n y.number ≡ true) (x ∷ keys)
none_step n x keys true h rest e = absurd (some_stays x (filter (λ y. nat_lt y.number n) keys) e)
none_step n x keys false h rest e = All-cons (λ y. nat_le n y.number ≡ true) x keys (at_least x.number n h) (rest e)
  where
    at_least : (a n : ℕ) → nat_lt a n ≡ false → nat_le n a ≡ true
    at_least a n h = grind (arith, nat_tests, h)

pub none_below : (n : ℕ) (keys : List OrderKey) → last_of (filter (λ y. nat_lt y.number n) keys) ≡ None → All (λ y. nat_le n y.number ≡ true) keys
none_below n [] e = All-nil (λ y. nat_le n y.number ≡ true)
none_below n (x ∷ keys) e = none_step n x keys (nat_lt x.number n) refl (none_below n keys) e
