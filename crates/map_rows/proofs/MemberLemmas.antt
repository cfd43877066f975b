-- An order whose keys are those of some rows: what a search in it finds is what a walk over the rows finds.
use Rattle.map_rows.proofs.Common.{◌≡◌, ◌+◌, ◌<◌, ◌≤◌, ◌==◌, ◌&&◌, ℕ, Bool, true, false, not, cond, List, [], ◌∷◌, ◌++◌, map, filter, find, Option, Some, None, All, refl, sym, ◌∙◌, ap, subst, arith, nat_lt, nat_tests, All-head, All-tail, All-weaker, pairs_head, pairs_tail, found_holds, OrderKey}
use Rattle.map_rows.proofs.Common.{NumbersRise, with_key, times, AreKeysOf}

-- ---- counts and searches

yes_no : true ≡ false → ⊥
yes_no e = cc e

some_step : {X : Type 0} → (p q : X → Bool) (y x : X) (ys : List X) (b c : Bool) → p y ≡ b → q y ≡ c → q x ≡ true → (find p ys ≡ Some x → 1 ≤ times q ys) → cond b (Some y) (find p ys) ≡ Some x → 1 ≤ cond c (1 + times q ys) (times q ys)
some_step p q y x ys true true hp hq h rest e = omega arith
some_step p q y x ys true false hp hq h rest e = let k : y ≡ x = cc e in absurd (yes_no (sym (ap q k ∙ h) ∙ hq))
some_step p q y x ys false true hp hq h rest e = omega arith
some_step p q y x ys false false hp hq h rest e = rest e

-- what was found counts
pub some_counted : {X : Type 0} → (p q : X → Bool) (xs : List X) (x : X) → find p xs ≡ Some x → q x ≡ true → 1 ≤ times q xs
some_counted p q [] x e h = absurd (let w : None ≡ Some x = e in cc w)
some_counted p q (y ∷ ys) x e h = some_step p q y x ys (p y) (q y) refl refl h (λ f. some_counted p q ys x f h) e

counted_step : {X : Type 0} → (q : X → Bool) (y : X) (ys : List X) (b : Bool) → q y ≡ b → (1 ≤ times q ys → (x : X) × (find q ys ≡ Some x) × (q x ≡ true)) → 1 ≤ cond b (1 + times q ys) (times q ys) → (x : X) × (cond b (Some y) (find q ys) ≡ Some x) × (q x ≡ true)
counted_step q y ys true h rest c = (y, refl, h)
counted_step q y ys false h rest c = rest c

-- what counts is found
pub find_counted : {X : Type 0} → (q : X → Bool) (xs : List X) → 1 ≤ times q xs → (x : X) × (find q xs ≡ Some x) × (q x ≡ true)
find_counted q [] c = absurd (omega (arith, c))
find_counted q (y ∷ ys) c = counted_step q y ys (q y) refl (find_counted q ys) c

none_step : {X : Type 0} → (y : X) (rest : Option X) (b : Bool) (n : ℕ) → (n ≡ 0 → rest ≡ None) → cond b (1 + n) n ≡ 0 → cond b (Some y) rest ≡ None
none_step y rest true n h e = absurd (omega (arith, e))
none_step y rest false n h e = h e

pub none_counted : {X : Type 0} → (q : X → Bool) (xs : List X) → times q xs ≡ 0 → find q xs ≡ None
none_counted q [] e = refl
none_counted q (y ∷ ys) e = none_step y (find q ys) (q y) (times q ys) (none_counted q ys) e

count_step : {X : Type 0} → (y : X) (rest : Option X) (b : Bool) (n : ℕ) → (rest ≡ None → n ≡ 0) → cond b (Some y) rest ≡ None → cond b (1 + n) n ≡ 0
count_step y rest true n h e = absurd (cc e)
count_step y rest false n h e = h e

pub no_count : {X : Type 0} → (q : X → Bool) (xs : List X) → find q xs ≡ None → times q xs ≡ 0
no_count q [] e = refl
no_count q (y ∷ ys) e = count_step y (find q ys) (q y) (times q ys) (no_count q ys) e

by_step : {X : Type 0} → (p q : X → Bool) (y x : X) (ys : List X) (b c : Bool) → p y ≡ b → q y ≡ c → q x ≡ true → (find p ys ≡ Some x → 1 ≤ times q ys) → (times q ys ≤ 1 → find p ys ≡ Some x → find q ys ≡ Some x) → cond c (1 + times q ys) (times q ys) ≤ 1 → cond b (Some y) (find p ys) ≡ Some x → cond c (Some y) (find q ys) ≡ Some x
by_step p q y x ys true true hp hq h some rest n e = e
by_step p q y x ys true false hp hq h some rest n e = let k : y ≡ x = cc e in absurd (yes_no (sym (ap q k ∙ h) ∙ hq))
by_step p q y x ys false true hp hq h some rest n e = absurd (let s = some e in omega (arith, n, s))
by_step p q y x ys false false hp hq h some rest n e = rest n e

-- what one search found, another finds that only it passes
pub found_by : {X : Type 0} → (p q : X → Bool) (xs : List X) (x : X) → times q xs ≤ 1 → find p xs ≡ Some x → q x ≡ true → find q xs ≡ Some x
found_by p q [] x n e h = e
found_by p q (y ∷ ys) x n e h = by_step p q y x ys (p y) (q y) refl refl h (λ f. some_counted p q ys x f h) (λ m f. found_by p q ys x m f h) n e

abbrev pub one : Bool → ℕ
one b = cond b 1 0

all_step : {X : Type 0} → (q s : X → Bool) (y : X) (ys : List X) (c d : Bool) → (times q ys ≡ 0 → times (λ z. not (q z) && s z) ys ≡ times s ys) → cond c (1 + times q ys) (times q ys) ≡ 0 → cond (not c && d) (1 + times (λ z. not (q z) && s z) ys) (times (λ z. not (q z) && s z) ys) ≡ cond d (1 + times s ys) (times s ys)
all_step q s y ys true d rest n = absurd (omega (arith, n))
all_step q s y ys false true rest n = let r = rest n in omega (arith, r)
all_step q s y ys false false rest n = rest n

-- without what passes, where nothing does
without_none : {X : Type 0} → (q s : X → Bool) (xs : List X) → times q xs ≡ 0 → times (λ z. not (q z) && s z) xs ≡ times s xs
without_none q s [] n = refl
without_none q s (y ∷ ys) n = all_step q s y ys (q y) (s y) (without_none q s ys) n

one_step : {X : Type 0} → (p q s : X → Bool) (y x : X) (ys : List X) (b c d : Bool) → p y ≡ b → q y ≡ c → s y ≡ d → q x ≡ true → (find p ys ≡ Some x → 1 ≤ times q ys)
    → (times q ys ≡ 0 → times (λ z. not (q z) && s z) ys ≡ times s ys) → (times q ys ≤ 1 → find p ys ≡ Some x → times (λ z. not (q z) && s z) ys + one (s x) ≡ times s ys)
    → cond c (1 + times q ys) (times q ys) ≤ 1 → cond b (Some y) (find p ys) ≡ Some x
    → cond (not c && d) (1 + times (λ z. not (q z) && s z) ys) (times (λ z. not (q z) && s z) ys) + one (s x) ≡ cond d (1 + times s ys) (times s ys)
one_step p q s y x ys true true true hp hq hs h some none rest n e =
    let k : y ≡ x = cc e in
    let m = none (omega (arith, n)) in
    let t : one (s x) ≡ 1 = ap one (ap s (sym k) ∙ hs) in
    omega (arith, m, t)
one_step p q s y x ys true true false hp hq hs h some none rest n e =
    let k : y ≡ x = cc e in
    let m = none (omega (arith, n)) in
    let t : one (s x) ≡ 0 = ap one (ap s (sym k) ∙ hs) in
    omega (arith, m, t)
one_step p q s y x ys true false d hp hq hs h some none rest n e = let k : y ≡ x = cc e in absurd (yes_no (sym (ap q k ∙ h) ∙ hq))
one_step p q s y x ys false true d hp hq hs h some none rest n e = absurd (let m = some e in omega (arith, n, m))
one_step p q s y x ys false false true hp hq hs h some none rest n e = let m = rest n e in omega (arith, m)
one_step p q s y x ys false false false hp hq hs h some none rest n e = rest n e

-- without the one that passes, and was found
pub without_one : {X : Type 0} → (p q s : X → Bool) (xs : List X) (x : X) → times q xs ≤ 1 → find p xs ≡ Some x → q x ≡ true → times (λ z. not (q z) && s z) xs + one (s x) ≡ times s xs
without_one p q s [] x n e h = absurd (let w : None ≡ Some x = e in cc w)
without_one p q s (y ∷ ys) x n e h = one_step p q s y x ys (p y) (q y) (s y) refl refl refl h (λ f. some_counted p q ys x f h) (without_none q s ys) (λ m f. without_one p q s ys x m f h) n e

-- ---- numbers that rise

unequal : (a b : ℕ) → a < b → (b == a) ≡ false
unequal a b h = grind (arith, nat_tests, h)

pub equal_is : (a b : ℕ) → (a == b) ≡ true → a ≡ b
equal_is a b h = grind (arith, nat_tests, h)

none_above : (n : ℕ) (keys : List OrderKey) → All (λ k. n < k.number) keys → times (λ k. k.number == n) keys ≡ 0
none_above n [] a = refl
none_above n (k ∷ keys) a = rw (unequal n k.number (All-head (λ x. n < x.number) k keys a)) (none_above n keys (All-tail (λ x. n < x.number) k keys a))

once_step : (n : ℕ) (k : OrderKey) (keys : List OrderKey) (b : Bool) → (k.number == n) ≡ b → All (λ x. k.number < x.number) keys → times (λ x. x.number == n) keys ≤ 1 → cond b (1 + times (λ x. x.number == n) keys) (times (λ x. x.number == n) keys) ≤ 1
once_step n k keys true e a rest =
    let s = equal_is k.number n e in
    let z = none_above n keys (All-weaker (λ x. k.number < x.number) (λ x. n < x.number) (λ x l. omega (arith, s, l)) keys a) in
    omega (arith, z)
once_step n k keys false e a rest = rest

-- a number has one key at most
pub rise_once : (n : ℕ) (keys : List OrderKey) → NumbersRise keys → times (λ k. k.number == n) keys ≤ 1
rise_once n [] rise = omega arith
rise_once n (k ∷ keys) rise = once_step n k keys (k.number == n) refl (pairs_head (λ a b. a.number < b.number) k keys rise) (rise_once n keys (pairs_tail (λ a b. a.number < b.number) k keys rise))

-- ---- look-ups

pub both : (a b : Bool) → (a && b) ≡ true → (a ≡ true) × (b ≡ true)
both true b e = (refl, e)
both false b e = absurd (yes_no (sym e))

pub same_number : (n : ℕ) → (n == n) ≡ true
same_number n = grind (arith, nat_tests)

-- the row of the key that a search found is that of the number
pub row_found : {R : Type 0} → (key : R → OrderKey) (keys : List OrderKey) (rows : List R) (n : ℕ) (k : OrderKey) → AreKeysOf key keys rows → NumbersRise keys → times (λ r. (key r).uid.0 == k.uid.0) rows ≤ 1 → find (λ x. x.number == n) keys ≡ Some k
    → find (λ r. (key r).uid.0 == k.uid.0) rows ≡ find (λ r. (key r).number == n) rows
row_found key keys rows n k are rise once e =
    let p = λ (x : OrderKey). (x.uid.0 == k.uid.0) && (x.number == n) in
    let hit = (found_holds (λ (x : OrderKey). x.number == n) keys k (λ x. Unit {0}) e (λ i d lt. tt)).1 in
    let passes : p k ≡ true = rw (same_number k.uid.0) hit in
    let some : 1 ≤ times p keys = some_counted (λ (x : OrderKey). x.number == n) p keys k e passes in
    let found = find_counted (λ r. p (key r)) rows (subst (λ (c : ℕ). 1 ≤ c) (are p) some) in
    let parts = both ((key found.0).uid.0 == k.uid.0) ((key found.0).number == n) found.2 in
    let few : times (λ r. (key r).number == n) rows ≤ 1 = subst (λ (c : ℕ). c ≤ 1) (are (λ (x : OrderKey). x.number == n)) (rise_once n keys rise) in
    found_by (λ r. p (key r)) (λ r. (key r).uid.0 == k.uid.0) rows found.0 once found.1 parts.0
    ∙ sym (found_by (λ r. p (key r)) (λ r. (key r).number == n) rows found.0 few found.1 parts.1)

-- where a search finds no key, there is no row of the number
pub row_missing : {R : Type 0} → (key : R → OrderKey) (keys : List OrderKey) (rows : List R) (n : ℕ) → AreKeysOf key keys rows → find (λ x. x.number == n) keys ≡ None → find (λ r. (key r).number == n) rows ≡ None
row_missing key keys rows n are e = none_counted (λ r. (key r).number == n) rows (sym (are (λ (x : OrderKey). x.number == n)) ∙ no_count (λ (x : OrderKey). x.number == n) keys e)

-- a number that no row has, no key has
pub key_missing : {R : Type 0} → (key : R → OrderKey) (keys : List OrderKey) (rows : List R) (n : ℕ) → AreKeysOf key keys rows → find (λ r. (key r).number == n) rows ≡ None → find (λ x. x.number == n) keys ≡ None
key_missing key keys rows n are e = none_counted (λ (x : OrderKey). x.number == n) keys (are (λ (x : OrderKey). x.number == n) ∙ no_count (λ r. (key r).number == n) rows e)

-- ---- changes

pub count_append : {X : Type 0} → (p : X → Bool) (xs ys : List X) → times p (xs ++ ys) ≡ times p xs + times p ys
count_append p [] ys = omega arith
count_append p (x ∷ xs) ys = step (p x) (times p (xs ++ ys)) (times p xs) (times p ys) (count_append p xs ys)
  where
    step : (b : Bool) (a m n : ℕ) → a ≡ m + n → cond b (1 + a) a ≡ cond b (1 + m) m + n
    step true a m n e = omega (arith, e)
    step false a m n e = e

pub count_filter : {X : Type 0} → (p q : X → Bool) (xs : List X) → times p (filter q xs) ≡ times (λ x. q x && p x) xs
count_filter p q [] = refl
count_filter p q (x ∷ xs) = step (q x) (p x) refl (count_filter p q xs)
  where
    step : (b c : Bool) → p x ≡ c → times p (filter q xs) ≡ times (λ y. q y && p y) xs → times p (cond b (x ∷ filter q xs) (filter q xs)) ≡ cond (b && c) (1 + times (λ y. q y && p y) xs) (times (λ y. q y && p y) xs)
    step true true e h = rw e (ap (λ (n : ℕ). 1 + n) h)
    step true false e h = rw e h
    step false c e h = h

mapped_step : (b c : Bool) (m n : ℕ) → b ≡ c → m ≡ n → cond b (1 + m) m ≡ cond c (1 + n) n
mapped_step b c m n e g = cc (e, g)

mapped : {R S : Type 0} → (key : R → OrderKey) (key' : S → OrderKey) (f : R → S) (p : OrderKey → Bool) → ((r : R) → key' (f r) ≡ key r) → (rs : List R) → times (λ s. p (key' s)) (map f rs) ≡ times (λ r. p (key r)) rs
mapped key key' f p same [] = refl
mapped key key' f p same (r ∷ rs) = mapped_step (p (key' (f r))) (p (key r)) _ _ (ap p (same r)) (mapped key key' f p same rs)

pub keys_mapped : {R S : Type 0} → (key : R → OrderKey) (key' : S → OrderKey) (f : R → S) (keys : List OrderKey) (rows : List R) → ((r : R) → key' (f r) ≡ key r) → AreKeysOf key keys rows → AreKeysOf key' keys (map f rows)
keys_mapped key key' f keys rows same are p = are p ∙ sym (mapped key key' f p same rows)

split_step : (a b m x y : ℕ) (less more passes : Bool) → (less ≡ true → more ≡ true → ⊥) → (less ≡ false → more ≡ false → ⊥) → x + y ≡ m → cond (less && passes) (1 + x) x + cond (more && passes) (1 + y) y ≡ cond passes (1 + m) m
split_step a b m x y true true passes h k e = absurd (h refl refl)
split_step a b m x y false false passes h k e = absurd (k refl refl)
split_step a b m x y true false true h k e = omega (arith, e)
split_step a b m x y true false false h k e = e
split_step a b m x y false true true h k e = omega (arith, e)
split_step a b m x y false true false h k e = e

tail_missing : (n : ℕ) (k : OrderKey) (keys : List OrderKey) (b : Bool) → (k.number == n) ≡ b → cond b (Some k) (find (λ x. x.number == n) keys) ≡ None → ((k.number == n) ≡ false) × (find (λ x. x.number == n) keys ≡ None)
tail_missing n k keys true e h = absurd (cc h)
tail_missing n k keys false e h = (e, h)

not_both : (a n : ℕ) → nat_lt a n ≡ true → nat_lt n a ≡ true → ⊥
not_both a n p q = grind (arith, nat_tests, p, q)

one_of : (a n : ℕ) → (a == n) ≡ false → nat_lt a n ≡ false → nat_lt n a ≡ false → ⊥
one_of a n e p q = grind (arith, nat_tests, e, p, q)

split_count : (p : OrderKey → Bool) (n : ℕ) (keys : List OrderKey) → find (λ x. x.number == n) keys ≡ None → times (λ k. nat_lt k.number n && p k) keys + times (λ k. nat_lt n k.number && p k) keys ≡ times p keys
split_count p n [] e = refl
split_count p n (k ∷ keys) e =
    let t = tail_missing n k keys (k.number == n) refl e in
    split_step 0 0 _ _ _ (nat_lt k.number n) (nat_lt n k.number) (p k) (not_both k.number n) (one_of k.number n t.0) (split_count p n keys t.1)

pub keys_added : {R : Type 0} → (key : R → OrderKey) (keys : List OrderKey) (rows : List R) (r : R) → AreKeysOf key keys rows → find (λ x. x.number == (key r).number) keys ≡ None → AreKeysOf key (with_key (key r) keys) (rows ++ r ∷ [])
keys_added key keys rows r are e p =
    let n = (key r).number in
    let whole = count_append p (filter (λ (k : OrderKey). nat_lt k.number n) keys) (key r ∷ filter (λ (k : OrderKey). nat_lt n k.number) keys) in
    let front = count_filter p (λ (k : OrderKey). nat_lt k.number n) keys in
    let back = count_filter p (λ (k : OrderKey). nat_lt n k.number) keys in
    let split = split_count p n keys e in
    let more = count_append (λ x. p (key x)) rows (r ∷ []) in
    let same = are p in
    add (p (key r)) _ _ _ _ _ _ _ _ whole front back split more same
  where
    add : (b : Bool) (all a c a' c' m rs r' : ℕ) → all ≡ a + cond b (1 + c) c → a ≡ a' → c ≡ c' → a' + c' ≡ m → r' ≡ rs + cond b (1 + 0) 0 → m ≡ rs → all ≡ r'
    add true all a c a' c' m rs r' h i j k l o = omega (arith, h, i, j, k, l, o)
    add false all a c a' c' m rs r' h i j k l o = omega (arith, h, i, j, k, l, o)
