-- What a purge of a storage file leaves of a table: its records, and the keys of its orders.
use Rattle.map_rows.proofs.Common.{AllPairs, IsNonDecreasingBy, ◌≡◌, ◌≢◌, ◌+◌, ◌<◌, ◌≤◌, ◌==◌, ◌&&◌, ◌++◌, ℕ, zero, suc, Bool, true, false, not, cond, Option, Some, None, List, [], ◌∷◌, length, get_or, take, map, filter, fold, All, refl, sym, ◌∙◌, ap, subst, inl, inr, arith, cases_eq, nat_tests}
use Rattle.map_rows.proofs.Common.{All-head, All-tail, All-weaker, AllPairs-from_increasing, pairs_head, pairs_tail, MapUid, MapPlace, MapRecord, has_map_uid, place_given, moved_record, IsApart, OrderKey, guid_key, place_number, place_key, AreNamesOf, instances_of, NumbersRise, times, AreKeysOf}
use Rattle.map_rows.proofs.Common.{IsTableRow, LieApart, AreTableRows, AreIndexed, NamedInstance}
use Rattle.std.specs.List.Retain.{RetainsInTurn}
use Rattle.std.specs.List.Sorted.{IsPermutation, IsStrictlyIncreasing}
use Rattle.std.proofs.lemmas.List.Sorted.{sum_by-IsPermutation}
use Rattle.map_rows.specs.Keys.{key_at, moved_key}
use Rattle.map_rows.specs.TableKept.{FitsMoved, CanMoveEach}
use Rattle.map_rows.proofs.KeyLemmas.{place_only}
use Rattle.map_rows.proofs.MemberLemmas.{count_filter, equal_is, keys_mapped}
use Rattle.map_rows.proofs.NameLemmas.{names_kept}
use Rattle.map_rows.proofs.TableLemmas.{moved_rows, before_move, filtered_rows, uid_stays, names_stay, guid_key_stays, times-map, times_same}

-- ---- a vector after one pass

retained_step : {X : Type 0} → (change : X → X) (test said : Bool) (x y : X) (zs kept : List X) → said ≡ test → y ≡ change x → zs ≡ map change kept → cond said (y ∷ zs) zs ≡ map change (cond test (x ∷ kept) kept)
retained_step change true true x y zs kept e f g = cc (f, g)
retained_step change true false x y zs kept e f g = absurd (let w : false ≡ true = e in cc w)
retained_step change false true x y zs kept e f g = absurd (let w : true ≡ false = e in cc w)
retained_step change false false x y zs kept e f g = g

viewed_step : {X Y : Type 0} → (view : X → Y) (change : Y → Y) (test said : Bool) (x : Y) (y : X) (zs : List X) (kept : List Y) → said ≡ test → view y ≡ change x → map view zs ≡ map change kept → map view (cond said (y ∷ zs) zs) ≡ map change (cond test (x ∷ kept) kept)
viewed_step view change true true x y zs kept e f g = cc (f, g)
viewed_step view change true false x y zs kept e f g = absurd (let w : false ≡ true = e in cc w)
viewed_step view change false true x y zs kept e f g = absurd (let w : true ≡ false = e in cc w)
viewed_step view change false false x y zs kept e f g = g

-- what is left, changed, where each call answers by a test, changes what stays, and leaves the closure as it is
pub retained : {S X : Type 0} → (R : S → X → Bool → S → X → Type 0) (test : X → Bool) (change : X → X) (s : S) → ((x : X) (b : Bool) (t : S) (y : X) → R s x b t y → (b ≡ test x) × (y ≡ change x) × (t ≡ s)) → (xs ys : List X) → RetainsInTurn R s xs ys → ys ≡ map change (filter test xs)
retained R test change s f [] ys h = h
retained R test change s f (x ∷ xs) ys h =
    let said = f x h.0 h.1 h.2 h.3 in
    let rest = retained R test change s f xs h.4 (subst (λ t. RetainsInTurn R t xs h.4) said.2 h.5) in
    h.6 ∙ retained_step change (test x) h.0 x h.2 h.4 (filter test xs) said.0 said.1 rest

-- the same of what the items mean
pub retained_as : {S X Y : Type 0} → (R : S → X → Bool → S → X → Type 0) (view : X → Y) (test : Y → Bool) (change : Y → Y) (s : S) → ((x : X) (b : Bool) (t : S) (y : X) → R s x b t y → (b ≡ test (view x)) × (view y ≡ change (view x)) × (t ≡ s)) → (xs ys : List X) → RetainsInTurn R s xs ys
    → map view ys ≡ map change (filter test (map view xs))
retained_as R view test change s f [] ys h = ap (map view) h
retained_as R view test change s f (x ∷ xs) ys h =
    let said = f x h.0 h.1 h.2 h.3 in
    let rest = retained_as R view test change s f xs h.4 (subst (λ t. RetainsInTurn R t xs h.4) said.2 h.5) in
    ap (map view) h.6 ∙ viewed_step view change (test (view x)) h.0 (view x) h.2 h.4 (filter test (map view xs)) said.0 said.1 rest

-- a vector in whose place so many items were written
pub written_back : {X : Type 0} → (xs ys : List X) (n : ℕ) → length xs ≡ n → take n (xs ++ ys) ≡ xs
written_back [] [] zero e = refl
written_back [] (y ∷ ys) zero e = refl
written_back [] ys (suc n) e = absurd (omega (arith, e))
written_back (x ∷ xs) ys zero e = absurd (omega (arith, e))
written_back (x ∷ xs) ys (suc n) e = ap (λ (zs : List _). x ∷ zs) (written_back xs ys n (omega (arith, e)))

-- ---- counts

counted_step : (b : Bool) (m n : ℕ) → (m + cond b 1 0) + n ≡ m + cond b (1 + n) n
counted_step true m n = omega arith
counted_step false m n = omega arith

counted_from : {X : Type 0} → (p : X → Bool) (m : ℕ) (xs : List X) → fold (λ a x. a + cond (p x) 1 0) m xs ≡ m + times p xs
counted_from p m [] = omega arith
counted_from p m (x ∷ xs) = counted_from p (m + cond (p x) 1 0) xs ∙ counted_step (p x) m (times p xs)

pub times_permuted : {X : Type 0} → (p : X → Bool) (xs ys : List X) → IsPermutation xs ys → times p ys ≡ times p xs
times_permuted p xs ys h =
    let a = counted_from p 0 xs in
    let b = counted_from p 0 ys in
    let s = sum_by-IsPermutation (λ x. cond (p x) 1 0) xs ys h in
    omega (arith, a, b, s)

unequal : (a b : ℕ) → a ≢ b → (a == b) ≡ false
unequal a b h = grind (arith, nat_tests, h)

equal : (a b : ℕ) → a ≡ b → (a == b) ≡ true
equal a b h = grind (arith, nat_tests, h)

none_at : {X : Type 0} → (f : X → ℕ) (n : ℕ) (xs : List X) → All (λ x. f x ≢ n) xs → times (λ x. f x == n) xs ≡ 0
none_at f n [] a = refl
none_at f n (x ∷ xs) a = rw (unequal (f x) n (All-head (λ y. f y ≢ n) x xs a)) (none_at f n xs (All-tail (λ y. f y ≢ n) x xs a))

apart_step : {X : Type 0} → (f : X → ℕ) (n : ℕ) (x : X) (xs : List X) (b : Bool) → (f x == n) ≡ b → All (λ y. f x ≢ f y) xs → times (λ y. f y == n) xs ≤ 1 → cond b (1 + times (λ y. f y == n) xs) (times (λ y. f y == n) xs) ≤ 1
apart_step f n x xs true e a h = let z = none_at f n xs (All-weaker (λ y. f x ≢ f y) (λ y. f y ≢ n) (λ y no s. no (equal_is (f x) n e ∙ sym s)) xs a) in omega (arith, z)
apart_step f n x xs false e a h = h

-- numbers that differ stand there once
apart_once : {X : Type 0} → (f : X → ℕ) (n : ℕ) (xs : List X) → AllPairs (λ a b. f a ≢ f b) xs → times (λ x. f x == n) xs ≤ 1
apart_once f n [] p = omega arith
apart_once f n (x ∷ xs) p = apart_step f n x xs (f x == n) refl (pairs_head (λ a b. f a ≢ f b) x xs p) (apart_once f n xs (pairs_tail (λ a b. f a ≢ f b) x xs p))

more : (b : Bool) (n : ℕ) → 1 ≤ n → 1 ≤ cond b (1 + n) n
more true n h = omega arith
more false n h = h

no_less : (b : Bool) (n : ℕ) → 2 ≤ n → 2 ≤ cond b (1 + n) n
no_less true n h = omega (arith, h)
no_less false n h = h

counted_at : {X : Type 0} → (p : X → Bool) (xs : List X) (j : ℕ) (d : X) → j < length xs → p (get_or xs j d) ≡ true → 1 ≤ times p xs
counted_at p [] j d lt e = absurd (omega (arith, lt))
counted_at p (x ∷ xs) zero d lt e = rw e (omega arith)
counted_at p (x ∷ xs) (suc j) d lt e = more (p x) (times p xs) (counted_at p xs j d (omega (arith, lt)) e)

counted_twice : {X : Type 0} → (p : X → Bool) (xs : List X) (i j : ℕ) (d : X) → i < j → j < length xs → p (get_or xs i d) ≡ true → p (get_or xs j d) ≡ true → 2 ≤ times p xs
counted_twice p [] i j d l lt e f = absurd (omega (arith, lt))
counted_twice p (x ∷ xs) i zero d l lt e f = absurd (omega (arith, l))
counted_twice p (x ∷ xs) zero (suc j) d l lt e f = rw e (let r = counted_at p xs j d (omega (arith, lt)) f in omega (arith, r))
counted_twice p (x ∷ xs) (suc i) (suc j) d l lt e f = no_less (p x) (times p xs) (counted_twice p xs i j d (omega (arith, l)) (omega (arith, lt)) e f)

-- keys in order of numbers that differ
pub rises_once : (keys : List OrderKey) → IsNonDecreasingBy (λ k. k.number) keys → ((n : ℕ) → times (λ k. k.number == n) keys ≤ 1) → NumbersRise keys
rises_once keys sorted once i j d l lt =
    let up : (get_or keys i d).number ≤ (get_or keys j d).number = sorted i j d (omega (arith, l)) lt in
    elim (cases_eq (get_or keys i d).number (get_or keys j d).number) [
      | inl same ↦ absurd (let two = counted_twice (λ (k : OrderKey). k.number == (get_or keys j d).number) keys i j d l lt (equal _ _ same) (equal _ _ refl) in let one = once (get_or keys j d).number in omega (arith, one, two))
      | inr apart ↦ omega (arith, up, apart)
    ]

-- ---- records that are moved

map_twice : (f g h : MapRecord → MapRecord) → ((row : MapRecord) → f (g row) ≡ h row) → (rows : List MapRecord) → map f (map g rows) ≡ map h rows
map_twice f g h same [] = refl
map_twice f g h same (row ∷ rows) = let a = same row in let b = map_twice f g h same rows in cc (a, b)

none_moved : (rows : List MapRecord) → map (λ row. row) rows ≡ rows
none_moved [] = refl
none_moved (row ∷ rows) = ap (λ (rest : List MapRecord). row ∷ rest) (none_moved rows)

abbrev moves : ℕ → List MapPlace → MapRecord → MapRecord
moves target places row = moved_record row target (place_given row.uid places)

not_moved : (given : MapPlace) (places : List MapPlace) (uid : ℕ) → uid ≡ given.uid.0 → All (λ n. given.uid.0 < n) (map (λ (p : MapPlace). p.uid.0) places) → place_given uid places ≡ None
not_moved given [] uid e a = refl
not_moved given (v ∷ places) uid e a =
    let l : given.uid.0 < v.uid.0 = All-head (λ n. given.uid.0 < n) v.uid.0 (map (λ (p : MapPlace). p.uid.0) places) a in
    rw (unequal v.uid.0 uid (λ s. omega (arith, s, e, l))) (not_moved given places uid e (All-tail (λ n. given.uid.0 < n) v.uid.0 (map (λ (p : MapPlace). p.uid.0) places) a))

move_step : (target : ℕ) (given : MapPlace) (places : List MapPlace) (row : MapRecord) (hit : Bool) → (given.uid.0 == row.uid) ≡ hit → All (λ n. given.uid.0 < n) (map (λ (p : MapPlace). p.uid.0) places)
    → moves target places (moved_record row target (cond hit (Some given) None)) ≡ moved_record row target (cond hit (Some given) (place_given row.uid places))
move_step target given places row true e a = let n = not_moved given places row.uid (sym (equal_is given.uid.0 row.uid e)) a in rw n refl
move_step target given places row false e a = refl

one_moved : (rows : List MapRecord) (target : ℕ) (given : MapPlace) → AreTableRows rows → FitsMoved rows target given → AreTableRows (map (moves target (given ∷ [])) rows)
one_moved rows target given kept (row, found, ends, free) = moved_rows rows target given row kept ends (before_move rows target given row kept found free)

each_moved : (target : ℕ) (places : List MapPlace) (rows : List MapRecord) → AllPairs (λ a b. a < b) (map (λ (p : MapPlace). p.uid.0) places) → CanMoveEach rows target places → AreTableRows rows → AreTableRows (map (moves target places) rows)
each_moved target [] rows rise can kept = subst AreTableRows (sym (none_moved rows)) kept
each_moved target (given ∷ places) rows rise can kept =
    let above = pairs_head (λ a b. a < b) given.uid.0 (map (λ (p : MapPlace). p.uid.0) places) rise in
    subst AreTableRows (map_twice (moves target places) (moves target (given ∷ [])) (moves target (given ∷ places)) (λ row. move_step target given places row (given.uid.0 == row.uid) refl above) rows)
    (each_moved target places (map (moves target (given ∷ [])) rows) (pairs_tail (λ a b. a < b) given.uid.0 (map (λ (p : MapPlace). p.uid.0) places) rise) can.1 (one_moved rows target given kept can.0))

-- ---- records that are moved, and others that are dropped

abbrev pub left_rows : List MapUid → List MapRecord → List MapRecord
left_rows dropped rows = filter (λ row. not (has_map_uid row.uid dropped)) rows

abbrev pub switched : ℕ → List MapPlace → List MapUid → List MapRecord → List MapRecord
switched target moved dropped rows = map (λ row. moved_record row target (place_given row.uid moved)) (left_rows dropped rows)

turn_step : (f : MapRecord → MapRecord) (b c : Bool) (row : MapRecord) (kept all : List MapRecord) → b ≡ c → all ≡ map f kept → cond b (f row ∷ all) all ≡ map f (cond c (row ∷ kept) kept)
turn_step f true true row kept all e g = ap (λ (rows : List MapRecord). f row ∷ rows) g
turn_step f true false row kept all e g = absurd (let w : true ≡ false = e in cc w)
turn_step f false true row kept all e g = absurd (let w : false ≡ true = e in cc w)
turn_step f false false row kept all e g = g

dropped_first : (target : ℕ) (moved : List MapPlace) (dropped : List MapUid) (rows : List MapRecord) → left_rows dropped (map (moves target moved) rows) ≡ switched target moved dropped rows
dropped_first target moved dropped [] = refl
dropped_first target moved dropped (row ∷ rows) =
    turn_step (moves target moved) (not (has_map_uid (moves target moved row).uid dropped)) (not (has_map_uid row.uid dropped)) row (left_rows dropped rows) (left_rows dropped (map (moves target moved) rows))
    (ap (λ (n : ℕ). not (has_map_uid n dropped)) (uid_stays target (place_given row.uid moved) row)) (dropped_first target moved dropped rows)

pub switched_rows : (target : ℕ) (moved : List MapPlace) (dropped : List MapUid) (rows : List MapRecord) → IsStrictlyIncreasing (map (λ (p : MapPlace). p.uid.0) moved) → CanMoveEach rows target moved → AreTableRows rows → AreTableRows (switched target moved dropped rows)
switched_rows target moved dropped rows rise can kept =
    subst AreTableRows (dropped_first target moved dropped rows)
    (filtered_rows (λ row. not (has_map_uid row.uid dropped)) (map (moves target moved) rows) (each_moved target moved rows (AllPairs-from_increasing _ rise) can kept))

-- what records name doesn't change with their places
pub switched_names : (named : List NamedInstance) (target : ℕ) (moved : List MapPlace) (dropped : List MapUid) (rows : List MapRecord) → AreNamesOf named (instances_of (left_rows dropped rows)) → AreNamesOf named (instances_of (switched target moved dropped rows))
switched_names named target moved dropped rows names = subst (AreNamesOf named) (sym (names_kept (moves target moved) (left_rows dropped rows) (λ r. names_stay target (place_given r.uid moved) r))) names

-- ---- their keys

abbrev pub left_keys : List MapUid → List OrderKey → List OrderKey
left_keys dropped keys = filter (λ k. not (has_map_uid k.uid.0 dropped)) keys

keys_filtered : {R : Type 0} → (key : R → OrderKey) (q : OrderKey → Bool) (keys : List OrderKey) (rows : List R) → AreKeysOf key keys rows → AreKeysOf key (filter q keys) (filter (λ r. q (key r)) rows)
keys_filtered key q keys rows are p = count_filter p q keys ∙ are (λ k. q k && p k) ∙ sym (count_filter (λ r. p (key r)) (λ r. q (key r)) rows)

place_key_moved : (target : ℕ) (o : Option MapPlace) (r : MapRecord) → key_at (place_key r) target o ≡ place_key (moved_record r target o)
place_key_moved target None r = refl
place_key_moved target (Some place) r = refl

guids_switched : (rows : List MapRecord) (guids : List OrderKey) (target : ℕ) (moved : List MapPlace) (dropped : List MapUid) → AreKeysOf guid_key guids rows → AreKeysOf guid_key (left_keys dropped guids) (switched target moved dropped rows)
guids_switched rows guids target moved dropped are =
    keys_mapped guid_key guid_key (moves target moved) (left_keys dropped guids) (left_rows dropped rows) (λ r. guid_key_stays target (place_given r.uid moved) r)
    (keys_filtered guid_key (λ k. not (has_map_uid k.uid.0 dropped)) guids rows are)

abbrev pub moved_keys : ℕ → List MapPlace → List MapUid → List OrderKey → List OrderKey
moved_keys target moved dropped keys = map (moved_key target moved) (left_keys dropped keys)

places_switched : (rows : List MapRecord) (places : List OrderKey) (target : ℕ) (moved : List MapPlace) (dropped : List MapUid) → AreKeysOf place_key places rows → AreKeysOf place_key (moved_keys target moved dropped places) (switched target moved dropped rows)
places_switched rows places target moved dropped are p =
    times-map p (moved_key target moved) (left_keys dropped places)
    ∙ keys_filtered place_key (λ k. not (has_map_uid k.uid.0 dropped)) places rows are (λ k. p (moved_key target moved k))
    ∙ times_same (λ (r : MapRecord). p (moved_key target moved (place_key r))) (λ (r : MapRecord). p (place_key (moves target moved r))) (λ r. ap p (place_key_moved target (place_given r.uid moved) r)) (left_rows dropped rows)
    ∙ sym (times-map (λ r. p (place_key r)) (moves target moved) (left_rows dropped rows))

abbrev place_of : MapRecord → ℕ
place_of r = place_number r.file r.offset

same_region : (a b : MapRecord) → IsTableRow a → IsTableRow b → LieApart a b → place_of a ≢ place_of b
same_region a b ka kb apart e =
    let ends_a = ka.ends in
    let some_a = ka.some in
    let ends_b = kb.ends in
    let some_b = kb.some in
    let same = place_only a.file a.offset b.file b.offset (omega (arith, ends_a, some_a)) (omega (arith, ends_b, some_b)) e in
    overlap same.1 (apart same.0)
  where
    overlap : a.offset ≡ b.offset → IsApart a.offset a.size b → ⊥
    overlap f (inl l) = let s = ka.some in omega (arith, f, l, s)
    overlap f (inr l) = let s = kb.some in omega (arith, f, l, s)

-- no two records have one place
places_once : (rows : List MapRecord) → AreTableRows rows → (n : ℕ) → times (λ r. place_of r == n) rows ≤ 1
places_once rows kept n = apart_once place_of n rows (λ i j d l lt. same_region _ _ (kept.each i d (omega (arith, l, lt))) (kept.each j d lt) (kept.apart i j d l lt))

pub places_apart : (rows : List MapRecord) (places : List OrderKey) (target : ℕ) (moved : List MapPlace) (dropped : List MapUid) → AreKeysOf place_key places rows → IsStrictlyIncreasing (map (λ (p : MapPlace). p.uid.0) moved) → CanMoveEach rows target moved → AreTableRows rows
    → (n : ℕ) → times (λ k. k.number == n) (moved_keys target moved dropped places) ≤ 1
places_apart rows places target moved dropped are rise can kept n =
    subst (λ (m : ℕ). m ≤ 1) (sym (places_switched rows places target moved dropped are (λ k. k.number == n))) (places_once (switched target moved dropped rows) (switched_rows target moved dropped rows rise can kept) n)

pub switched_indexed : (rows : List MapRecord) (guids places new : List OrderKey) (target : ℕ) (moved : List MapPlace) (dropped : List MapUid) → AreIndexed rows guids places → IsStrictlyIncreasing (map (λ (p : MapPlace). p.uid.0) moved) → CanMoveEach rows target moved
    → ((p : OrderKey → Bool) → times p new ≡ times p (moved_keys target moved dropped places)) → AreIndexed (switched target moved dropped rows) (left_keys dropped guids) new
switched_indexed rows guids places new target moved dropped are rise can same = record {
  kept = switched_rows target moved dropped rows rise can are.kept;
  by_guid = guids_switched rows guids target moved dropped are.by_guid;
  by_place = λ p. same p ∙ places_switched rows places target moved dropped are.by_place p;
}
