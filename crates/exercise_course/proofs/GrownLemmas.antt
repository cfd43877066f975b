-- The records that a run of a made script adds, apart from those that were there: which GUIDs they have, and what counts are kept of them.
use Rattle.exercise_course.proofs.Common.{◌≡◌, ◌≢◌, ◌≤◌, ◌<◌, ◌+◌, ◌-◌, ◌==◌, ℕ, suc, Bool, true, false, not, cond, if◌then◌else◌, All, AllPairs, List, [], ◌∷◌, ◌++◌, filter, find, map, sum_by, Option, Some, None, refl, AllByRecursion, option_map_or, option_or, bytes_eq, sym, ◌∙◌, ap, arith, subst}
use Rattle.exercise_course.proofs.Common.{eqb-true, append-nil, All-head, All-weaker, find-append, sum_by-cons, sum_by_push, MapEntry, MapMeaning, MapRecord, count_of, map_applied, map_meaning, record_changed, map_more, pairs_head, pairs_tail, text_is, Run, RunEvent, and_then, entries_of, map_of}
use Rattle.exercise_course.proofs.Common.{entries_more}
use Rattle.std.proofs.Common.{append_assoc}
use Rattle.mdbox_base.specs.declared.entries.MapEntry.TheVariants as entry
use Rattle.mdbox_base.specs.declared.ids.MapUid.{MapUid}
use Rattle.exercise_course.proofs.CountingLemmas.{IsCountable, IsShort, IsStep, Rises, all_kept, apart_back, count_of_row, missed_count, missed_sum, up_by, up_in}

-- The records are those that were there, with whatever counts, and others, whose counts sum to so many at the most.
pub record Grown (first : List MapRecord) (most : ℕ) (rows : List MapRecord) : Type 0 where
  pub was : List MapRecord
  pub new : List MapRecord
  pub rows_are : rows ≡ was ++ new
  pub guids : map (λ row. row.guid) was ≡ map (λ row. row.guid) first
  pub few : sum_by (λ row. row.count) new ≤ most

map_both : (f : MapRecord → MapRecord) (xs ys : List MapRecord) → map f (xs ++ ys) ≡ map f xs ++ map f ys
map_both f [] ys = refl
map_both f (x ∷ xs) ys = ap (λ (l : List MapRecord). f x ∷ l) (map_both f xs ys)

same_guids : (f : MapRecord → MapRecord) → ((row : MapRecord) → (f row).guid ≡ row.guid) → (rows : List MapRecord) → map (λ row. row.guid) (map f rows) ≡ map (λ row. row.guid) rows
same_guids f same [] = refl
same_guids f same (x ∷ xs) = ap (λ (g : List ℕ). g ∷ map (λ row. row.guid) (map f xs)) (same x) ∙ ap (λ (l : List (List ℕ)). x.guid ∷ l) (same_guids f same xs)

-- rows that are changed, whose counts sum to so many more at the most
grown_changed : (first rows : List MapRecord) (most up : ℕ) (f : MapRecord → MapRecord) → ((row : MapRecord) → (f row).guid ≡ row.guid) → (g : Grown first most rows) → sum_by (λ row. row.count) (map f g.new) ≤ sum_by (λ row. row.count) g.new + up
    → Grown first (most + up) (map f (filter (λ row. not false) rows) ++ [])
grown_changed first rows most up f same g le = record {
  was = map f g.was;
  new = map f g.new;
  rows_are = append-nil (map f (filter (λ row. not false) rows)) ∙ ap (map f) (all_kept rows ∙ g.rows_are) ∙ map_both f g.was g.new;
  guids = same_guids f same g.was ∙ g.guids;
  few = (let k = g.few in omega (arith, le, k));
}

same_guid : (row : MapRecord) (n : ℕ) (b : Bool) → (if b then record row { count = n } else row).guid ≡ row.guid
same_guid row n true = refl
same_guid row n false = refl

pairs_right : (xs ys : List MapRecord) → AllPairs Rises (xs ++ ys) → AllPairs Rises ys
pairs_right [] ys p = p
pairs_right (x ∷ xs) ys p = pairs_right xs ys (pairs_tail Rises x (xs ++ ys) p)

-- no row is raised twice
raised_most : (uid : MapUid) (rows : List MapRecord) → AllPairs Rises rows → sum_by count_of_row (map (record_changed (entry.U uid)) rows) ≤ sum_by count_of_row rows + 1
raised_most uid [] p = omega arith
raised_most uid (x ∷ xs) p = by_test (uid.0 == x.uid) refl (raised_most uid xs (pairs_tail Rises x xs p))
  where
    a : sum_by count_of_row (map (record_changed (entry.U uid)) (x ∷ xs)) ≡ (record_changed (entry.U uid) x).count + sum_by count_of_row (map (record_changed (entry.U uid)) xs)
    a = sum_by-cons count_of_row (record_changed (entry.U uid) x) (map (record_changed (entry.U uid)) xs)

    b : sum_by count_of_row (x ∷ xs) ≡ x.count + sum_by count_of_row xs
    b = sum_by-cons count_of_row x xs

    by_test : (t : Bool) → (uid.0 == x.uid) ≡ t → sum_by count_of_row (map (record_changed (entry.U uid)) xs) ≤ sum_by count_of_row xs + 1 → sum_by count_of_row (map (record_changed (entry.U uid)) (x ∷ xs)) ≤ sum_by count_of_row (x ∷ xs) + 1
    by_test true e next =
        let is = eqb-true uid.0 x.uid e in
        let behind = All-weaker (Rises x) (λ (row : MapRecord). uid.0 < row.uid) (λ row lt. omega (arith, is, lt)) xs (pairs_head Rises x xs p) in
        let rest = missed_sum (record_changed (entry.U uid)) uid.0 (λ row none. missed_count row (row.count + 1) (uid.0 == row.uid) (apart_back row.uid uid.0 none)) xs behind in
        let c : (record_changed (entry.U uid) x).count ≡ x.count + 1 = ap (λ (t : Bool). (if t then record x { count = x.count + 1 } else x).count) e in
        omega (arith, a, b, rest, c)
    by_test false e next =
        let c : (record_changed (entry.U uid) x).count ≡ x.count = ap (λ (t : Bool). (if t then record x { count = x.count + 1 } else x).count) e in
        omega (arith, a, b, next, c)

no_more_sum : (f : MapRecord → MapRecord) → ((row : MapRecord) → (f row).count ≤ row.count) → (rows : List MapRecord) → sum_by count_of_row (map f rows) ≤ sum_by count_of_row rows + 0
no_more_sum f le [] = omega arith
no_more_sum f le (x ∷ xs) =
    let a = sum_by-cons count_of_row (f x) (map f xs) in
    let b = sum_by-cons count_of_row x xs in
    let h = le x in
    let r = no_more_sum f le xs in
    omega (arith, a, b, h, r)

less_count : (row : MapRecord) (b : Bool) → (if b then record row { count = row.count - 1 } else row).count ≤ row.count
less_count row true = omega arith
less_count row false = omega arith

grown_still : (first rows : List MapRecord) (most : ℕ) → Grown first most rows → Grown first (most + 0) (map (λ row. row) (filter (λ row. not false) rows) ++ [])
grown_still first rows most g = grown_changed first rows most 0 (λ row. row) (λ row. refl) g (no_more_sum (λ row. row) (λ row. omega arith) g.new)

grown_on : (first : List MapRecord) (m : MapMeaning) (e : MapEntry) (most : ℕ) → IsStep e → IsCountable m → Grown first most m.records → Grown first (most + up_in e) (map_applied e m).records
grown_on first m (entry.H h) most s c g = grown_still first m.records most g
grown_on first m (entry.B mailbox generation name) most s c g = grown_still first m.records most g
grown_on first m (entry.G mailbox generation) most s c g = grown_still first m.records most g
grown_on first m (entry.E file) most s c g = grown_still first m.records most g
grown_on first m (entry.U uid) most s c g =
    grown_changed first m.records most 1 (record_changed (entry.U uid)) (λ row. same_guid row (row.count + 1) (uid.0 == row.uid)) g
    (raised_most uid g.new (pairs_right g.was g.new (subst (AllPairs Rises) g.rows_are c.rising)))
grown_on first m (entry.D uids) most s c g =
    grown_changed first m.records most 0 (record_changed (entry.D uids)) (λ row. same_guid row (row.count - 1) _) g (no_more_sum (record_changed (entry.D uids)) (λ row. less_count row _) g.new)
grown_on first m (entry.S origin count uid file offset size guid instances) most s c g =
    let made : MapRecord = record { uid = uid.0; origin = origin; count = count; file = file.0; offset = offset; size = size; guid = guid.0; instances = instances } in
    let still = grown_still first m.records most g in
    let rows : map (λ row. row) (filter (λ row. not false) m.records) ≡ still.was ++ still.new = sym (append-nil (map (λ row. row) (filter (λ row. not false) m.records))) ∙ still.rows_are in
    let sum = sum_by_push count_of_row still.new made in
    let k = still.few in
    record {
      was = still.was;
      new = still.new ++ made ∷ [];
      rows_are = ap (λ (l : List MapRecord). l ++ made ∷ []) rows ∙ append_assoc still.was still.new (made ∷ []);
      guids = still.guids;
      few = omega (arith, sum, k);
    }
grown_on first m (entry.T counts) most s c g = absurd s
grown_on first m (entry.P file target moved dropped) most s c g = absurd s
grown_on first m (entry.X mailbox amounts) most s c g = absurd s
grown_on first m (entry.V mailbox name) most s c g = absurd s

pub run_grown : (first : List MapRecord) (run : Run) (event : RunEvent) (most : ℕ) → IsShort event.map_entries → IsCountable (map_of run) → Grown first most (map_of run).records → Grown first (most + up_by event) (map_of (and_then run event)).records
run_grown first run event most short c g = subst (λ (l : List MapEntry). Grown first (most + up_by event) (map_meaning run.store l).records) (sym (entries_more run event)) (by_entries event.map_entries short)
  where
    by_entries : (es : List MapEntry) → IsShort es → Grown first (most + sum_by up_in es) (map_meaning run.store (entries_of run ++ es)).records
    by_entries [] s =
        let z : most + 0 ≡ most = omega arith in
        subst (λ (l : List MapEntry). Grown first (most + 0) (map_meaning run.store l).records) (sym (append-nil (entries_of run))) (subst (λ (n : ℕ). Grown first n (map_of run).records) (sym z) g)
    by_entries (e ∷ []) s =
        let a : sum_by up_in (e ∷ []) ≡ up_in e = (let k = sum_by-cons up_in e [] in omega (arith, k)) in
        subst (λ (n : ℕ). Grown first (most + n) (map_meaning run.store (entries_of run ++ e ∷ [])).records) (sym a)
        (subst (λ (k : MapMeaning). Grown first (most + up_in e) k.records) (sym (map_more run.store (entries_of run) e)) (grown_on first (map_of run) e most s c g))
    by_entries (e ∷ more ∷ rest) s = absurd s

-- ---- GUIDs

-- no record that was there has this GUID
abbrev pub IsNew : List MapRecord → List ℕ → Type 0
IsNew first guid = AllByRecursion (λ other. other ≢ guid) (map (λ row. row.guid) first)

find_none : (guid : List ℕ) (rows : List MapRecord) → AllByRecursion (λ other. other ≢ guid) (map (λ row. row.guid) rows) → find (λ row. bytes_eq row.guid guid) rows ≡ None
find_none guid [] a = refl
find_none guid (x ∷ xs) a = by_test (bytes_eq x.guid guid) refl (find_none guid xs a.1)
  where
    by_test : (b : Bool) → bytes_eq x.guid guid ≡ b → find (λ row. bytes_eq row.guid guid) xs ≡ None → cond b (Some x) (find (λ row. bytes_eq row.guid guid) xs) ≡ None
    by_test true e next = absurd (a.0 (text_is x.guid guid e))
    by_test false e next = next

find_few : (p : MapRecord → Bool) (rows : List MapRecord) → option_map_or (λ row. row.count) (find p rows) 0 ≤ sum_by count_of_row rows
find_few p [] = omega arith
find_few p (x ∷ xs) = by_test (p x) (find_few p xs)
  where
    c : sum_by count_of_row (x ∷ xs) ≡ x.count + sum_by count_of_row xs
    c = sum_by-cons count_of_row x xs

    by_test : (b : Bool) → option_map_or (λ row. row.count) (find p xs) 0 ≤ sum_by count_of_row xs → option_map_or (λ row. row.count) (cond b (Some x) (find p xs)) 0 ≤ sum_by count_of_row (x ∷ xs)
    by_test true next = omega (arith, c)
    by_test false next = omega (arith, c, next)

-- the count that is kept of a new GUID
pub new_count : (first : List MapRecord) (m : MapMeaning) (most : ℕ) (guid : List ℕ) → Grown first most m.records → IsNew first guid → count_of m guid ≤ most
new_count first m most guid g new =
    let none = find_none guid g.was (subst (AllByRecursion (λ (other : List ℕ). other ≢ guid)) (sym g.guids) new) in
    let at : find (λ row. bytes_eq row.guid guid) m.records ≡ find (λ row. bytes_eq row.guid guid) g.new =
    ap (find (λ row. bytes_eq row.guid guid)) g.rows_are ∙ find-append (λ (row : MapRecord). bytes_eq row.guid guid) g.was g.new ∙ ap (λ (o : Option MapRecord). option_or o (find (λ row. bytes_eq row.guid guid) g.new)) none in
    let is : count_of m guid ≡ option_map_or (λ row. row.count) (find (λ row. bytes_eq row.guid guid) g.new) 0 = ap (λ (o : Option MapRecord). option_map_or (λ row. row.count) o 0) at in
    let le = find_few (λ row. bytes_eq row.guid guid) g.new in
    let few = g.few in
    omega (arith, is, le, few)

-- a GUID that no record has now is new
pub unseen_new : (first rows : List MapRecord) (most : ℕ) (guid : List ℕ) → Grown first most rows → All (λ row. row.guid ≢ guid) rows → IsNew first guid
unseen_new first rows most guid g a = subst (AllByRecursion (λ (other : List ℕ). other ≢ guid)) g.guids (left g.was g.new (subst (All (λ (row : MapRecord). row.guid ≢ guid)) g.rows_are a))
  where
    left : (xs ys : List MapRecord) → All (λ row. row.guid ≢ guid) (xs ++ ys) → AllByRecursion (λ other. other ≢ guid) (map (λ row. row.guid) xs)
    left [] ys h = tt
    left (x ∷ xs) ys h = (All-head (λ (row : MapRecord). row.guid ≢ guid) x (xs ++ ys) h, left xs ys (λ k d lt. h (suc k) d (omega (arith, lt))))
