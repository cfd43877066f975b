-- What an entry of a mailbox's log makes of what is due of each record.
use Rattle.store_core.proofs.Common.{◌≡◌, ◌≢◌, ◌==◌, ◌<◌, ◌≤◌, ◌+◌, ◌-◌, ℕ, suc, Bool, true, false, cond, List, [], ◌∷◌, map, length, get_or, slice_set, find, All, Option, Some, None, refl, sym, ◌∙◌, ap, subst, arith, AllPairs, not, ◌||◌, if◌then◌else◌, option_map_or, cond-true, cond-false, ne_eqb}
use Rattle.store_core.proofs.Common.{eq-eqb, All-head, All-tail, BoxEntry, MapUid, pairs_head, pairs_tail, LogRow, BoxMeaning, MapRecord, MapMeaning, has_map_uid, IsSoundRecord, listed_of, CoverDues, bit, due_by_box, equal_is, nat_tests, due_change_of, change_beside, dues_by, number_beside}
use Rattle.std.specs.Prelude.{nat_lt}
use Rattle.std.proofs.lemmas.List.{get_or_default}
use Rattle.std.specs.List.{position_or_len}
use Rattle.map_index.specs.Shown.{place_of_record}
use Rattle.mdbox_base.specs.declared.entries.BoxEntry.TheVariants as entry
use Rattle.model_meaning.specs.BoxMeaning.{row_at}
use Rattle.model_appends.specs.Amounts.{more_due}
use Rattle.store_core.specs.declared.due.DueChange.{DueChange}
use Rattle.store_core.specs.declared.due.DueChange.TheVariants as change
use Rattle.store_core.proofs.DueLemmas.{AreNumbers, OneEach, RecordsRise, at_own_place}

-- ---- the numbers, at their records and for every map uid

-- a change that is of this map uid alone
pub record IsOf (k : ℕ) (f : ℕ → ℕ) (h : ℕ → ℕ → ℕ) : Type 0 where
  pub own : (n : ℕ) → h k n ≡ f n
  pub other : (uid n : ℕ) → k ≢ uid → h uid n ≡ n

unchanged : (k : ℕ) (f : ℕ → ℕ) (h : ℕ → ℕ → ℕ) (numbers : ℕ → ℕ) (rows : List MapRecord) (ns : List ℕ) → IsOf k f h → All (λ row. k < row.uid) rows → AreNumbers numbers rows ns → ns ≡ map (λ row. h row.uid (numbers row.uid)) rows
unchanged k f h numbers [] [] of above a = refl
unchanged k f h numbers [] (n ∷ ns) of above a = absurd a
unchanged k f h numbers (r ∷ rs) [] of above a = absurd a
unchanged k f h numbers (r ∷ rs) (n ∷ ns) of above a =
    let less : k < r.uid = All-head (λ (row : MapRecord). k < row.uid) r rs above in
    let here : h r.uid (numbers r.uid) ≡ n = of.other r.uid (numbers r.uid) (λ e. omega (arith, less, e)) ∙ a.0 in
    let rest = unchanged k f h numbers rs ns of (All-tail (λ (row : MapRecord). k < row.uid) r rs above) a.1 in
    cc (here, rest)

pub changed_are : (k : ℕ) (f : ℕ → ℕ) (h : ℕ → ℕ → ℕ) (numbers : ℕ → ℕ) (rows : List MapRecord) (ns : List ℕ) → IsOf k f h → AllPairs RecordsRise rows → AreNumbers numbers rows ns → change_beside k f rows ns ≡ map (λ row. h row.uid (numbers row.uid)) rows
changed_are k f h numbers [] [] of rising a = refl
changed_are k f h numbers [] (n ∷ ns) of rising a = absurd a
changed_are k f h numbers (r ∷ rs) [] of rising a = absurd a
changed_are k f h numbers (r ∷ rs) (n ∷ ns) of rising a = by_test (r.uid == k) refl (changed_are k f h numbers rs ns of (pairs_tail RecordsRise r rs rising) a.1)
  where
    by_test : (t : Bool) → (r.uid == k) ≡ t → change_beside k f rs ns ≡ map (λ row. h row.uid (numbers row.uid)) rs → cond t (f n ∷ ns) (n ∷ change_beside k f rs ns) ≡ map (λ row. h row.uid (numbers row.uid)) (r ∷ rs)
    by_test true is others =
        let e : r.uid ≡ k = equal_is r.uid k is in
        let here : h r.uid (numbers r.uid) ≡ f n = ap (λ (u : ℕ). h u (numbers r.uid)) e ∙ of.own (numbers r.uid) ∙ ap f a.0 in
        let rest = unchanged k f h numbers rs ns of (subst (λ (u : ℕ). All (λ (row : MapRecord). u < row.uid) rs) e (pairs_head RecordsRise r rs rising)) a.1 in
        cc (here, rest)
    by_test false is others =
        let here : h r.uid (numbers r.uid) ≡ n = of.other r.uid (numbers r.uid) (λ e. let p = eq-eqb r.uid k (sym e) in let q : false ≡ true = sym is ∙ p in cc q) ∙ a.0 in
        cc (here, others)

pub changed_beside : (k : ℕ) (f : ℕ → ℕ) (h : ℕ → ℕ → ℕ) (uid : ℕ) (rows : List MapRecord) (ns : List ℕ) → IsOf k f h → OneEach rows ns → (find (λ row. row.uid == uid) rows ≡ None → h uid 0 ≡ 0)
    → number_beside uid rows (change_beside k f rows ns) ≡ h uid (number_beside uid rows ns)
changed_beside k f h uid [] [] of each none = sym (none refl)
changed_beside k f h uid [] (n ∷ ns) of each none = absurd each
changed_beside k f h uid (r ∷ rs) [] of each none = absurd each
changed_beside k f h uid (r ∷ rs) (n ∷ ns) of each none =
    by_tests (r.uid == k) (r.uid == uid) refl refl (λ differs. changed_beside k f h uid rs ns of each (λ e. none (cond-false (r.uid == uid) (Some r) (find (λ (row : MapRecord). row.uid == uid) rs) differs ∙ e)))
  where
    by_tests : (t s : Bool) → (r.uid == k) ≡ t → (r.uid == uid) ≡ s → ((r.uid == uid) ≡ false → number_beside uid rs (change_beside k f rs ns) ≡ h uid (number_beside uid rs ns))
        → number_beside uid (r ∷ rs) (cond t (f n ∷ ns) (n ∷ change_beside k f rs ns)) ≡ h uid (cond s n (number_beside uid rs ns))
    by_tests true true own this rest =
        let e : k ≡ uid = sym (equal_is r.uid k own) ∙ equal_is r.uid uid this in
        cond-true (r.uid == uid) (f n) (number_beside uid rs ns) this ∙ sym (of.own n) ∙ ap (λ (u : ℕ). h u n) e
    by_tests true false own this rest =
        cond-false (r.uid == uid) (f n) (number_beside uid rs ns) this
        ∙ sym (of.other uid (number_beside uid rs ns) (λ e. let p = eq-eqb r.uid uid (equal_is r.uid k own ∙ e) in let q : false ≡ true = sym this ∙ p in cc q))
    by_tests false true own this rest =
        cond-true (r.uid == uid) n (number_beside uid rs (change_beside k f rs ns)) this
        ∙ sym (of.other uid n (λ e. let p = eq-eqb r.uid k (equal_is r.uid uid this ∙ sym e) in let q : false ≡ true = sym own ∙ p in cc q))
    by_tests false false own this rest = cond-false (r.uid == uid) n (number_beside uid rs (change_beside k f rs ns)) this ∙ rest this

-- as many as before
pub each_changed : (k : ℕ) (f : ℕ → ℕ) (rows : List MapRecord) (ns : List ℕ) → OneEach rows ns → OneEach rows (change_beside k f rows ns)
each_changed k f [] [] each = tt
each_changed k f [] (n ∷ ns) each = absurd each
each_changed k f (r ∷ rs) [] each = absurd each
each_changed k f (r ∷ rs) (n ∷ ns) each = by_test (r.uid == k) (each_changed k f rs ns each)
  where
    by_test : (t : Bool) → OneEach rs (change_beside k f rs ns) → OneEach (r ∷ rs) (cond t (f n ∷ ns) (n ∷ change_beside k f rs ns))
    by_test true rest = each
    by_test false rest = rest

length_changed : (k : ℕ) (f : ℕ → ℕ) (rows : List MapRecord) (ns : List ℕ) → length (change_beside k f rows ns) ≡ length ns
length_changed k f [] ns = refl
length_changed k f (r ∷ rs) [] = refl
length_changed k f (r ∷ rs) (n ∷ ns) = by_test (r.uid == k) (length_changed k f rs ns)
  where
    by_test : (t : Bool) → length (change_beside k f rs ns) ≡ length ns → length (cond t (f n ∷ ns) (n ∷ change_beside k f rs ns)) ≡ length (n ∷ ns)
    by_test true rest = refl
    by_test false rest = ap suc rest

pub length_after : (k : ℕ) (f : ℕ → ℕ) (rows : List MapRecord) (ns ms : List ℕ) → ms ≡ change_beside k f rows ns → length ns ≡ length rows → length ms ≡ length rows
length_after k f rows ns ms is size = ap length is ∙ length_changed k f rows ns ∙ size

pub as_many : (rows : List MapRecord) (ns : List ℕ) → OneEach rows ns → length ns ≡ length rows
as_many [] [] each = refl
as_many [] (n ∷ ns) each = absurd each
as_many (r ∷ rs) [] each = absurd each
as_many (r ∷ rs) (n ∷ ns) each = ap suc (as_many rs ns each)

-- ---- one more, and one less

abbrev pub raises : ℕ → ℕ → ℕ → ℕ
raises k uid n = n + (if k == uid then 1 else 0)

abbrev pub lowers : MapUid → ℕ → ℕ → ℕ
lowers k uid n = n - bit (has_map_uid uid (k ∷ []))

add_none : (n : ℕ) → n + 0 ≡ n
add_none n = omega arith

pub less_none : (n : ℕ) → n - 0 ≡ n
less_none n = omega arith

pub is_raise : (k : ℕ) → IsOf k (λ n. n + 1) (raises k)
is_raise k = record {
  own = λ n. ap (λ (t : Bool). n + (if t then 1 else 0)) (eq-eqb k k refl);
  other = λ uid n apart. ap (λ (t : Bool). n + (if t then 1 else 0)) (ne_eqb k uid apart) ∙ add_none n;
}

pub is_lower : (k : MapUid) → IsOf k.0 (λ n. n - 1) (lowers k)
is_lower k = record {
  own = λ n. ap (λ (t : Bool). n - bit (t || false)) (eq-eqb k.0 k.0 refl);
  other = λ uid n apart. ap (λ (t : Bool). n - bit (t || false)) (ne_eqb k.0 uid apart) ∙ less_none n;
}

pub numbers_are : (numbers : ℕ → ℕ) (rows : List MapRecord) (ns : List ℕ) → AreNumbers numbers rows ns → ns ≡ map (λ row. numbers row.uid) rows
numbers_are numbers [] [] a = refl
numbers_are numbers [] (n ∷ ns) a = absurd a
numbers_are numbers (r ∷ rs) [] a = absurd a
numbers_are numbers (r ∷ rs) (n ∷ ns) a = let here : numbers r.uid ≡ n = a.0 in let rest = numbers_are numbers rs ns a.1 in cc (here, rest)

-- ---- by the entry

-- the record of a message that the entry removes is there
abbrev pub HasRemoved : BoxMeaning → BoxEntry → List MapRecord → Type 0
HasRemoved m e rows = (k : MapUid) → due_change_of m e ≡ change.Rises k → find (λ row. row.uid == k.0) rows ≡ None → ⊥

removal_change : (m : BoxMeaning) (u : _) (row : LogRow) → row_at m u ≡ Some row → option_map_or (λ row. change.Rises (record { 0 = row.map_uid })) (row_at m u) change.Stays ≡ change.Rises (record { 0 = row.map_uid })
removal_change m u row found = ap (λ (o : Option LogRow). option_map_or (λ (r : LogRow). change.Rises (record { 0 = r.map_uid })) o change.Stays) found

-- the numbers at the records are those that the entry makes
pub dues_are : (m : BoxMeaning) (e : BoxEntry) (rows : List MapRecord) (ns : List ℕ) → AllPairs RecordsRise rows → OneEach rows ns
    → dues_by (due_change_of m e) rows ns ≡ map (λ row. due_by_box m e (λ uid. number_beside uid rows ns) row.uid) rows
dues_are m (entry.N n) rows ns rising each = numbers_are (λ uid. number_beside uid rows ns) rows ns (at_own_place rows ns rising each)
dues_are m (entry.F u f) rows ns rising each = numbers_are (λ uid. number_beside uid rows ns) rows ns (at_own_place rows ns rising each)
dues_are m (entry.K u w) rows ns rising each = numbers_are (λ uid. number_beside uid rows ns) rows ns (at_own_place rows ns rising each)
dues_are m (entry.A u f t z k g w) rows ns rising each = changed_are k.0 (λ n. n - 1) (lowers k) (λ uid. number_beside uid rows ns) rows ns (is_lower k) rising (at_own_place rows ns rising each)
dues_are m (entry.R u) rows ns rising each = by_found (row_at m u.0) refl
  where
    by_found : (o : Option LogRow) → row_at m u.0 ≡ o
        → dues_by (option_map_or (λ row. change.Rises (record { 0 = row.map_uid })) o change.Stays) rows ns ≡ map (λ row. option_map_or (λ found. more_due 1 found.map_uid (λ uid. number_beside uid rows ns)) o (λ uid. number_beside uid rows ns) row.uid) rows
    by_found None is = numbers_are (λ uid. number_beside uid rows ns) rows ns (at_own_place rows ns rising each)
    by_found (Some row) is = changed_are row.map_uid (λ n. n + 1) (raises row.map_uid) (λ uid. number_beside uid rows ns) rows ns (is_raise row.map_uid) rising (at_own_place rows ns rising each)

-- for each map uid it is the number that the entry makes
pub due_is : (m : BoxMeaning) (e : BoxEntry) (rows : List MapRecord) (ns : List ℕ) (uid : ℕ) → OneEach rows ns → HasRemoved m e rows
    → number_beside uid rows (dues_by (due_change_of m e) rows ns) ≡ due_by_box m e (λ uid. number_beside uid rows ns) uid
due_is m (entry.N n) rows ns uid each there = refl
due_is m (entry.F u f) rows ns uid each there = refl
due_is m (entry.K u w) rows ns uid each there = refl
due_is m (entry.A u f t z k g w) rows ns uid each there = changed_beside k.0 (λ n. n - 1) (lowers k) uid rows ns (is_lower k) each (λ none. omega arith)
due_is m (entry.R u) rows ns uid each there = by_found (row_at m u.0) (λ k e. there k e)
  where
    by_found : (o : Option LogRow) → ((k : MapUid) → option_map_or (λ row. change.Rises (record { 0 = row.map_uid })) o change.Stays ≡ change.Rises k → find (λ row. row.uid == k.0) rows ≡ None → ⊥)
        → number_beside uid rows (dues_by (option_map_or (λ row. change.Rises (record { 0 = row.map_uid })) o change.Stays) rows ns) ≡ option_map_or (λ found. more_due 1 found.map_uid (λ uid. number_beside uid rows ns)) o (λ uid. number_beside uid rows ns) uid
    by_found None missing = refl
    by_found (Some row) missing = changed_beside row.map_uid (λ n. n + 1) (raises row.map_uid) uid rows ns (is_raise row.map_uid) each
        (λ none. by_uid (row.map_uid == uid) refl none)
      where
        by_uid : (t : Bool) → (row.map_uid == uid) ≡ t → find (λ r. r.uid == uid) rows ≡ None → 0 + (if row.map_uid == uid then 1 else 0) ≡ 0
        by_uid true is none = absurd (missing (record { 0 = row.map_uid }) refl (subst (λ (n : ℕ). find (λ (r : MapRecord). r.uid == n) rows ≡ None) (sym (equal_is row.map_uid uid is)) none))
        by_uid false is none = ap (λ (t : Bool). 0 + (if t then 1 else 0)) is

pub dues_each_by : (c : DueChange) (rows : List MapRecord) (ns : List ℕ) → OneEach rows ns → OneEach rows (dues_by c rows ns)
dues_each_by change.Stays rows ns each = each
dues_each_by (change.Rises k) rows ns each = each_changed k.0 (λ n. n + 1) rows ns each
dues_each_by (change.Falls k) rows ns each = each_changed k.0 (λ n. n - 1) rows ns each

-- ---- by the place of the record

abbrev is_uid : ℕ → MapRecord → Bool
is_uid k row = row.uid == k

-- the place of the first record with this map uid, or how many there are
abbrev the_place : ℕ → List MapRecord → ℕ
the_place k rows = position_or_len (is_uid k) rows

at_place : (k : ℕ) (f : ℕ → ℕ) (rows : List MapRecord) (ns : List ℕ) → length ns ≡ length rows → the_place k rows < length rows
    → (the_place k rows < length ns) × (change_beside k f rows ns ≡ slice_set ns (the_place k rows) (f (get_or ns (the_place k rows) 0))) × (number_beside k rows ns ≡ get_or ns (the_place k rows) 0)
at_place k f [] ns size below = absurd (omega (arith, below))
at_place k f (r ∷ rs) [] size below = absurd (omega (arith, size))
at_place k f (r ∷ rs) (n ∷ ns) size below = by_test (r.uid == k) below (λ h. at_place k f rs ns (omega (arith, size)) h)
  where
    rest_place : ℕ
    rest_place = the_place k rs

    later : rest_place < length rs → (rest_place < length ns) × (change_beside k f rs ns ≡ slice_set ns rest_place (f (get_or ns rest_place 0))) × (number_beside k rs ns ≡ get_or ns rest_place 0) → (q : ℕ) → q ≡ suc rest_place
        → (q < length (n ∷ ns)) × (n ∷ change_beside k f rs ns ≡ slice_set (n ∷ ns) q (f (get_or (n ∷ ns) q 0))) × (number_beside k rs ns ≡ get_or (n ∷ ns) q 0)
    later h r q is =
        let within = r.0 in
        subst (λ (p : ℕ). (p < length (n ∷ ns)) × (n ∷ change_beside k f rs ns ≡ slice_set (n ∷ ns) p (f (get_or (n ∷ ns) p 0))) × (number_beside k rs ns ≡ get_or (n ∷ ns) p 0)) (sym is)
        (omega (arith, within), ap (λ (xs : List ℕ). n ∷ xs) r.1, r.2)

    by_test : (t : Bool) → cond (not t) (1 + rest_place) 0 < length (r ∷ rs)
        → (rest_place < length rs → (rest_place < length ns) × (change_beside k f rs ns ≡ slice_set ns rest_place (f (get_or ns rest_place 0))) × (number_beside k rs ns ≡ get_or ns rest_place 0))
        → (cond (not t) (1 + rest_place) 0 < length (n ∷ ns)) × (cond t (f n ∷ ns) (n ∷ change_beside k f rs ns) ≡ slice_set (n ∷ ns) (cond (not t) (1 + rest_place) 0) (f (get_or (n ∷ ns) (cond (not t) (1 + rest_place) 0) 0)))
        × (cond t n (number_beside k rs ns) ≡ get_or (n ∷ ns) (cond (not t) (1 + rest_place) 0) 0)
    by_test true h rest = (omega arith, refl, refl)
    by_test false h rest = let b : rest_place < length rs = omega (arith, h) in later b (rest b) (1 + rest_place) (omega arith)

nowhere : (k : ℕ) (f : ℕ → ℕ) (rows : List MapRecord) (ns : List ℕ) → length rows ≤ the_place k rows → change_beside k f rows ns ≡ ns
nowhere k f [] ns past = refl
nowhere k f (r ∷ rs) [] past = refl
nowhere k f (r ∷ rs) (n ∷ ns) past = by_test (r.uid == k) past (λ h. nowhere k f rs ns h)
  where
    by_test : (t : Bool) → length (r ∷ rs) ≤ cond (not t) (1 + the_place k rs) 0 → (length rs ≤ the_place k rs → change_beside k f rs ns ≡ ns) → cond t (f n ∷ ns) (n ∷ change_beside k f rs ns) ≡ n ∷ ns
    by_test true h rest = absurd (omega (arith, h))
    by_test false h rest = ap (λ (xs : List ℕ). n ∷ xs) (rest (omega (arith, h)))

less_is : (m n : ℕ) → nat_lt m n ≡ true → m < n
less_is m n e = grind (arith, nat_tests)

not_less : (m n : ℕ) → nat_lt m n ≡ false → n ≤ m
not_less m n e = grind (arith, nat_tests)

-- what a look-up of the place answers
pub found_place : (k : ℕ) (f : ℕ → ℕ) (m : MapMeaning) (ns : List ℕ) (place : ℕ) → length ns ≡ length m.records → Some place ≡ place_of_record m k
    → (place < length ns) × (change_beside k f m.records ns ≡ slice_set ns place (f (get_or ns place 0))) × (number_beside k m.records ns ≡ get_or ns place 0)
found_place k f m ns place size e = by_test (nat_lt (the_place k m.records) (length m.records)) refl e
  where
    by_test : (t : Bool) → nat_lt (the_place k m.records) (length m.records) ≡ t → Some place ≡ cond t (Some (the_place k m.records)) None
        → (place < length ns) × (change_beside k f m.records ns ≡ slice_set ns place (f (get_or ns place 0))) × (number_beside k m.records ns ≡ get_or ns place 0)
    by_test true is h =
        let e : Some place ≡ Some (the_place k m.records) = h in
        let same : place ≡ the_place k m.records = cc e in
        subst (λ (p : ℕ). (p < length ns) × (change_beside k f m.records ns ≡ slice_set ns p (f (get_or ns p 0))) × (number_beside k m.records ns ≡ get_or ns p 0)) (sym same) (at_place k f m.records ns size (less_is (the_place k m.records) (length m.records) is))
    by_test false is h = absurd (cc (let e : Some place ≡ None = h in e))

pub lost_place : (k : ℕ) (f : ℕ → ℕ) (m : MapMeaning) (ns : List ℕ) → None ≡ place_of_record m k → change_beside k f m.records ns ≡ ns
lost_place k f m ns e = by_test (nat_lt (the_place k m.records) (length m.records)) refl e
  where
    by_test : (t : Bool) → nat_lt (the_place k m.records) (length m.records) ≡ t → None ≡ cond t (Some (the_place k m.records)) None → change_beside k f m.records ns ≡ ns
    by_test true is h = absurd (cc (let e : None ≡ Some (the_place k m.records) = h in e))
    by_test false is h = nowhere k f m.records ns (not_less (the_place k m.records) (length m.records) is)

-- ---- a number is at most its record's count

pub number_few : (logs : List (List BoxEntry)) (highest uid : ℕ) (rows : List MapRecord) (ns : List ℕ) → CoverDues logs rows ns → All (IsSoundRecord highest) rows → number_beside uid rows ns ≤ 65535
number_few logs highest uid [] [] covers sound = omega arith
number_few logs highest uid [] (n ∷ ns) covers sound = absurd covers
number_few logs highest uid (r ∷ rs) [] covers sound = absurd covers
number_few logs highest uid (r ∷ rs) (n ∷ ns) covers sound = by_test (r.uid == uid) (number_few logs highest uid rs ns covers.1 (All-tail (IsSoundRecord highest) r rs sound))
  where
    own : IsSoundRecord highest r
    own = All-head (IsSoundRecord highest) r rs sound

    by_test : (t : Bool) → number_beside uid rs ns ≤ 65535 → cond t n (number_beside uid rs ns) ≤ 65535
    by_test true rest = let c : listed_of logs r.uid + n ≤ r.count = covers.0 in let m = own.count in omega (arith, c, m)
    by_test false rest = rest

-- one more at a record that is there
pub raised_number : (k : ℕ) (rows : List MapRecord) (ns : List ℕ) → OneEach rows ns → (find (λ row. row.uid == k) rows ≡ None → ⊥) → number_beside k rows (change_beside k (λ n. n + 1) rows ns) ≡ number_beside k rows ns + 1
raised_number k rows ns each there = changed_beside k (λ n. n + 1) (raises k) k rows ns (is_raise k) each (λ none. absurd (there none)) ∙ (is_raise k).own (number_beside k rows ns)

-- the number that was read at a place
pub own_number : (ns : List ℕ) (place x : ℕ) → place < length ns → x ≡ get_or ns place x → x ≡ get_or ns place 0
own_number ns place x within e = e ∙ get_or_default ns place x 0 within
