-- Records in a storage file that stay in it, of which none that had no count has one: what of them counts is no more.
use Rattle.purge_task.proofs.Common.{◌≡◌, ◌≢◌, ◌≤◌, ◌==◌, ◌&&◌, ℕ, Bool, true, false, cond, List, [], ◌∷◌, map, Some, refl, sym, ◌∙◌, ap, subst, arith, All, Contains, filter, nat_le, nat_lt, sum_by, if◌then◌else◌, option_map_or, eqb-true, All-contains, All-contains_itself, All-head, All-tail}
use Rattle.purge_task.proofs.Common.{All-weaker, sum_by-cons, nat_tests, is_copied_from, target_length, MapMeaning, MapRecord, record_at, IsSoundMap, found_one, AreElsewhere, but_count, records_within, messages_in, IsUnwanted, is_wanted_at}
use Rattle.task_claims.specs.Leaving.{RaisesNone}
use Rattle.purge_task.proofs.ListingLemmas.{record_there}
use Rattle.purge_task.proofs.WithinLemmas.{of_kept, of_mapped, was_within}

-- ---- one record

-- one that is in the file was in it, and had a count if it has one
pub record WasWithin (file : ℕ) (m : MapMeaning) (row : MapRecord) : Type 0 where
  pub was : MapRecord
  pub there : Contains m.records was
  pub same : but_count was ≡ but_count row
  pub none : was.count ≡ 0 → row.count ≡ 0

-- Two maps with the same records in the file.
pub record AreAlikeWithin (file : ℕ) (m n : MapMeaning) : Type 0 where
  pub was_sound : IsSoundMap m
  pub sound : IsSoundMap n
  pub same : records_within file n ≡ records_within file m
  pub unraised : RaisesNone m n

pub was_so : (file : ℕ) (m n : MapMeaning) (row : MapRecord) → AreAlikeWithin file m n → Contains n.records row → row.file ≡ file → WasWithin file m row
was_so file m n row a there here =
    let w = was_within file m n row a.same there here in
    let uid : row.uid ≡ w.0.uid = sym (ap (λ (r : MapRecord). r.uid) w.2) in
    record {
      was = w.0;
      there = w.1;
      same = w.2;
      none = λ none. a.unraised w.0.uid w.0 row (record_there m w.0 a.was_sound w.1) none (subst (λ (u : ℕ). record_at n u ≡ Some row) uid (record_there n row a.sound there));
    }

-- one that was in the file is in it
pub is_so : (file : ℕ) (m n : MapMeaning) (uid : ℕ) (row : MapRecord) → AreAlikeWithin file m n → record_at m uid ≡ Some row → row.file ≡ file → (now : MapRecord) × (record_at n uid ≡ Some now) × (but_count now ≡ but_count row)
is_so file m n uid row a there here =
    let f = found_one (λ (r : MapRecord). r.uid == uid) m.records row there in
    let w = was_within file n m row (sym a.same) f.0 here in
    let u : w.0.uid ≡ uid = ap (λ (r : MapRecord). r.uid) w.2 ∙ eqb-true row.uid uid f.1 in
    (w.0, subst (λ (k : ℕ). record_at n k ≡ Some w.0) u (record_there n w.0 a.sound w.1), w.2)

-- ---- all of them

-- what holds of those in the file without counts, or with a count as before
pub each_within : (file : ℕ) (m n : MapMeaning) (P Q : MapRecord → Type 0) → AreAlikeWithin file m n → ((was row : MapRecord) → but_count was ≡ but_count row → (was.count ≡ 0 → row.count ≡ 0) → P was → Q row) → All (λ row. row.file ≡ file → P row) m.records → All (λ row. row.file ≡ file → Q row) n.records
each_within file m n P Q a to h = All-weaker (Contains n.records) (λ row. row.file ≡ file → Q row) one n.records (All-contains_itself n.records)
  where
    one : (row : MapRecord) → Contains n.records row → row.file ≡ file → Q row
    one row there here =
        let w = was_so file m n row a there here in
        let at : w.was.file ≡ file = ap (λ (r : MapRecord). r.file) w.same ∙ here in
        to w.was row w.same w.none (All-contains (λ (r : MapRecord). r.file ≡ file → P r) m.records w.was h w.there at)

pub unwanted_within : (file : ℕ) (m n : MapMeaning) → AreAlikeWithin file m n → IsUnwanted m file → IsUnwanted n file
unwanted_within file m n a h = each_within file m n (λ row. row.count ≡ 0) (λ row. row.count ≡ 0) a (λ was row same none zero. none zero) h

-- a file without records has none
pub elsewhere_within : (file : ℕ) (m n : MapMeaning) → records_within file n ≡ records_within file m → AreElsewhere file m.records → AreElsewhere file n.records
elsewhere_within file m n same h = All-weaker (Contains n.records) (λ row. row.file ≢ file) one n.records (All-contains_itself n.records)
  where
    one : (row : MapRecord) → Contains n.records row → row.file ≢ file
    one row there here =
        let w = was_within file m n row same there here in
        All-contains (λ (r : MapRecord). r.file ≢ file) m.records w.0 h w.1 (ap (λ (r : MapRecord). r.file) w.2 ∙ here)

-- ---- sums

sum_mapped : (h : MapRecord → ℕ) (f : MapRecord → MapRecord) (rows : List MapRecord) → sum_by h (map f rows) ≡ sum_by (λ r. h (f r)) rows
sum_mapped h f [] = refl
sum_mapped h f (row ∷ rows) =
    let a = sum_by-cons h (f row) (map f rows) in
    let b = sum_by-cons (λ (r : MapRecord). h (f r)) row rows in
    let c = sum_mapped h f rows in
    omega (arith, a, b, c)

sum_passing : (h : MapRecord → ℕ) (p : MapRecord → Bool) → ((row : MapRecord) → p row ≡ false → h row ≡ 0) → (rows : List MapRecord) → sum_by h (filter p rows) ≡ sum_by h rows
sum_passing h p none [] = refl
sum_passing h p none (row ∷ rows) = by_test (p row) refl (sum_passing h p none rows)
  where
    by_test : (b : Bool) → p row ≡ b → sum_by h (filter p rows) ≡ sum_by h rows → sum_by h (cond b (row ∷ filter p rows) (filter p rows)) ≡ sum_by h (row ∷ rows)
    by_test true e c =
        let a = sum_by-cons h row (filter p rows) in
        let b = sum_by-cons h row rows in
        omega (arith, a, b, c)
    by_test false e c =
        let z = none row e in
        let b = sum_by-cons h row rows in
        omega (arith, z, b, c)

sum_less : (g h : MapRecord → ℕ) (rows : List MapRecord) → All (λ row. g row ≤ h row) rows → sum_by g rows ≤ sum_by h rows
sum_less g h [] all = omega arith
sum_less g h (row ∷ rows) all =
    let a = sum_by-cons g row rows in
    let b = sum_by-cons h row rows in
    let c = All-head (λ (r : MapRecord). g r ≤ h r) row rows all in
    let d = sum_less g h rows (All-tail (λ (r : MapRecord). g r ≤ h r) row rows all) in
    omega (arith, a, b, c, d)

abbrev in_file : ℕ → MapRecord → Bool
in_file file row = row.file == file

-- a sum over the records of a file, of what doesn't depend on counts
sum_within : (file : ℕ) (h : MapRecord → ℕ) (m : MapMeaning) → ((row : MapRecord) → in_file file row ≡ false → h row ≡ 0) → ((row : MapRecord) → h (but_count row) ≡ h row) → sum_by h (records_within file m) ≡ sum_by h m.records
sum_within file h m none uncounted =
    sum_passing h (in_file file) none (map but_count m.records) ∙ (sum_mapped h but_count m.records ∙ same m.records)
  where
    same : (rows : List MapRecord) → sum_by (λ r. h (but_count r)) rows ≡ sum_by h rows
    same [] = refl
    same (row ∷ rows) =
        let a = sum_by-cons (λ (r : MapRecord). h (but_count r)) row rows in
        let b = sum_by-cons h row rows in
        let c = uncounted row in
        let d = same rows in
        omega (arith, a, b, c, d)

pub messages_within : (file : ℕ) (m n : MapMeaning) → records_within file n ≡ records_within file m → messages_in n file ≡ messages_in m file
messages_within file m n same =
    sym (sum_within file one n none (λ row. refl)) ∙ (ap (λ (rs : List MapRecord). sum_by one rs) same ∙ sum_within file one m none (λ row. refl))
  where
    one : MapRecord → ℕ
    one row = cond (row.file == file) 1 0

    none : (row : MapRecord) → in_file file row ≡ false → one row ≡ 0
    none row e = ap (λ (b : Bool). cond b 1 0) e

-- ---- sums of what is wanted

-- which of those that are wanted are counted, by their offsets
abbrev Picks : (Bool → ℕ → Bool) → Type 0
Picks pick = (offset : ℕ) → pick false offset ≡ false

abbrev by_count : (Bool → ℕ → Bool) → ℕ → MapRecord → ℕ
by_count pick file row = cond (pick (is_copied_from file row) row.offset) row.size 0

abbrev by_uid : (Bool → ℕ → Bool) → ℕ → MapMeaning → MapRecord → ℕ
by_uid pick file m row = cond (pick ((row.file == file) && is_wanted_at m row.uid) row.offset) row.size 0

counted_same : (pick : Bool → ℕ → Bool) (file : ℕ) (m : MapMeaning) → IsSoundMap m → sum_by (by_count pick file) m.records ≡ sum_by (by_uid pick file m) m.records
counted_same pick file m sound = each m.records (All-contains_itself m.records)
  where
    one : (row : MapRecord) → Contains m.records row → by_count pick file row ≡ by_uid pick file m row
    one row there = ap (λ (b : Bool). cond (pick ((row.file == file) && b) row.offset) row.size 0) (sym (ap (λ (o : _). option_map_or (λ (r : MapRecord). nat_lt 0 r.count) o false) (record_there m row sound there)))

    each : (rows : List MapRecord) → All (Contains m.records) rows → sum_by (by_count pick file) rows ≡ sum_by (by_uid pick file m) rows
    each [] all = refl
    each (row ∷ rows) all =
        let a = sum_by-cons (by_count pick file) row rows in
        let b = sum_by-cons (by_uid pick file m) row rows in
        let c = one row (All-head (Contains m.records) row rows all) in
        let d = each rows (All-tail (Contains m.records) row rows all) in
        omega (arith, a, b, c, d)

wanted_none : (n : ℕ) → nat_lt 0 n ≡ false → n ≡ 0
wanted_none n e = grind (arith, nat_tests, e)

none_wanted : (n : ℕ) → n ≡ 0 → nat_lt 0 n ≡ false
none_wanted n e = grind (arith, nat_tests, e)

-- what is wanted was
uid_wanted : (file : ℕ) (m n : MapMeaning) (uid : ℕ) (row : MapRecord) → AreAlikeWithin file m n → Contains n.records row → row.file ≡ file → row.uid ≡ uid → is_wanted_at m uid ≡ false → is_wanted_at n uid ≡ false
uid_wanted file m n uid row a there here is none =
    let w = was_so file m n row a there here in
    let uid_was : w.was.uid ≡ uid = ap (λ (r : MapRecord). r.uid) w.same ∙ is in
    let at : record_at m uid ≡ Some w.was = subst (λ (u : ℕ). record_at m u ≡ Some w.was) uid_was (record_there m w.was a.was_sound w.there) in
    let now : record_at n uid ≡ Some row = subst (λ (u : ℕ). record_at n u ≡ Some row) is (record_there n row a.sound there) in
    let zero = wanted_none w.was.count (sym (ap (λ (o : _). option_map_or (λ (r : MapRecord). nat_lt 0 r.count) o false) at) ∙ none) in
    ap (λ (o : _). option_map_or (λ (r : MapRecord). nat_lt 0 r.count) o false) now ∙ none_wanted row.count (w.none zero)

pub wanted_within : (pick : Bool → ℕ → Bool) (file : ℕ) (m n : MapMeaning) → Picks pick → AreAlikeWithin file m n → sum_by (by_count pick file) n.records ≤ sum_by (by_count pick file) m.records
wanted_within pick file m n picks a =
    let x = counted_same pick file n a.sound in
    let y = counted_same pick file m a.was_sound in
    let u = sum_within file (by_uid pick file n) n (none n) (λ row. refl) in
    let v = sum_within file (by_uid pick file m) m (none m) (λ row. refl) in
    let s : sum_by (by_uid pick file m) (records_within file n) ≡ sum_by (by_uid pick file m) (records_within file m) = ap (sum_by (by_uid pick file m)) a.same in
    let l = sum_less (by_uid pick file n) (by_uid pick file m) (records_within file n) (All-weaker (Contains (records_within file n)) (λ row. by_uid pick file n row ≤ by_uid pick file m row) one (records_within file n) (All-contains_itself (records_within file n))) in
    omega (arith, x, y, u, v, s, l)
  where
    none : (k : MapMeaning) (row : MapRecord) → in_file file row ≡ false → by_uid pick file k row ≡ 0
    none k row e = ap (λ (b : Bool). cond (pick (b && is_wanted_at k row.uid) row.offset) row.size 0) e ∙ ap (λ (b : Bool). cond b row.size 0) (picks row.offset)

    less : (row : MapRecord) (b c : Bool) → (c ≡ false → b ≡ false) → cond (pick (true && b) row.offset) row.size 0 ≤ cond (pick (true && c) row.offset) row.size 0
    less row true true h = omega arith
    less row false true h = let z : cond (pick false row.offset) row.size 0 ≡ 0 = ap (λ (b : Bool). cond b row.size 0) (picks row.offset) in omega (arith, z)
    less row false false h = omega arith
    less row true false h = absurd (let k : true ≡ false = h refl in cc k)

    flag : (row : MapRecord) (b : Bool) → (row.file == file) ≡ b → (b ≡ true → is_wanted_at m row.uid ≡ false → is_wanted_at n row.uid ≡ false) → cond (pick (b && is_wanted_at n row.uid) row.offset) row.size 0 ≤ cond (pick (b && is_wanted_at m row.uid) row.offset) row.size 0
    flag row true e h = less row (is_wanted_at n row.uid) (is_wanted_at m row.uid) (h refl)
    flag row false e h = omega arith

    one : (row : MapRecord) → Contains (records_within file n) row → by_uid pick file n row ≤ by_uid pick file m row
    one row there =
        let o = of_mapped but_count n.records row (of_kept (in_file file) (map but_count n.records) row there) in
        let uid : o.0.uid ≡ row.uid = ap (λ (r : MapRecord). r.uid) o.2 in
        let at : o.0.file ≡ row.file = ap (λ (r : MapRecord). r.file) o.2 in
        subst (λ (b : Bool). cond (pick (b && is_wanted_at n row.uid) row.offset) row.size 0 ≤ cond (pick (b && is_wanted_at m row.uid) row.offset) row.size 0) refl
        (flag row (row.file == file) refl (λ e none. uid_wanted file m n row.uid o.0 a o.1 (at ∙ eqb-true row.file file e) uid none))

pub target_within : (file : ℕ) (m n : MapMeaning) → AreAlikeWithin file m n → target_length n file ≤ target_length m file
target_within file m n a = let l = wanted_within (λ (b : Bool) (offset : ℕ). b) file m n (λ offset. refl) a in omega (arith, l)

pub fits_within : (file from : ℕ) (m n : MapMeaning) → AreAlikeWithin file m n → sum_by (λ row. if is_copied_from file row && nat_le from row.offset then row.size else 0) n.records ≤ sum_by (λ row. if is_copied_from file row && nat_le from row.offset then row.size else 0) m.records
fits_within file from m n a = let l = wanted_within (λ (b : Bool) (offset : ℕ). b && nat_le from offset) file m n (λ offset. refl) a in omega (arith, l)
