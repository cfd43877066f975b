-- What a purge beside no other task makes of the records of the map.
use Rattle.purge_task.proofs.Common.{◌≡◌, ◌≢◌, ◌+◌, ◌==◌, ◌&&◌, ◌||◌, ℕ, Bool, true, false, not, cond, List, [], ◌∷◌, length, map, Option, Some, None, refl, sym, ◌∙◌, ap, subst, arith, All, Contains, count_by, filter, if◌then◌else◌, eqb-true, length-map, All-contains, All-contains_itself, All-head}
use Rattle.purge_task.proofs.Common.{All-tail, All-weaker, sum_by-cons, apart_from_place, MapPlace, FileNo, MapUid, HasRecord, MapFits, MapMeaning, MapRecord, has_map_uid, is_sealed, moved_record, place_given, record_at, IsSoundMap, equal_yes, at_uid, DropsUnwanted, HasEmptied, but_file}
use Rattle.purge_task.proofs.Common.{stays_beside, with_file, fall}
use Rattle.journal.specs.QuietPurge.{goes}
use Rattle.mdbox_base.specs.declared.entries.MapEntry.TheVariants as map_entry
use Rattle.model_octets.proofs.SearchLemmas.{both_same}
use Rattle.purge_task.proofs.CopyLemmas.{kept_of}
use Rattle.purge_task.proofs.DropLemmas.{left_or_gone, listed_one, same_apart}
use Rattle.purge_task.proofs.SwitchRowLemmas.{IsLeftAlone, alone, map_switched, rows_are}
use Rattle.purge_task.proofs.WithinLemmas.{mapped_of}

-- ---- as it begins

kept_whole : {X : Type 0} → (p : X → Bool) (xs : List X) → ((x : X) → p x ≡ true) → map (λ x. x) (filter p xs) ≡ xs
kept_whole p [] all = refl
kept_whole p (x ∷ xs) all = ap (λ (b : Bool). map (λ x. x) (if b then x ∷ filter p xs else filter p xs)) (all x) ∙ ap (λ (ys : List _). x ∷ ys) (kept_whole p xs all)

pub emptied_none : (m : MapMeaning) (is_left : ℕ → Bool) → HasEmptied m m (λ file. false) is_left
emptied_none m is_left = record {
  placed = λ row. row;
  same = λ row. refl;
  still = λ row c e. refl;
  elsewhere = λ row file c s d l. absurd (let k : false ≡ true = d in cc k);
  records = sym (kept_whole (stays_beside (λ file. false)) m.records (λ row. refl));
}

-- ---- a switch

map_both : {X : Type 0} → (f g : X → X) (p q r : X → Bool) (xs : List X) → All (λ x. (p x ≡ true → q (f x) ≡ r x) × (p x ≡ false → r x ≡ false)) xs → map g (filter q (map f (filter p xs))) ≡ map (λ x. g (f x)) (filter r xs)
map_both f g p q r [] h = refl
map_both f g p q r (x ∷ xs) h = by_test (map_both f g p q r xs (All-tail (λ y. (p y ≡ true → q (f y) ≡ r y) × (p y ≡ false → r y ≡ false)) x xs h)) (p x) refl
  where
    here : (p x ≡ true → q (f x) ≡ r x) × (p x ≡ false → r x ≡ false)
    here = All-head (λ y. (p y ≡ true → q (f y) ≡ r y) × (p y ≡ false → r y ≡ false)) x xs h

    both : map g (filter q (map f (filter p xs))) ≡ map (λ y. g (f y)) (filter r xs) → (a b : Bool) → a ≡ b → map g (if a then f x ∷ filter q (map f (filter p xs)) else filter q (map f (filter p xs))) ≡ map (λ y. g (f y)) (if b then x ∷ filter r xs else filter r xs)
    both rest true true e = ap (λ (ys : List _). g (f x) ∷ ys) rest
    both rest false false e = rest
    both rest true false e = absurd (let k : true ≡ false = e in cc k)
    both rest false true e = absurd (let k : false ≡ true = e in cc k)

    by_test : map g (filter q (map f (filter p xs))) ≡ map (λ y. g (f y)) (filter r xs) → (b : Bool) → p x ≡ b → map g (filter q (map f (if p x then x ∷ filter p xs else filter p xs))) ≡ map (λ y. g (f y)) (if r x then x ∷ filter r xs else filter r xs)
    by_test rest true e = ap (λ (b : Bool). map g (filter q (map f (if b then x ∷ filter p xs else filter p xs)))) e ∙ both rest (q (f x)) (r x) (here.0 e)
    by_test rest false e = ap (λ (b : Bool). map g (filter q (map f (if b then x ∷ filter p xs else filter p xs)))) e ∙ (rest ∙ sym (ap (λ (b : Bool). map (λ y. g (f y)) (if b then x ∷ filter r xs else filter r xs)) (here.1 e)))

or_none_left : (a b : Bool) → (a || b) ≡ false → (a ≡ false) × (b ≡ false)
or_none_left false false e = (refl, refl)
or_none_left true b e = absurd (let k : true ≡ false = e in cc k)
or_none_left false true e = absurd (let k : true ≡ false = e in cc k)

and_yes : (a b : Bool) → (a && not b) ≡ true → (a ≡ true) × (b ≡ false)
and_yes true false e = (refl, refl)
and_yes true true e = absurd (let k : false ≡ true = e in cc k)
and_yes false b e = absurd (let k : false ≡ true = e in cc k)

not_both : (a b : Bool) → a ≡ false → not (a && b) ≡ true
not_both a b e = ap (λ (c : Bool). not (c && b)) e

wanted_stays : (a b c : Bool) → not ((a || c) && b) ≡ true → (a || c) ≡ true → not (a && b) ≡ true
wanted_stays true b c s d = s
wanted_stays false b c s d = refl

stays_less : (a b c : Bool) → not (a && b) ≡ false → not ((a || c) && b) ≡ false
stays_less true true c e = refl
stays_less true false c e = absurd (let k : true ≡ false = e in cc k)
stays_less false b c e = absurd (let k : true ≡ false = e in cc k)

-- A file was switched that was left, and nothing was moved to one that is left.
pub emptied_more : (old m : MapMeaning) (done is_left : ℕ → Bool) (f : FileNo) (t : ℕ) (ms : List MapPlace) (us : List MapUid) → IsSoundMap m → MapFits m (map_entry.P f t ms us) → All (λ row. row.file ≡ f.0 → row.count ≡ 0 → has_map_uid row.uid us ≡ true) m.records
    → done f.0 ≡ false → is_left f.0 ≡ true → is_left t ≡ false → HasEmptied old m done is_left → HasEmptied old (map_switched f t ms us m) (with_file f.0 done) (but_file f.0 is_left)
emptied_more old m done is_left f t ms us sound fits each undone left unleft h = record {
  placed = λ row. changed (h.placed row);
  same = λ row. same_apart (h.placed row) t (place_given (h.placed row).uid ms) ∙ h.same row;
  still = still;
  elsewhere = elsewhere;
  records = rows_are f t ms us m ∙ (ap (λ (rs : List MapRecord). map changed (filter stays rs)) h.records ∙ map_both h.placed changed (stays_beside done) stays (stays_beside (with_file f.0 done)) old.records each_row);
}
  where
    changed : MapRecord → MapRecord
    changed row = moved_record row t (place_given row.uid ms)

    stays : MapRecord → Bool
    stays row = not (has_map_uid row.uid us)

    later : MapRecord → Bool
    later = stays_beside (with_file f.0 done)

    -- what stays is there
    there : (row : MapRecord) → Contains old.records row → stays_beside done row ≡ true → Contains m.records (h.placed row)
    there row c s = subst (λ (rs : List MapRecord). Contains rs (h.placed row)) (sym h.records) (mapped_of h.placed (filter (stays_beside done) old.records) row (kept_of (stays_beside done) old.records row c s))

    -- and is left alone, if it lies in another file
    unmoved : (row : MapRecord) → Contains m.records row → row.file ≢ f.0 → IsLeftAlone ms us row
    unmoved row c apart = All-contains (λ (r : MapRecord). r.file ≢ f.0 → IsLeftAlone ms us r) m.records row (alone f t ms us m sound fits) c apart

    same_place : (row : MapRecord) → Contains m.records row → row.file ≢ f.0 → changed row ≡ row
    same_place row c apart = ap (λ (o : Option MapPlace). moved_record row t o) (unmoved row c apart).1

    not_here : (row : MapRecord) → (row.file == f.0) ≡ false → row.file ≢ f.0
    not_here row e is = fall (row.file == f.0) (equal_yes row.file f.0 is) e

    still : (row : MapRecord) → Contains old.records row → with_file f.0 done row.file ≡ false → changed (h.placed row) ≡ row
    still row c e =
        let both = or_none_left (done row.file) (row.file == f.0) e in
        let is = h.still row c both.0 in
        ap changed is ∙ same_place row (subst (λ (r : MapRecord). Contains m.records r) is (there row c (not_both (done row.file) (row.count == 0) both.0))) (not_here row both.1)

    -- a record that lies in no file that is left
    done_before : (row : MapRecord) (file : ℕ) → Contains old.records row → stays_beside done row ≡ true → done row.file ≡ true → is_left file ≡ true → (changed (h.placed row)).file ≢ file
    done_before row file c s d l is =
        h.elsewhere row file c s d l (sym (ap (λ (r : MapRecord). r.file) (same_place (h.placed row) (there row c s) (h.elsewhere row f.0 c s d left))) ∙ is)

    done_now : (row : MapRecord) (file : ℕ) → row.file ≡ f.0 → is_left file ≡ true → (file == f.0) ≡ false → (o : Option MapPlace) → (moved_record row t o).file ≢ file
    done_now row file here l apart None is = fall (file == f.0) (equal_yes file f.0 (sym is ∙ here)) apart
    done_now row file here l apart (Some place) is = fall (is_left t) (ap is_left is ∙ l) unleft

    elsewhere : (row : MapRecord) (file : ℕ) → Contains old.records row → stays_beside (with_file f.0 done) row ≡ true → with_file f.0 done row.file ≡ true → but_file f.0 is_left file ≡ true → (changed (h.placed row)).file ≢ file
    elsewhere row file c s d l = by_done (done row.file) refl
      where
        both : (is_left file ≡ true) × ((file == f.0) ≡ false)
        both = and_yes (is_left file) (file == f.0) l

        by_done : (b : Bool) → done row.file ≡ b → (changed (h.placed row)).file ≢ file
        by_done true e = done_before row file c (wanted_stays (done row.file) (row.count == 0) (row.file == f.0) s d) e both.0
        by_done false e =
            let here : row.file ≡ f.0 = eqb-true row.file f.0 (sym (ap (λ (b : Bool). b || row.file == f.0) e) ∙ d) in
            subst (λ (r : MapRecord). (changed r).file ≢ file) (sym (h.still row c e)) (done_now row file here both.0 both.1 (place_given row.uid ms))

    less : (row : MapRecord) → stays_beside done row ≡ false → stays_beside (with_file f.0 done) row ≡ false
    less row e = stays_less (done row.file) (row.count == 0) (row.file == f.0) e

    -- of the file's records those go that have no count
    listed : (row : MapRecord) → Contains m.records row → row.file ≡ f.0 → has_map_uid row.uid us ≡ (row.count == 0)
    listed row c here = both_same (has_map_uid row.uid us) (row.count == 0)
        (λ e. (let u = listed_one us row.uid e in
        let w = All-contains (λ (v : MapUid). HasRecord m v.0 (λ r. (r.file ≡ f.0) × (r.count ≡ 0))) us u.0 fits.dropped_here u.1 in
        let same : w.0 ≡ row = (let k : Some w.0 ≡ Some row = sym (subst (λ (n : ℕ). record_at m n ≡ Some w.0) u.2 w.1) ∙ at_uid m row sound c in cc k) in
        equal_yes row.count 0 (subst (λ (r : MapRecord). r.count ≡ 0) same w.2.1)))
        (λ e. All-contains (λ (r : MapRecord). r.file ≡ f.0 → r.count ≡ 0 → has_map_uid r.uid us ≡ true) m.records row each c here (eqb-true row.count 0 e))

    alike : (row : MapRecord) → Contains old.records row → stays_beside done row ≡ true → stays (h.placed row) ≡ stays_beside (with_file f.0 done) row
    alike row c s = by_file (row.file == f.0) refl
      where
        by_done : (row.file == f.0) ≡ false → (b : Bool) → done row.file ≡ b → (h.placed row).file ≢ f.0
        by_done e true d = h.elsewhere row f.0 c s d left
        by_done e false d = subst (λ (r : MapRecord). r.file ≢ f.0) (sym (h.still row c d)) (not_here row e)

        by_file : (b : Bool) → (row.file == f.0) ≡ b → stays (h.placed row) ≡ stays_beside (with_file f.0 done) row
        by_file true e =
            let here : row.file ≡ f.0 = eqb-true row.file f.0 e in
            let d : done row.file ≡ false = ap done here ∙ undone in
            let is = h.still row c d in
            ap stays is ∙ (ap not (listed row (subst (λ (r : MapRecord). Contains m.records r) is (there row c s)) here) ∙ sym (ap (λ (a : Bool). not ((a || row.file == f.0) && (row.count == 0))) d ∙ ap (λ (a : Bool). not (a && (row.count == 0))) e))
        by_file false e = ap not (unmoved (h.placed row) (there row c s) (by_done e (done row.file) refl)).0 ∙ sym (or_false (done row.file) ∙ s)
          where
            or_false : (a : Bool) → not ((a || row.file == f.0) && (row.count == 0)) ≡ not (a && (row.count == 0))
            or_false true = refl
            or_false false = ap (λ (k : Bool). not (k && (row.count == 0))) e

    each_row : All (λ row. (stays_beside done row ≡ true → stays (h.placed row) ≡ later row) × (stays_beside done row ≡ false → later row ≡ false)) old.records
    each_row = All-weaker (Contains old.records) (λ row. (stays_beside done row ≡ true → stays (h.placed row) ≡ later row) × (stays_beside done row ≡ false → later row ≡ false)) (λ row c. (alike row c, less row)) old.records (All-contains_itself old.records)

-- ---- as it ends

map_apart : (placed : MapRecord → MapRecord) (rows : List MapRecord) → ((row : MapRecord) → apart_from_place (placed row) ≡ apart_from_place row) → map apart_from_place (map placed rows) ≡ map apart_from_place rows
map_apart placed [] same = refl
map_apart placed (x ∷ xs) same = ap (λ (r : MapRecord). r ∷ map apart_from_place (map placed xs)) (same x) ∙ ap (λ (rs : List MapRecord). apart_from_place x ∷ rs) (map_apart placed xs same)

pub filter_alike : {X : Type 0} → (p q : X → Bool) (xs : List X) → All (λ x. p x ≡ q x) xs → filter p xs ≡ filter q xs
filter_alike p q [] h = refl
filter_alike p q (x ∷ xs) h = ap (λ (b : Bool). if b then x ∷ filter p xs else filter p xs) (All-head (λ y. p y ≡ q y) x xs h) ∙ ap (λ (ys : List _). if q x then x ∷ ys else ys) (filter_alike p q xs (All-tail (λ y. p y ≡ q y) x xs h))

count_long : {X : Type 0} → (p : X → Bool) (xs : List X) → count_by p xs ≡ length (filter p xs)
count_long p [] = refl
count_long p (x ∷ xs) =
    let a = sum_by-cons (λ y. cond (p y) 1 0) x xs in
    let b = count_long p xs in
    let c = by_test (p x) in
    omega (arith, a, b, c)
  where
    by_test : (b : Bool) → length (cond b (x ∷ filter p xs) (filter p xs)) ≡ cond b 1 0 + length (filter p xs)
    by_test true = omega arith
    by_test false = omega arith

-- Each record without a count lies in a file that was emptied or is sealed: just those stay that don't go.
pub emptied_rows : (old : MapMeaning) (done : ℕ → Bool) → ((row : MapRecord) → Contains old.records row → row.count ≡ 0 → done row.file ≡ not (is_sealed old row.file)) → filter (stays_beside done) old.records ≡ filter (λ row. not (goes old row)) old.records
emptied_rows old done all = filter_alike (stays_beside done) (λ row. not (goes old row)) old.records (All-weaker (Contains old.records) _ (λ row c. ap not (alike row c)) old.records (All-contains_itself old.records))
  where
    alike : (row : MapRecord) → Contains old.records row → (done row.file && (row.count == 0)) ≡ goes old row
    alike row c = by_count (row.count == 0) refl
      where
        by_count : (b : Bool) → (row.count == 0) ≡ b → (done row.file && b) ≡ (not (is_sealed old row.file) && b)
        by_count true e = ap (λ (a : Bool). a && true) (all row c (eqb-true row.count 0 e))
        by_count false e = none (done row.file) (not (is_sealed old row.file))
          where
            none : (a b : Bool) → (a && false) ≡ (b && false)
            none true true = refl
            none true false = refl
            none false true = refl
            none false false = refl

pub emptied_stay : (old new : MapMeaning) (done is_left : ℕ → Bool) → HasEmptied old new done is_left → ((row : MapRecord) → Contains old.records row → row.count ≡ 0 → done row.file ≡ not (is_sealed old row.file)) → map apart_from_place new.records ≡ map apart_from_place (filter (λ row. not (goes old row)) old.records)
emptied_stay old new done is_left h all = ap (map apart_from_place) h.records ∙ (map_apart h.placed (filter (stays_beside done) old.records) h.same ∙ ap (map apart_from_place) (emptied_rows old done all))

pub emptied_dropped : (old new : MapMeaning) (dropped : ℕ) → DropsUnwanted old new dropped → map apart_from_place new.records ≡ map apart_from_place (filter (λ row. not (goes old row)) old.records) → dropped ≡ length (filter (goes old) old.records)
emptied_dropped old new dropped drops stay =
    let a = drops.dropped_are in
    let b = left_or_gone (goes old) old.records in
    let c = count_long (goes old) old.records in
    let d = length-map new.records apart_from_place in
    let e = length-map (filter (λ row. not (goes old row)) old.records) apart_from_place in
    let f = ap (λ (rs : List MapRecord). length rs) stay in
    omega (arith, a, b, c, d, e, f)
