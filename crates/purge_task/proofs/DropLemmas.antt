-- What a purge makes of the map, event by event.
use Rattle.purge_task.proofs.Common.{◌≡◌, ◌≢◌, ◌≤◌, ◌<◌, ◌+◌, ◌==◌, ◌||◌, ℕ, Bool, true, false, not, cond, List, [], ◌∷◌, length, map, Option, Some, None, refl, sym, ◌∙◌, ap, subst, arith, get_or, inl, inr, All, AllPairs, Contains, Err, IfOk, Ok, Result, count_by, filter, if◌then◌else◌}
use Rattle.purge_task.proofs.Common.{IsStrictlyIncreasing, eqb-true, ne_eqb, All-contains, All-contains_itself, All-head, All-tail, Contains-append_right, length-map, AllPairs-from_increasing, sum_by-cons, History, apart_from_place, MapPlace, FileNo, MapUid, Progress, Refusal, HasRecord, MapFits}
use Rattle.purge_task.proofs.Common.{MapMeaning, MapRecord, has_map_uid, is_sealed, moved_record, place_given, record_at, IsSoundMap, equal_yes, pairs_head, pairs_tail, found_one, at_uid, MailFile, AreFilesInOrder, is_emptied_in, IsStore, StoreValue, store_sound, answer_of, came_to, DropsUnwanted}
use Rattle.purge_task.proofs.Common.{TellsCounts, PurgeValue, IsNextStage, went_on, IsBehindSwitch, answer_of_switch, came_by_switch, IsSwitched, target_named, source_taken, take_all, taken_to_empty, target_drawn, SwitchedFile, Switched, PurgeStage, Source, Work, fall}
use Rattle.std.proofs.Common.{◌⊎◌}
use Rattle.std.specs.Prelude.{OnErr}
use Rattle.mdbox_base.specs.declared.entries.MapEntry.TheVariants as map_entry
use Rattle.model_meaning.proofs.AppliedLemmas.{boxes_by_purged}
use Rattle.purge_task.specs.declared.task.PurgeStage.TheVariants as stage
use Rattle.purge_task.proofs.BareCallLemmas.{IsEmptiedFile, emptied_file}
use Rattle.purge_task.proofs.CopyLemmas.{kept_of}
use Rattle.purge_task.proofs.FreeInstanceLemmas.{any_has}
use Rattle.purge_task.proofs.SwitchFitLemmas.{StandsFor, mapped_all, no_more, record_here}
use Rattle.purge_task.proofs.SwitchRowLemmas.{IsLeftAlone, alone, map_switched, rows_are}
use Rattle.purge_task.proofs.WithinLemmas.{mapped_of, of_kept, of_mapped}

-- ---- nothing changed, and one behind another

pub drops_none : (old new : MapMeaning) → new ≡ old → DropsUnwanted old new 0
drops_none old new same = subst (λ (m : MapMeaning). DropsUnwanted old m 0) (sym same) (record {
  boxes = refl;
  seals = refl;
  stay = λ row c. (row, c, refl);
  went = λ row c. inl (row, c, refl);
  places = λ row c e. c;
  dropped_are = omega arith;
})

sealed_as : (old mid : MapMeaning) (file : ℕ) → mid.sealed ≡ old.sealed → is_sealed mid file ≡ is_sealed old file
sealed_as old mid file same = ap (λ (fs : List ℕ). is_sealed (record old { sealed = fs }) file) same

count_as : (a b : MapRecord) → apart_from_place a ≡ apart_from_place b → a.count ≡ b.count
count_as a b same = ap (λ (r : MapRecord). r.count) same

pub drops_both : (old mid new : MapMeaning) (some more : ℕ) → DropsUnwanted old mid some → DropsUnwanted mid new more → DropsUnwanted old new (some + more)
drops_both old mid new some more h k = record {
  boxes = k.boxes ∙ h.boxes;
  seals = k.seals ∙ h.seals;
  stay = λ row c. (let b = k.stay row c in let a = h.stay b.0 b.1 in (a.0, a.1, b.2 ∙ a.2));
  went = λ row c. by_seal row c (is_sealed old row.file) refl;
  places = λ row c e. k.places row (h.places row c e) (sealed_as old mid row.file h.seals ∙ e);
  dropped_are = let a = h.dropped_are in let b = k.dropped_are in omega (arith, a, b);
}
  where
    further : (row now : MapRecord) → Contains mid.records now → apart_from_place now ≡ apart_from_place row → is_sealed old row.file ≡ false → ((last : MapRecord) × Contains new.records last × (apart_from_place last ≡ apart_from_place row)) ⊎ ((row.count ≡ 0) × (is_sealed old row.file ≡ false))
    further row now c same unsealed = elim (k.went now c) [
      | inl last ↦ inl (last.0, last.1, last.2 ∙ same)
      | inr gone ↦ inr (sym (count_as now row same) ∙ gone.0, unsealed)
    ]

    by_seal : (row : MapRecord) → Contains old.records row → (b : Bool) → is_sealed old row.file ≡ b → ((last : MapRecord) × Contains new.records last × (apart_from_place last ≡ apart_from_place row)) ⊎ ((row.count ≡ 0) × (is_sealed old row.file ≡ false))
    by_seal row c true e = inl (row, k.places row (h.places row c e) (sealed_as old mid row.file h.seals ∙ e), refl)
    by_seal row c false e = elim (h.went row c) [
      | inl now ↦ further row now.0 now.1 now.2 e
      | inr gone ↦ inr gone
    ]

-- ---- how many records have these map uids

abbrev has_one_of : List MapUid → MapRecord → Bool
has_one_of us row = has_map_uid row.uid us

none_of : (rows : List MapRecord) → count_by (has_one_of []) rows ≡ 0
none_of [] = refl
none_of (x ∷ xs) = let a = sum_by-cons (λ (o : MapRecord). cond (has_one_of [] o) 1 0) x xs in let b = none_of xs in omega (arith, a, b)

one_or_more : (a b : Bool) → cond (a || b) 1 0 ≤ cond a 1 0 + cond b 1 0
one_or_more true true = omega arith
one_or_more true false = omega arith
one_or_more false true = omega arith
one_or_more false false = omega arith

split_uids : (u : MapUid) (us : List MapUid) (rows : List MapRecord) → count_by (has_one_of (u ∷ us)) rows ≤ count_by (λ o. u.0 == o.uid) rows + count_by (has_one_of us) rows
split_uids u us [] = omega arith
split_uids u us (x ∷ xs) =
    let a = sum_by-cons (λ (o : MapRecord). cond (has_one_of (u ∷ us) o) 1 0) x xs in
    let b = sum_by-cons (λ (o : MapRecord). cond (u.0 == o.uid) 1 0) x xs in
    let c = sum_by-cons (λ (o : MapRecord). cond (has_one_of us o) 1 0) x xs in
    let one = one_or_more (u.0 == x.uid) (has_one_of us x) in
    let rest = split_uids u us xs in
    omega (arith, a, b, c, one, rest)

none_above : (n : ℕ) (rows : List MapRecord) → All (λ o. n < o.uid) rows → count_by (λ o. n == o.uid) rows ≡ 0
none_above n [] above = refl
none_above n (x ∷ xs) above =
    let a = sum_by-cons (λ (o : MapRecord). cond (n == o.uid) 1 0) x xs in
    let less = All-head (λ (o : MapRecord). n < o.uid) x xs above in
    let one : ◌≡◌ {A = ℕ} (cond (n == x.uid) 1 0) 0 = ap (λ (b : Bool). cond b 1 0) (ne_eqb n x.uid (λ e. omega (arith, e, less))) in
    let rest = none_above n xs (All-tail (λ (o : MapRecord). n < o.uid) x xs above) in
    omega (arith, a, one, rest)

one_at_most : (n : ℕ) (rows : List MapRecord) → AllPairs (λ a b. a.uid < b.uid) rows → count_by (λ o. n == o.uid) rows ≤ 1
one_at_most n [] rising = omega arith
one_at_most n (x ∷ xs) rising =
    let a = sum_by-cons (λ (o : MapRecord). cond (n == o.uid) 1 0) x xs in
    by_test a (n == x.uid) refl (one_at_most n xs (pairs_tail (λ (a b : MapRecord). a.uid < b.uid) x xs rising))
  where
    by_test : count_by (λ o. n == o.uid) (x ∷ xs) ≡ cond (n == x.uid) 1 0 + count_by (λ o. n == o.uid) xs → (b : Bool) → (n == x.uid) ≡ b → count_by (λ o. n == o.uid) xs ≤ 1 → count_by (λ o. n == o.uid) (x ∷ xs) ≤ 1
    by_test a false e rest = let one : ◌≡◌ {A = ℕ} (cond (n == x.uid) 1 0) 0 = ap (λ (b : Bool). cond b 1 0) e in omega (arith, a, one, rest)
    by_test a true e rest =
        let one : ◌≡◌ {A = ℕ} (cond (n == x.uid) 1 0) 1 = ap (λ (b : Bool). cond b 1 0) e in
        let none = none_above n xs (subst (λ (k : ℕ). All (λ o. k < o.uid) xs) (sym (eqb-true n x.uid e)) (pairs_head (λ (a b : MapRecord). a.uid < b.uid) x xs rising)) in
        omega (arith, a, one, none)

-- no more records have them than they are
at_most : (us : List MapUid) (rows : List MapRecord) → AllPairs (λ a b. a.uid < b.uid) rows → count_by (has_one_of us) rows ≤ length us
at_most [] rows rising = let e = none_of rows in omega (arith, e)
at_most (u ∷ us) rows rising =
    let a = split_uids u us rows in
    let b = one_at_most u.0 rows rising in
    let c = at_most us rows rising in
    omega (arith, a, b, c)

pub left_or_gone : (p : MapRecord → Bool) (rows : List MapRecord) → length rows ≡ length (filter (λ o. not (p o)) rows) + count_by p rows
left_or_gone p [] = refl
left_or_gone p (x ∷ xs) =
    let a = sum_by-cons (λ (o : MapRecord). cond (p o) 1 0) x xs in
    let b = left_or_gone p xs in
    let c = by_test (p x) in
    omega (arith, a, b, c)
  where
    by_test : (b : Bool) → length (cond (not b) (x ∷ filter (λ o. not (p o)) xs) (filter (λ o. not (p o)) xs)) + cond b 1 0 ≡ length (filter (λ o. not (p o)) xs) + 1
    by_test true = omega arith
    by_test false = omega arith

pub listed_one : (us : List MapUid) (n : ℕ) → has_map_uid n us ≡ true → (u : MapUid) × Contains us u × (u.0 ≡ n)
listed_one [] n e = absurd (let k : false ≡ true = e in cc k)
listed_one (u ∷ us) n e = by_test (u.0 == n) refl (listed_one us n)
  where
    by_test : (b : Bool) → (u.0 == n) ≡ b → (has_map_uid n us ≡ true → (v : MapUid) × Contains us v × (v.0 ≡ n)) → (v : MapUid) × Contains (u ∷ us) v × (v.0 ≡ n)
    by_test true is rest = (u, All-head (λ (v : MapUid). Contains (u ∷ us) v) u us (All-contains_itself (u ∷ us)), eqb-true u.0 n is)
    by_test false is rest = let v = rest (sym (ap (λ (b : Bool). b || has_map_uid n us) is) ∙ e) in (v.0, Contains-append_right (u ∷ []) us v.0 v.1, v.2)

-- ---- the switch of a file

-- An emptied file isn't sealed.
pub emptied_unsealed : {D : Type 0} → (file : ℕ) (store : StoreValue D) (history : Option History) → IsStore history store → AreFilesInOrder store.files → is_emptied_in file store.files.files ≡ true → is_sealed store.map file ≡ false
emptied_unsealed file store history is order e =
    let f : IsEmptiedFile file store.files.files = emptied_file file store.files.files order.used e in
    by_seal f (is_sealed store.map file) refl
  where
    by_seal : IsEmptiedFile file store.files.files → (b : Bool) → is_sealed store.map file ≡ b → is_sealed store.map file ≡ false
    by_seal f false s = s
    by_seal f true s = absurd (fall f.f.emptied f.emptied (f.used.sealed (is.files.sealed file f.f f.found ∙ s)).0)

pub same_apart : (row : MapRecord) (t : ℕ) (o : Option MapPlace) → apart_from_place (moved_record row t o) ≡ apart_from_place row
same_apart row t None = refl
same_apart row t (Some place) = refl

-- the records that are dropped are as many as are listed
dropped_many : (m : MapMeaning) (f : FileNo) (us : List MapUid) → IsSoundMap m → IsStrictlyIncreasing (map (λ u. u.0) us) → All (λ u. HasRecord m u.0 (λ row. (row.file ≡ f.0) × (row.count ≡ 0))) us → count_by (has_one_of us) m.records ≡ length us
dropped_many m f us sound rising here =
    let most = at_most us m.records sound.rising in
    let least = no_more (has_one_of us) m.records (map (λ u. u.0) us) sound.rising (AllPairs-from_increasing (map (λ u. u.0) us) rising)
    (mapped_all (λ (u : MapUid). u.0) (StandsFor m.records (has_one_of us)) us (λ k d lt. stands (get_or us k d) (All-contains_itself us k d lt) (here k d lt))) in
    let e = length-map us (λ (u : MapUid). u.0) in
    omega (arith, most, least, e)
  where
    stands : (u : MapUid) → Contains us u → HasRecord m u.0 (λ row. (row.file ≡ f.0) × (row.count ≡ 0)) → StandsFor m.records (has_one_of us) u.0
    stands u c h =
        let number = (record_here m u.0 h.0 h.1).0 in
        (h.0, (found_one (λ (o : MapRecord). o.uid == u.0) m.records h.0 h.1).0, sym number, any_has (λ (v : MapUid). v.0 == h.0.uid) us u c (equal_yes u.0 h.0.uid number))

drops_switched : (f : FileNo) (t : ℕ) (ms : List MapPlace) (us : List MapUid) (m : MapMeaning) → IsSoundMap m → MapFits m (map_entry.P f t ms us) → is_sealed m f.0 ≡ false → DropsUnwanted m (map_switched f t ms us m) (length us)
drops_switched f t ms us m sound fits unsealed = record {
  boxes = boxes_by_purged f t ms us m.boxes;
  seals = refl;
  stay = λ row c. (let a = of_mapped changed left row (subst (λ (rs : List MapRecord). Contains rs row) (rows_are f t ms us m) c) in (a.0, of_kept stays m.records a.0 a.1, ap apart_from_place (sym a.2) ∙ same_apart a.0 t (place_given a.0.uid ms)));
  went = λ row c. by_test row c (has_map_uid row.uid us) refl;
  places = λ row c e. (let a = All-contains (λ (r : MapRecord). r.file ≢ f.0 → IsLeftAlone ms us r) m.records row (alone f t ms us m sound fits) c (λ is. fall (is_sealed m f.0) (sym (ap (is_sealed m) is) ∙ e) unsealed) in subst (λ (r : MapRecord). Contains (map_switched f t ms us m).records r) (ap (λ (o : Option MapPlace). moved_record row t o) a.1) (there row c a.0));
  dropped_are = (let a = left_or_gone (has_one_of us) m.records in let b = length-map left changed in let c = ap (λ (rs : List MapRecord). length rs) (rows_are f t ms us m) in let d = dropped_many m f us sound fits.dropped_rising fits.dropped_here in omega (arith, a, b, c, d));
}
  where
    changed : MapRecord → MapRecord
    changed row = moved_record row t (place_given row.uid ms)

    stays : MapRecord → Bool
    stays row = not (has_map_uid row.uid us)

    left : List MapRecord
    left = filter stays m.records

    there : (row : MapRecord) → Contains m.records row → has_map_uid row.uid us ≡ false → Contains (map_switched f t ms us m).records (changed row)
    there row c e = subst (λ (rs : List MapRecord). Contains rs (changed row)) (sym (rows_are f t ms us m)) (mapped_of changed left row (kept_of stays m.records row c (ap not e)))

    by_test : (row : MapRecord) → Contains m.records row → (b : Bool) → has_map_uid row.uid us ≡ b → ((now : MapRecord) × Contains (map_switched f t ms us m).records now × (apart_from_place now ≡ apart_from_place row)) ⊎ ((row.count ≡ 0) × (is_sealed m row.file ≡ false))
    by_test row c false e = inl (changed row, there row c e, same_apart row t (place_given row.uid ms))
    by_test row c true e =
        let u = listed_one us row.uid e in
        let h = All-contains (λ (v : MapUid). HasRecord m v.0 (λ r. (r.file ≡ f.0) × (r.count ≡ 0))) us u.0 fits.dropped_here u.1 in
        let same : h.0 ≡ row = (let k : Some h.0 ≡ Some row = sym (subst (λ (n : ℕ). record_at m n ≡ Some h.0) u.2 h.1) ∙ at_uid m row sound c in cc k) in
        inr (subst (λ (r : MapRecord). r.count ≡ 0) same h.2.1, ap (is_sealed m) (subst (λ (r : MapRecord). r.file ≡ f.0) same h.2.0) ∙ unsealed)

-- The switch drops as many records as it answers.
pub switch_drops : {D : Type 0} → (source : Source) (switched : Switched) (old new : StoreValue D) (before : Option History) → IsStore before old → AreFilesInOrder old.files → is_emptied_in source.file.0 old.files.files ≡ true → IsSwitched source switched old new → DropsUnwanted old.map new.map switched.dropped
switch_drops source switched old new before is order emptied s =
    subst (λ (n : ℕ). DropsUnwanted old.map new.map n) (sym s.counted)
    (subst (λ (m : MapMeaning). DropsUnwanted old.map m (length s.dropped)) (sym s.map_is) (drops_switched source.file (target_named source.target s.moved) s.moved s.dropped old.map (store_sound before old is) s.fits (emptied_unsealed source.file.0 old before is order emptied)))

-- ---- the parts of a step

-- files that are taken leave the map as it is
map_one : {D : Type 0} → (store : StoreValue D) (source : Source) → (source_taken store source).map ≡ store.map
map_one store source = by_flag source.is_wanted
  where
    by_flag : (b : Bool) → (if b then target_drawn (taken_to_empty source.file.0 store) else taken_to_empty source.file.0 store).map ≡ store.map
    by_flag true = refl
    by_flag false = refl

pub map_taken : {D : Type 0} → (sources : List Source) (store : StoreValue D) → (take_all sources store).map ≡ store.map
map_taken [] store = refl
map_taken (source ∷ rest) store = map_taken rest (source_taken store source) ∙ map_one store source

-- and so do those that are given back
pub map_given : {D : Type 0} → (old new : StoreValue D) (files : List MailFile) → (old.stopped ≡ true → new ≡ old) → (old.stopped ≡ false → new ≡ record old { files = record old.files { files = files } }) → new.map ≡ old.map
map_given old new files stopped runs = by_flag old.stopped refl
  where
    by_flag : (b : Bool) → old.stopped ≡ b → new.map ≡ old.map
    by_flag true e = ap (λ (s : StoreValue _). s.map) (stopped e)
    by_flag false e = ap (λ (s : StoreValue _). s.map) (runs e)

pub same_drops : (before after : ℕ) (old new : MapMeaning) → after ≡ before → new ≡ old → (dropped : ℕ) × (after ≡ before + dropped) × DropsUnwanted old new dropped
same_drops before after old new counted same = (0, omega (arith, counted), drops_none old new same)

came_dropped : (result : Result PurgeStage Refusal) (u : PurgeValue) → (came_to result u).dropped ≡ u.dropped
came_dropped (Ok next) u = refl
came_dropped (Err why) u = refl

pub part_counts : (result : Result PurgeStage Refusal) (u next : PurgeValue) → next ≡ came_to result u → next.dropped ≡ u.dropped
part_counts result u next is = ap (λ (v : PurgeValue). v.dropped) is ∙ came_dropped result u

pub part_drops : (result : Result PurgeStage Refusal) (u next : PurgeValue) (before : ℕ) (old new : MapMeaning) → next ≡ came_to result u → u.dropped ≡ before → new ≡ old → (dropped : ℕ) × (next.dropped ≡ before + dropped) × DropsUnwanted old new dropped
part_drops result u next before old new is counted same = same_drops before next.dropped old new (part_counts result u next is ∙ counted) same

pub switch_counts : (result : Result SwitchedFile Refusal) (u next : PurgeValue) (before : ℕ) (old new : MapMeaning) (stopped : Bool) → next ≡ came_by_switch result u → u.dropped ≡ before → IfOk result (λ switched. DropsUnwanted old new switched.dropped) → OnErr result (stopped ≡ true) → stopped ≡ false
    → (dropped : ℕ) × (next.dropped ≡ before + dropped) × DropsUnwanted old new dropped
switch_counts (Ok switched) u next before old new stopped is counted drops err runs = (switched.dropped, ap (λ (v : PurgeValue). v.dropped) is ∙ ap (λ (n : ℕ). n + switched.dropped) counted, drops)
switch_counts (Err why) u next before old new stopped is counted drops err runs = absurd (fall stopped err runs)

-- ---- what it replies

pub next_begun : (work : Work) (next : PurgeStage) → IsNextStage work next → next ≢ stage.First
next_begun work next (inl last) e = let k : stage.Instances ≡ stage.First = sym last.1 ∙ e in cc k
next_begun work next (inr more) e = let k : stage.Begin work ≡ stage.First = sym more.1 ∙ e in cc k

pub switch_begun : (is_unpinned : Bool) (work : Work) (next : PurgeStage) → IsBehindSwitch is_unpinned work next → next ≢ stage.First
switch_begun true work next behind e = let k : stage.Removing work ≡ stage.First = sym behind ∙ e in cc k
switch_begun false work next behind e = next_begun (went_on work) next behind e

pub part_tells : (result : Result PurgeStage Refusal) (t u next : PurgeValue) (answer : Progress) → next ≡ came_to result u → answer ≡ answer_of result → IfOk result (λ at. at ≢ stage.First) → TellsCounts t next answer
part_tells (Ok at) t u next answer is told begun = subst (λ (a : Progress). TellsCounts t next a) (sym told) (λ e. begun (sym (ap (λ (v : PurgeValue). v.stage) is) ∙ e))
part_tells (Err why) t u next answer is told begun = subst (λ (a : Progress). TellsCounts t next a) (sym told) tt

pub switch_tells : (result : Result SwitchedFile Refusal) (t u next : PurgeValue) (answer : Progress) → next ≡ came_by_switch result u → answer ≡ answer_of_switch result → IfOk result (λ switched. switched.next ≢ stage.First) → TellsCounts t next answer
switch_tells (Ok switched) t u next answer is told begun = subst (λ (a : Progress). TellsCounts t next a) (sym told) (λ e. begun (sym (ap (λ (v : PurgeValue). v.stage) is) ∙ e))
switch_tells (Err why) t u next answer is told begun = subst (λ (a : Progress). TellsCounts t next a) (sym told) tt
