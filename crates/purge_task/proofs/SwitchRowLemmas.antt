-- What is left of the records of a map where a storage file was switched.
use Rattle.purge_task.proofs.Common.{◌≡◌, ◌≢◌, ◌+◌, ◌==◌, ◌&&◌, ◌||◌, ℕ, Bool, true, false, not, cond, List, [], ◌∷◌, length, map, Option, Some, None, refl, sym, ◌∙◌, ap, subst, arith, inl, inr, All, Contains, count_by, filter, nat_lt, sum_by, if◌then◌else◌, cases_Bool, eq-eqb, eqb-true, ne_eqb}
use Rattle.purge_task.proofs.Common.{All-cons, All-contains, All-contains_itself, All-head, All-nil, All-tail, All-weaker, sum_by-cons, FileNo, MapUid, MapPlace, HasRecord, MapFits, MapMeaning, MapRecord, has_map_uid, map_applied, moved_record, place_given, record_at, IsSoundMap, found_one, at_uid}
use Rattle.purge_task.proofs.Common.{is_copied_from, target_length, AreElsewhere, but_count, records_within, messages_in, IsUnwanted, target_named}
use Rattle.std.proofs.Common.{◌⊎◌}
use Rattle.std.proofs.lemmas.Bool.{cond-false, cond-true}
use Rattle.mdbox_base.specs.declared.entries.MapEntry.TheVariants as map_entry
use Rattle.model_appends.proofs.AppendPurgeLemmas.{place_found}
use Rattle.model_meaning.specs.MapMeaning.{record_changed, record_rules}
use Rattle.model_meaning.proofs.AppliedLemmas.{records_by_purged}
use Rattle.model_meaning.proofs.KeptRowLemmas.{kept_all, kept_rows}
use Rattle.model_meaning.proofs.MapPlaceLemmas.{changed_same}

-- ---- the rows that stay, one by one

abbrev pub rows_switched : FileNo → ℕ → List MapPlace → List MapUid → List MapRecord → List MapRecord
rows_switched f t ms us rows = kept_rows record_rules (map_entry.P f t ms us) rows

abbrev pub map_switched : FileNo → ℕ → List MapPlace → List MapUid → MapMeaning → MapMeaning
map_switched f t ms us m = map_applied (map_entry.P f t ms us) m

pub rows_are : (f : FileNo) (t : ℕ) (ms : List MapPlace) (us : List MapUid) (m : MapMeaning) → (map_switched f t ms us m).records ≡ rows_switched f t ms us m.records
rows_are f t ms us m = records_by_purged f t ms us m.records

row_kept : (f : FileNo) (t : ℕ) (ms : List MapPlace) (us : List MapUid) (row : MapRecord) (rows : List MapRecord) → has_map_uid row.uid us ≡ false → rows_switched f t ms us (row ∷ rows) ≡ moved_record row t (place_given row.uid ms) ∷ rows_switched f t ms us rows
row_kept f t ms us row rows is =
    ap (λ (rs : List MapRecord). map (record_changed (map_entry.P f t ms us)) rs) (cond-true (not (has_map_uid row.uid us)) (row ∷ filter (λ (r : MapRecord). not (has_map_uid r.uid us)) rows) (filter (λ (r : MapRecord). not (has_map_uid r.uid us)) rows) (ap not is))

row_gone : (f : FileNo) (t : ℕ) (ms : List MapPlace) (us : List MapUid) (row : MapRecord) (rows : List MapRecord) → has_map_uid row.uid us ≡ true → rows_switched f t ms us (row ∷ rows) ≡ rows_switched f t ms us rows
row_gone f t ms us row rows is =
    ap (λ (rs : List MapRecord). map (record_changed (map_entry.P f t ms us)) rs) (cond-false (not (has_map_uid row.uid us)) (row ∷ filter (λ (r : MapRecord). not (has_map_uid r.uid us)) rows) (filter (λ (r : MapRecord). not (has_map_uid r.uid us)) rows) (ap not is))

-- ---- records of other files

-- the lists leave it alone
abbrev pub IsLeftAlone : List MapPlace → List MapUid → MapRecord → Type 0
IsLeftAlone ms us row = (has_map_uid row.uid us ≡ false) × (place_given row.uid ms ≡ None)

left_alone : (f : ℕ) (ms : List MapPlace) (us : List MapUid) (m : MapMeaning) (row : MapRecord) → IsSoundMap m → Contains m.records row → All (λ p. HasRecord m p.uid.0 (λ r. r.file ≡ f)) ms → All (λ u. HasRecord m u.0 (λ r. (r.file ≡ f) × (r.count ≡ 0))) us → row.file ≢ f → IsLeftAlone ms us row
left_alone f ms us m row sound c moved dropped apart = (not_there us dropped, no_place (place_given row.uid ms) refl)
  where
    no_place : (o : Option MapPlace) → place_given row.uid ms ≡ o → o ≡ None
    no_place None e = refl
    no_place (Some place) e = absurd (apart (place_found m (λ p r. r.file ≡ f) ms row sound c moved place e))

    one_there : (a : MapRecord) → record_at m row.uid ≡ Some a → a ≡ row
    one_there a found = let e : Some a ≡ Some row = sym found ∙ at_uid m row sound c in cc e

    not_there : (ds : List MapUid) → All (λ u. HasRecord m u.0 (λ r. (r.file ≡ f) × (r.count ≡ 0))) ds → has_map_uid row.uid ds ≡ false
    not_there [] all = refl
    not_there (d ∷ ds) all = by_test (d.0 == row.uid) refl (not_there ds (All-tail (λ (u : MapUid). HasRecord m u.0 (λ r. (r.file ≡ f) × (r.count ≡ 0))) d ds all))
      where
        by_test : (b : Bool) → (d.0 == row.uid) ≡ b → has_map_uid row.uid ds ≡ false → (b || has_map_uid row.uid ds) ≡ false
        by_test false e rest = rest
        by_test true e rest =
            let has = All-head (λ (u : MapUid). HasRecord m u.0 (λ r. (r.file ≡ f) × (r.count ≡ 0))) d ds all in
            let same : has.0 ≡ row = one_there has.0 (subst (λ (n : ℕ). record_at m n ≡ Some has.0) (eqb-true d.0 row.uid e) has.1) in
            absurd (apart (ap (λ (r : MapRecord). r.file) (sym same) ∙ has.2.0))

pub alone : (f : FileNo) (t : ℕ) (ms : List MapPlace) (us : List MapUid) (m : MapMeaning) → IsSoundMap m → MapFits m (map_entry.P f t ms us) → All (λ row. row.file ≢ f.0 → IsLeftAlone ms us row) m.records
alone f t ms us m sound fits = All-weaker (Contains m.records) (λ (row : MapRecord). row.file ≢ f.0 → IsLeftAlone ms us row) (λ row c apart. left_alone f.0 ms us m row sound c fits.moved_here fits.dropped_here apart) m.records (All-contains_itself m.records)

-- the target isn't this file, or nothing is moved to it
abbrev pub IsElsewhereMoved : ℕ → ℕ → List MapPlace → Type 0
IsElsewhereMoved t number ms = (t ≢ number) ⊎ (ms ≡ [])

none_given : (uid : ℕ) (ms : List MapPlace) (place : MapPlace) → ms ≡ [] → place_given uid ms ≡ Some place → ⊥
none_given uid ms place none e = let w : None ≡ Some place = sym (ap (λ (ps : List MapPlace). place_given uid ps) none) ∙ e in cc w

-- a record of another file doesn't come to this one
moved_apart : (t number : ℕ) (ms : List MapPlace) (row : MapRecord) → IsElsewhereMoved t number ms → row.file ≢ number → (moved_record row t (place_given row.uid ms)).file ≢ number
moved_apart t number ms row to apart = by_place (place_given row.uid ms) refl
  where
    by_place : (o : Option MapPlace) → place_given row.uid ms ≡ o → (moved_record row t o).file ≢ number
    by_place None e = apart
    by_place (Some place) e = λ is. elim to [
      | inl other ↦ other is
      | inr none ↦ none_given row.uid ms place none e
    ]

abbrev in_file : ℕ → MapRecord → Bool
in_file number row = row.file == number

same_yes : (a b : ℕ) → a ≡ b → (a == b) ≡ true
same_yes a b e = eq-eqb a b e

row_within : (f : FileNo) (t : ℕ) (ms : List MapPlace) (us : List MapUid) (number : ℕ) (row : MapRecord) (rows : List MapRecord) → number ≢ f.0 → IsElsewhereMoved t number ms → (row.file ≢ f.0 → IsLeftAlone ms us row) → filter (in_file number) (rows_switched f t ms us rows) ≡ filter (in_file number) rows
    → filter (in_file number) (rows_switched f t ms us (row ∷ rows)) ≡ filter (in_file number) (row ∷ rows)
row_within f t ms us number row rows apart to left rest = elim (cases_Bool (row.file == number)) [
  | inl hit ↦
      let is : row.file ≡ number = eqb-true row.file number hit in
      let a = left (λ e. apart (sym is ∙ e)) in
      let kept : rows_switched f t ms us (row ∷ rows) ≡ row ∷ rows_switched f t ms us rows = row_kept f t ms us row rows a.0 ∙ ap (λ (o : Option MapPlace). moved_record row t o ∷ rows_switched f t ms us rows) a.1 in
      ap (λ (rs : List MapRecord). filter (in_file number) rs) kept ∙ ap (λ (rs : List MapRecord). if row.file == number then row ∷ rs else rs) rest
  | inr miss ↦
      let other : row.file ≢ number = λ is. (let e : true ≡ false = sym (same_yes row.file number is) ∙ miss in cc e) in
      gone_or_moved other (has_map_uid row.uid us) refl ∙ (rest ∙ sym (ap (λ (b : Bool). if b then row ∷ filter (in_file number) rows else filter (in_file number) rows) miss))
]
  where
    gone_or_moved : row.file ≢ number → (b : Bool) → has_map_uid row.uid us ≡ b → filter (in_file number) (rows_switched f t ms us (row ∷ rows)) ≡ filter (in_file number) (rows_switched f t ms us rows)
    gone_or_moved other true gone = ap (λ (rs : List MapRecord). filter (in_file number) rs) (row_gone f t ms us row rows gone)
    gone_or_moved other false stays =
        let there : MapRecord = moved_record row t (place_given row.uid ms) in
        ap (λ (rs : List MapRecord). filter (in_file number) rs) (row_kept f t ms us row rows stays)
        ∙ ap (λ (b : Bool). if b then there ∷ filter (in_file number) (rows_switched f t ms us rows) else filter (in_file number) (rows_switched f t ms us rows)) (ne_eqb there.file number (moved_apart t number ms row to other))

-- the records of a file that isn't switched, nor the target, are as they were
pub same_within : (f : FileNo) (t : ℕ) (ms : List MapPlace) (us : List MapUid) (number : ℕ) (rows : List MapRecord) → number ≢ f.0 → IsElsewhereMoved t number ms → All (λ row. row.file ≢ f.0 → IsLeftAlone ms us row) rows → filter (in_file number) (rows_switched f t ms us rows) ≡ filter (in_file number) rows
same_within f t ms us number [] apart to left = refl
same_within f t ms us number (row ∷ rows) apart to left =
    row_within f t ms us number row rows apart to (All-head (λ (r : MapRecord). r.file ≢ f.0 → IsLeftAlone ms us r) row rows left) (same_within f t ms us number rows apart to (All-tail (λ (r : MapRecord). r.file ≢ f.0 → IsLeftAlone ms us r) row rows left))

-- ---- what is told by the records of a file

abbrev pub within : ℕ → MapMeaning → List MapRecord
within number m = filter (in_file number) m.records

filter_mapped : {X Y : Type 0} → (f : X → Y) (p : Y → Bool) (q : X → Bool) (xs : List X) → ((x : X) → p (f x) ≡ q x) → filter p (map f xs) ≡ map f (filter q xs)
filter_mapped f p q [] same = refl
filter_mapped f p q (x ∷ xs) same = by_test (filter_mapped f p q xs same) (p (f x)) (q x) (same x)
  where
    by_test : filter p (map f xs) ≡ map f (filter q xs) → (a b : Bool) → a ≡ b → (if a then f x ∷ filter p (map f xs) else filter p (map f xs)) ≡ map f (if b then x ∷ filter q xs else filter q xs)
    by_test rest true true e = ap (λ (ys : List _). f x ∷ ys) rest
    by_test rest false false e = rest
    by_test rest true false e = absurd (let k : true ≡ false = e in cc k)
    by_test rest false true e = absurd (let k : false ≡ true = e in cc k)

pub within_as : (number : ℕ) (m n : MapMeaning) → within number n ≡ within number m → records_within number n ≡ records_within number m
within_as number m n same = filter_mapped but_count (in_file number) (in_file number) n.records (λ row. refl) ∙ (ap (λ (rs : List MapRecord). map but_count rs) same ∙ sym (filter_mapped but_count (in_file number) (in_file number) m.records (λ row. refl)))

counted : {X : Type 0} → (p : X → Bool) (xs : List X) → count_by p xs ≡ length (filter p xs)
counted p [] = refl
counted p (x ∷ xs) = let a = sum_by-cons (λ y. cond (p y) 1 0) x xs in let b = counted p xs in let c = by_test (p x) in omega (arith, a, b, c)
  where
    by_test : (b : Bool) → length (if b then x ∷ filter p xs else filter p xs) ≡ cond b 1 0 + length (filter p xs)
    by_test true = omega arith
    by_test false = omega arith

pub messages_as : (number : ℕ) (m n : MapMeaning) → within number n ≡ within number m → messages_in n number ≡ messages_in m number
messages_as number m n same = counted (in_file number) n.records ∙ (ap (λ (rs : List MapRecord). length rs) same ∙ sym (counted (in_file number) m.records))

abbrev wanted_size : MapRecord → ℕ
wanted_size row = if nat_lt 0 row.count then row.size else 0

summed : (number : ℕ) (rows : List MapRecord) → sum_by (λ row. if is_copied_from number row then row.size else 0) rows ≡ sum_by wanted_size (filter (in_file number) rows)
summed number [] = refl
summed number (row ∷ rows) =
    let a = sum_by-cons (λ (r : MapRecord). if is_copied_from number r then r.size else 0) row rows in
    let b = summed number rows in
    let c = by_test (row.file == number) in
    omega (arith, a, b, c)
  where
    by_test : (b : Bool) → sum_by wanted_size (if b then row ∷ filter (in_file number) rows else filter (in_file number) rows) ≡ (if b && nat_lt 0 row.count then row.size else 0) + sum_by wanted_size (filter (in_file number) rows)
    by_test true = sum_by-cons wanted_size row (filter (in_file number) rows)
    by_test false = omega arith

pub length_as : (number : ℕ) (m n : MapMeaning) → within number n ≡ within number m → target_length n number ≡ target_length m number
length_as number m n same = ap (λ (k : ℕ). 9 + k) (summed number n.records ∙ (ap (λ (rs : List MapRecord). sum_by wanted_size rs) same ∙ sym (summed number m.records)))

all_kept : {X : Type 0} → (p : X → Bool) (P : X → Type 0) (xs : List X) → All (λ x. p x ≡ true → P x) xs → All P (filter p xs)
all_kept p P [] h = All-nil P
all_kept p P (x ∷ xs) h = by_test (all_kept p P xs (All-tail (λ y. p y ≡ true → P y) x xs h)) (p x) refl
  where
    by_test : All P (filter p xs) → (b : Bool) → p x ≡ b → All P (if b then x ∷ filter p xs else filter p xs)
    by_test rest true e = All-cons P x (filter p xs) (All-head (λ y. p y ≡ true → P y) x xs h e) rest
    by_test rest false e = rest

all_from : {X : Type 0} → (p : X → Bool) (P : X → Type 0) (xs : List X) → All P (filter p xs) → All (λ x. p x ≡ true → P x) xs
all_from p P [] h = All-nil _
all_from p P (x ∷ xs) h = by_test (λ k. all_from p P xs k) (p x) refl h
  where
    by_test : (All P (filter p xs) → All (λ y. p y ≡ true → P y) xs) → (b : Bool) → p x ≡ b → All P (if b then x ∷ filter p xs else filter p xs) → All (λ y. p y ≡ true → P y) (x ∷ xs)
    by_test rest true e h = All-cons (λ y. p y ≡ true → P y) x xs (λ t. All-head P x (filter p xs) h) (rest (All-tail P x (filter p xs) h))
    by_test rest false e h = All-cons (λ y. p y ≡ true → P y) x xs (λ t. absurd (let k : false ≡ true = sym e ∙ t in cc k)) (rest h)

pub unwanted_as : (number : ℕ) (m n : MapMeaning) → within number n ≡ within number m → IsUnwanted m number → IsUnwanted n number
unwanted_as number m n same h =
    let before : All (λ (row : MapRecord). row.count ≡ 0) (within number m) = all_kept (in_file number) (λ (row : MapRecord). row.count ≡ 0) m.records (All-weaker (λ (row : MapRecord). row.file ≡ number → row.count ≡ 0) (λ (row : MapRecord). in_file number row ≡ true → row.count ≡ 0) (λ row none e. none (eqb-true row.file number e)) m.records h) in
    All-weaker (λ (row : MapRecord). in_file number row ≡ true → row.count ≡ 0) (λ (row : MapRecord). row.file ≡ number → row.count ≡ 0) (λ row none is. none (same_yes row.file number is)) n.records
    (all_from (in_file number) (λ (row : MapRecord). row.count ≡ 0) n.records (subst (λ (rs : List MapRecord). All (λ (row : MapRecord). row.count ≡ 0) rs) (sym same) before))

pub within_switched : (f : FileNo) (t : ℕ) (ms : List MapPlace) (us : List MapUid) (number : ℕ) (m : MapMeaning) → IsSoundMap m → MapFits m (map_entry.P f t ms us) → number ≢ f.0 → IsElsewhereMoved t number ms → within number (map_switched f t ms us m) ≡ within number m
within_switched f t ms us number m sound fits apart to = ap (λ (rs : List MapRecord). filter (in_file number) rs) (rows_are f t ms us m) ∙ same_within f t ms us number m.records apart to (alone f t ms us m sound fits)

-- no record lies in a file still in which none lay
pub elsewhere_switched : (f : FileNo) (t : ℕ) (ms : List MapPlace) (us : List MapUid) (number : ℕ) (m : MapMeaning) → IsElsewhereMoved t number ms → AreElsewhere number m.records → AreElsewhere number (map_switched f t ms us m).records
elsewhere_switched f t ms us number m to h =
    subst (λ (rs : List MapRecord). AreElsewhere number rs) (sym (rows_are f t ms us m)) (kept_all record_rules (map_entry.P f t ms us) m.records (λ (row : MapRecord). row.file ≢ number) (λ (row : MapRecord). row.file ≢ number) (λ row apart. moved_apart t number ms row to apart) h)

pub guids_switched : (f : FileNo) (t : ℕ) (ms : List MapPlace) (us : List MapUid) (guid : List ℕ) (m : MapMeaning) → All (λ row. row.guid ≢ guid) m.records → All (λ row. row.guid ≢ guid) (map_switched f t ms us m).records
guids_switched f t ms us guid m h =
    subst (λ (rs : List MapRecord). All (λ row. row.guid ≢ guid) rs) (sym (rows_are f t ms us m))
    (kept_all record_rules (map_entry.P f t ms us) m.records (λ (row : MapRecord). row.guid ≢ guid) (λ (row : MapRecord). row.guid ≢ guid) (λ row apart e. apart (sym (changed_same (map_entry.P f t ms us) row).guid ∙ e)) h)

-- ---- one record

-- a record is one that was there, maybe moved
pub came_from : (f : FileNo) (t : ℕ) (ms : List MapPlace) (us : List MapUid) (m : MapMeaning) (uid : ℕ) (row now : MapRecord) → IsSoundMap m → record_at m uid ≡ Some row → record_at (map_switched f t ms us m) uid ≡ Some now → now ≡ moved_record row t (place_given row.uid ms)
came_from f t ms us m uid row now sound there found =
    let one = found_one (λ (r : MapRecord). r.uid == uid) (map_switched f t ms us m).records now found in
    let from = All-contains (λ (r : MapRecord). (was : MapRecord) × Contains m.records was × (r ≡ moved_record was t (place_given was.uid ms))) (map_switched f t ms us m).records now all one.0 in
    let number : from.0.uid ≡ uid = sym (changed_same (map_entry.P f t ms us) from.0).uid ∙ (ap (λ (r : MapRecord). r.uid) (sym from.2) ∙ eqb-true now.uid uid one.1) in
    let same : from.0 ≡ row = (let e : Some from.0 ≡ Some row = sym (at_uid m from.0 sound from.1) ∙ (ap (λ (u : ℕ). record_at m u) number ∙ there) in cc e) in
    from.2 ∙ ap (λ (r : MapRecord). moved_record r t (place_given r.uid ms)) same
  where
    all : All (λ (r : MapRecord). (was : MapRecord) × Contains m.records was × (r ≡ moved_record was t (place_given was.uid ms))) (map_switched f t ms us m).records
    all = subst (λ (rs : List MapRecord). All (λ (r : MapRecord). (was : MapRecord) × Contains m.records was × (r ≡ moved_record was t (place_given was.uid ms))) rs) (sym (rows_are f t ms us m))
        (kept_all record_rules (map_entry.P f t ms us) m.records (Contains m.records) (λ (r : MapRecord). (was : MapRecord) × Contains m.records was × (r ≡ moved_record was t (place_given was.uid ms))) (λ was c. (was, c, refl)) (All-contains_itself m.records))

pub count_stays : (row : MapRecord) (t : ℕ) (o : Option MapPlace) → (moved_record row t o).count ≡ row.count
count_stays row t None = refl
count_stays row t (Some place) = refl

pub place_alone : (row : MapRecord) (t : ℕ) (o : Option MapPlace) → moved_record row t o ≡ record row { count = (moved_record row t o).count; file = (moved_record row t o).file; offset = (moved_record row t o).offset }
place_alone row t None = refl
place_alone row t (Some place) = refl

-- ---- the target

-- where the target is another file, or there is none and nothing is moved
pub moved_elsewhere : (target : Option FileNo) (ms : List MapPlace) (number : ℕ) → (target ≡ None → ms ≡ []) → ((t : FileNo) → target ≡ Some t → t.0 ≢ number) → IsElsewhereMoved (target_named target ms) number ms
moved_elsewhere target [] number none apart = inr refl
moved_elsewhere None (place ∷ ms) number none apart = inr (none refl)
moved_elsewhere (Some t) (place ∷ ms) number none apart = inl (apart t refl)
