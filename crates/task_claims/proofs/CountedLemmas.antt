-- Maps whose records are the same but for their counts.
use Rattle.std.proofs.Common.{◌≡◌, ◌==◌, ◌+◌, ◌-◌, ℕ, Bool, true, false, cond, List, [], ◌∷◌, map, Some, None, All, refl, sym, ◌∙◌, ap, subst, arith, ◌≤◌}
use Rattle.std.specs.Prelude.{find, filter, if◌then◌else◌}
use Rattle.std.proofs.lemmas.Bool.{eqb-true}
use Rattle.std.proofs.lemmas.List.Elements.{All-head, All-tail, All-cons, All-nil}
use Rattle.mdbox_base.specs.declared.entries.MapCount.{MapCount}
use Rattle.mdbox_base.specs.declared.entries.MapEntry.TheVariants as map_entry
use Rattle.mdbox_base.specs.declared.ids.BoxNo.{BoxNo}
use Rattle.mdbox_base.specs.declared.ids.MapUid.{MapUid}
use Rattle.model_meaning.specs.MapFits.{MapFits}
use Rattle.model_meaning.specs.MapMeaning.{MapRecord, MapMeaning, record_at, record_changed, count_given, map_applied, has_map_uid}
use Rattle.model_meaning.proofs.AppliedLemmas.{records_by_raised, records_by_lowered, records_by_deleted, records_by_renamed}
use Rattle.store_core.proofs.MapDueLemmas.{found_with}
use Rattle.task_claims.specs.Leaving.{but_count, records_within, RaisesNone, SameButCounts}

-- ---- entries that change counts

but_count_if : (t : Bool) (row : MapRecord) (n : ℕ) → but_count (if t then record row { count = n } else row) ≡ but_count row
but_count_if true row n = refl
but_count_if false row n = refl

changed_same : (change : MapRecord → MapRecord) → ((row : MapRecord) → but_count (change row) ≡ but_count row) → (rows : List MapRecord) → map but_count (map change rows) ≡ map but_count rows
changed_same change same [] = refl
changed_same change same (r ∷ rs) = ap (λ (x : MapRecord). x ∷ map but_count (map change rs)) (same r) ∙ ap (λ (xs : List MapRecord). but_count r ∷ xs) (changed_same change same rs)

pub raised_same : (uid : MapUid) (m : MapMeaning) → SameButCounts m (map_applied (map_entry.U uid) m)
raised_same uid m = ap (map but_count) (records_by_raised uid m.records) ∙ changed_same (record_changed (map_entry.U uid)) (λ row. but_count_if (uid.0 == row.uid) row (row.count + 1)) m.records

pub lowered_same : (uids : List MapUid) (m : MapMeaning) → SameButCounts m (map_applied (map_entry.D uids) m)
lowered_same uids m = ap (map but_count) (records_by_lowered uids m.records) ∙ changed_same (record_changed (map_entry.D uids)) (λ row. but_count_if (has_map_uid row.uid uids) row (row.count - 1)) m.records

-- a mailbox is deleted, or gets another name
pub deleted_same : (mailbox : BoxNo) (amounts : List MapCount) (m : MapMeaning) → SameButCounts m (map_applied (map_entry.X mailbox amounts) m)
deleted_same mailbox amounts m = ap (map but_count) (records_by_deleted mailbox amounts m.records) ∙ changed_same (record_changed (map_entry.X mailbox amounts)) (λ row. refl) m.records

pub renamed_same : (mailbox : BoxNo) (name : List ℕ) (m : MapMeaning) → SameButCounts m (map_applied (map_entry.V mailbox name) m)
renamed_same mailbox name m = ap (map but_count) (records_by_renamed mailbox name m.records)

pub same_map : (m n : MapMeaning) → n ≡ m → SameButCounts m n
same_map m n e = ap (λ (k : MapMeaning). map but_count k.records) e

-- ---- counts of 0

some_record : (a b : MapRecord) → Some a ≡ Some b → a ≡ b
some_record a b e = cc e

-- the same records
pub unraised_same : (m n : MapMeaning) → n.records ≡ m.records → RaisesNone m n
unraised_same m n same uid row now there none is =
    let e : now ≡ row = some_record now row (sym is ∙ (ap (find (λ (r : MapRecord). r.uid == uid)) same ∙ there)) in
    ap (λ (r : MapRecord). r.count) e ∙ none

found_uid : (uid : ℕ) (rows : List MapRecord) (row : MapRecord) → find (λ r. r.uid == uid) rows ≡ Some row → row.uid ≡ uid
found_uid uid [] row e = absurd (let k : None ≡ Some row = e in cc k)
found_uid uid (r ∷ rs) row e = by_test (r.uid == uid) refl e (λ is. found_uid uid rs row is)
  where
    by_test : (t : Bool) → (r.uid == uid) ≡ t → cond t (Some r) (find (λ (x : MapRecord). x.uid == uid) rs) ≡ Some row → (find (λ (x : MapRecord). x.uid == uid) rs ≡ Some row → row.uid ≡ uid) → row.uid ≡ uid
    by_test true t is rest = ap (λ (x : MapRecord). x.uid) (sym (some_record r row is)) ∙ eqb-true r.uid uid t
    by_test false t is rest = rest is

-- a count is raised that wasn't 0
pub unraised_by : (uid : MapUid) (m : MapMeaning) → MapFits m (map_entry.U uid) → RaisesNone m (map_applied (map_entry.U uid) m)
unraised_by uid m fits other row now there none is = by_test (uid.0 == row.uid) refl
  where
    changed : now ≡ record_changed (map_entry.U uid) row
    changed = some_record now (record_changed (map_entry.U uid) row) (sym is ∙ found_with (map_entry.U uid) tt m other row there)

    -- it would be this record
    had : uid.0 ≡ row.uid → 1 ≤ row.count
    had same =
        let e : fits.0 ≡ row = some_record fits.0 row (sym fits.1 ∙ (ap (record_at m) (same ∙ found_uid other m.records row there) ∙ there)) in
        subst (λ (r : MapRecord). 1 ≤ r.count) e fits.2.0

    by_test : (t : Bool) → (uid.0 == row.uid) ≡ t → now.count ≡ 0
    by_test true t = absurd (let some = had (eqb-true uid.0 row.uid t) in omega (arith, some, none))
    by_test false t = ap (λ (r : MapRecord). r.count) changed ∙ (ap (λ (b : Bool). (if b then record row { count = row.count + 1 } else row).count) t ∙ none)

-- counts are lowered
pub unraised_lower : (uids : List MapUid) (m : MapMeaning) → RaisesNone m (map_applied (map_entry.D uids) m)
unraised_lower uids m other row now there none is =
    ap (λ (r : MapRecord). r.count) (some_record now (record_changed (map_entry.D uids) row) (sym is ∙ found_with (map_entry.D uids) tt m other row there)) ∙ by_test (has_map_uid row.uid uids)
  where
    by_test : (t : Bool) → (if t then record row { count = row.count - 1 } else row).count ≡ 0
    by_test true = omega (arith, none)
    by_test false = none

-- a mailbox is deleted: each record is found still
found_deleted : (mailbox : BoxNo) (amounts : List MapCount) (uid : ℕ) (rows : List MapRecord) (row : MapRecord) → find (λ r. r.uid == uid) rows ≡ Some row → find (λ r. r.uid == uid) (map (record_changed (map_entry.X mailbox amounts)) rows) ≡ Some (record_changed (map_entry.X mailbox amounts) row)
found_deleted mailbox amounts uid [] row is = absurd (let k : None ≡ Some row = is in cc k)
found_deleted mailbox amounts uid (r ∷ rows) row is = by_test (r.uid == uid) is (found_deleted mailbox amounts uid rows row)
  where
    by_test : (t : Bool) → (if t then Some r else find (λ x. x.uid == uid) rows) ≡ Some row → (find (λ x. x.uid == uid) rows ≡ Some row → find (λ x. x.uid == uid) (map (record_changed (map_entry.X mailbox amounts)) rows) ≡ Some (record_changed (map_entry.X mailbox amounts) row))
        → (if t then Some (record_changed (map_entry.X mailbox amounts) r) else find (λ x. x.uid == uid) (map (record_changed (map_entry.X mailbox amounts)) rows)) ≡ Some (record_changed (map_entry.X mailbox amounts) row)
    by_test true e rest = let same : r ≡ row = some_record r row e in ap (λ (x : MapRecord). Some (record_changed (map_entry.X mailbox amounts) x)) same
    by_test false e rest = rest e

pub unraised_deleted : (mailbox : BoxNo) (amounts : List MapCount) (m : MapMeaning) → RaisesNone m (map_applied (map_entry.X mailbox amounts) m)
unraised_deleted mailbox amounts m other row now there none is =
    let count : now.count ≡ row.count - count_given row.uid amounts 0 = ap (λ (r : MapRecord). r.count) (some_record now (record_changed (map_entry.X mailbox amounts) row) (sym is ∙ (ap (find (λ (r : MapRecord). r.uid == other)) (records_by_deleted mailbox amounts m.records) ∙ found_deleted mailbox amounts other m.records row there))) in
    omega (arith, count, none)

pub unraised_renamed : (mailbox : BoxNo) (name : List ℕ) (m : MapMeaning) → RaisesNone m (map_applied (map_entry.V mailbox name) m)
unraised_renamed mailbox name m = unraised_same m (map_applied (map_entry.V mailbox name) m) (records_by_renamed mailbox name m.records)

-- ---- what they have in common

head_same : (a b : MapRecord) (xs ys : List MapRecord) → but_count a ∷ xs ≡ but_count b ∷ ys → but_count a ≡ but_count b
head_same a b xs ys e = cc e

tail_same : (a b : MapRecord) (xs ys : List MapRecord) → but_count a ∷ xs ≡ but_count b ∷ ys → xs ≡ ys
tail_same a b xs ys e = cc e

none_same : {X : Type 0} → (x : X) (xs : List X) → [] ≡ x ∷ xs → ⊥
none_same x xs e = cc e

-- the record of a map uid is there, with another count
pub found_same : (uid : ℕ) (old new : List MapRecord) (row : MapRecord) → map but_count new ≡ map but_count old → find (λ r. r.uid == uid) old ≡ Some row → (now : MapRecord) × (find (λ r. r.uid == uid) new ≡ Some now) × (but_count now ≡ but_count row)
found_same uid [] [] row same there = absurd (let k : None ≡ Some row = there in cc k)
found_same uid [] (n ∷ ns) row same there = absurd (none_same (but_count n) (map but_count ns) (sym same))
found_same uid (o ∷ os) [] row same there = absurd (none_same (but_count o) (map but_count os) same)
found_same uid (o ∷ os) (n ∷ ns) row same there = by_test (o.uid == uid) (n.uid == uid) (ap (λ (r : MapRecord). r.uid == uid) (head_same n o _ _ same)) there (λ t. found_same uid os ns row (tail_same n o _ _ same) t)
  where
    by_test : (s t : Bool) → t ≡ s → cond s (Some o) (find (λ r. r.uid == uid) os) ≡ Some row
        → (find (λ r. r.uid == uid) os ≡ Some row → (now : MapRecord) × (find (λ r. r.uid == uid) ns ≡ Some now) × (but_count now ≡ but_count row))
        → (now : MapRecord) × (cond t (Some n) (find (λ r. r.uid == uid) ns) ≡ Some now) × (but_count now ≡ but_count row)
    by_test true true e t rest = (n, refl, (let k : o ≡ row = cc t in head_same n o _ _ same ∙ ap but_count k))
    by_test true false e t rest = absurd (let k : false ≡ true = e in cc k)
    by_test false true e t rest = absurd (let k : true ≡ false = e in cc k)
    by_test false false e t rest = rest t

pub rows_same : (number : ℕ) (m n : MapMeaning) → SameButCounts m n → records_within number n ≡ records_within number m
rows_same number m n same = ap (λ (rs : List MapRecord). filter (λ row. row.file == number) rs) same

-- what holds of all records, whatever their counts
pub all_same : (P : MapRecord → Type 0) (old new : List MapRecord) → ((a b : MapRecord) → but_count a ≡ but_count b → P b → P a) → map but_count new ≡ map but_count old → All P old → All P new
all_same P [] [] go same all = All-nil P
all_same P [] (n ∷ ns) go same all = absurd (none_same (but_count n) (map but_count ns) (sym same))
all_same P (o ∷ os) [] go same all = All-nil P
all_same P (o ∷ os) (n ∷ ns) go same all = All-cons P n ns (go n o (head_same n o _ _ same) (All-head P o os all)) (all_same P os ns go (tail_same n o _ _ same) (All-tail P o os all))
