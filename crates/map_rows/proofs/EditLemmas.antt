-- Changes of one record among those in order of map uid.
use Rattle.map_rows.proofs.Common.{AllPairs, ◌≡◌, ◌≢◌, ℕ, zero, suc, ◌+◌, ◌-◌, ◌<◌, ◌≤◌, ◌==◌, true, false, List, [], ◌∷◌, length, get_or, map, All, refl, sym, ◌∙◌, ap, subst, arith, nat_tests, All-head, All-tail, All-weaker, pairs_head, pairs_tail, MapUid, MapRecord, record_changed, Record}
use Rattle.map_rows.proofs.Common.{lowered_by, meant_record}
use Rattle.std.proofs.Common.{set}
use Rattle.std.specs.List.{position_or_len}
use Rattle.std.proofs.lemmas.List.{get_or_default}
use Rattle.std.proofs.lemmas.List.Sums.{passes_at_first, fails_before_first}
use Rattle.mdbox_base.specs.declared.entries.MapCount.{MapCount}
use Rattle.mdbox_base.specs.declared.entries.MapEntry.TheVariants as entry
use Rattle.model_meaning.proofs.MapPlaceLemmas.{equal_is}
use Rattle.map_rows.proofs.DerivedListLemmas.{All-unmap}

abbrev pub Rise : List Record → Type 0
Rise records = AllPairs (λ a b. a.row.uid.0 < b.row.uid.0) records

-- what changes only the record of a map uid
abbrev pub ChangesOnly : ℕ → (MapRecord → MapRecord) → Type 0
ChangesOnly uid change = (row : MapRecord) → row.uid ≢ uid → change row ≡ row

pub untouched : (change : MapRecord → MapRecord) (uid : ℕ) (records : List Record) → ChangesOnly uid change → All (λ r. r.row.uid.0 ≢ uid) records → map change (map meant_record records) ≡ map meant_record records
untouched change uid [] only a = refl
untouched change uid (r ∷ records) only a = let e = only (meant_record r) (All-head (λ x. x.row.uid.0 ≢ uid) r records a) in let f = untouched change uid records only (All-tail (λ x. x.row.uid.0 ≢ uid) r records a) in cc (e, f)

one_changed : (change : MapRecord → MapRecord) (uid : ℕ) (records : List Record) (at : ℕ) (new : Record) → ChangesOnly uid change → Rise records → at < length records → ((d : Record) → (get_or records at d).row.uid.0 ≡ uid) → meant_record new ≡ change (meant_record (get_or records at new)) → map meant_record (set records at new) ≡ map change (map meant_record records)
one_changed change uid [] at new only rise within here is = absurd (omega (arith, within))
one_changed change uid (r ∷ records) zero new only rise within here is =
    let hit : r.row.uid.0 ≡ uid = here r in
    let rest = untouched change uid records only (All-weaker (λ x. r.row.uid.0 < x.row.uid.0) (λ x. x.row.uid.0 ≢ uid) (λ x l e. omega (arith, l, e, hit)) records (pairs_head (λ a b. a.row.uid.0 < b.row.uid.0) r records rise)) in
    cc (is, sym rest)
one_changed change uid (r ∷ records) (suc at) new only rise within here is =
    let later : get_or records at r ≡ get_or records at r = refl in
    let hit : (get_or records at r).row.uid.0 ≡ uid = here r in
    let less : r.row.uid.0 < (get_or records at r).row.uid.0 = rise 0 (suc at) r (omega arith) within in
    let first = only (meant_record r) (λ e. omega (arith, hit, less, e)) in
    let rest = one_changed change uid records at new only (pairs_tail (λ a b. a.row.uid.0 < b.row.uid.0) r records rise) (omega (arith, within)) (λ d. here d) is in
    cc (sym first, rest)

-- the record of a map uid is changed at its place
pub changed_at : (change : MapRecord → MapRecord) (uid : ℕ) (records : List Record) (at : ℕ) (new : Record) → ChangesOnly uid change → Rise records → at ≡ position_or_len (λ (r : Record). r.row.uid.0 == uid) records → at < length records → meant_record new ≡ change (meant_record (get_or records at new)) → map meant_record (set records at new) ≡ map change (map meant_record records)
changed_at change uid records at new only rise e within is =
    one_changed change uid records at new only rise within
    (λ d. equal_is _ uid (subst (λ (i : ℕ). ((get_or records i d).row.uid.0 == uid) ≡ true) (sym e) (passes_at_first (λ (r : Record). r.row.uid.0 == uid) records d (subst (λ (i : ℕ). i < length records) e within)))) is

-- where there is none, nothing changes
pub changed_nowhere : (change : MapRecord → MapRecord) (uid : ℕ) (records : List Record) (at : ℕ) → ChangesOnly uid change → at ≡ position_or_len (λ (r : Record). r.row.uid.0 == uid) records → length records ≤ at → map meant_record records ≡ map change (map meant_record records)
changed_nowhere change uid records at only e past =
    sym (untouched change uid records only (λ k d lt same. differs _ uid (fails_before_first (λ (r : Record). r.row.uid.0 == uid) records k d (omega (arith, e, past, lt))) same))
  where
    differs : (a b : ℕ) → (a == b) ≡ false → a ≡ b → ⊥
    differs a b h e = grind (arith, nat_tests, h, e)

-- ---- one record

pub here : (uid : ℕ) (records : List Record) (at : ℕ) → at ≡ position_or_len (λ (r : Record). r.row.uid.0 == uid) records → at < length records → (d : Record) → (get_or records at d).row.uid.0 ≡ uid
here uid records at e within d = equal_is _ uid (subst (λ (i : ℕ). ((get_or records i d).row.uid.0 == uid) ≡ true) (sym e) (passes_at_first (λ (r : Record). r.row.uid.0 == uid) records d (subst (λ (i : ℕ). i < length records) e within)))

unequal : (a b : ℕ) → a ≢ b → (a == b) ≡ false
unequal a b h = grind (arith, nat_tests, h)

equal : (a b : ℕ) → a ≡ b → (a == b) ≡ true
equal a b h = grind (arith, nat_tests, h)

pub raises_only : (uid : MapUid) → ChangesOnly uid.0 (record_changed (entry.U uid))
raises_only uid row apart = rw (unequal uid.0 row.uid (λ e. apart (sym e))) refl

pub raised : (uid : MapUid) (row : MapRecord) → row.uid ≡ uid.0 → record_changed (entry.U uid) row ≡ record row { count = row.count + 1 }
raised uid row e = rw (equal uid.0 row.uid (sym e)) refl

pub lowers_only : (uid : MapUid) → ChangesOnly uid.0 (record_changed (entry.D (uid ∷ [])))
lowers_only uid row apart = rw (unequal uid.0 row.uid (λ e. apart (sym e))) refl

pub lowered : (uid : MapUid) (row : MapRecord) → row.uid ≡ uid.0 → record_changed (entry.D (uid ∷ [])) row ≡ record row { count = row.count - 1 }
lowered uid row e = rw (equal uid.0 row.uid (sym e)) refl

pub sets_only : (given : MapCount) → ChangesOnly given.uid.0 (record_changed (entry.T (given ∷ [])))
sets_only given row apart = rw (unequal given.uid.0 row.uid (λ e. apart (sym e))) refl

pub given_count : (given : MapCount) (row : MapRecord) → row.uid ≡ given.uid.0 → record_changed (entry.T (given ∷ [])) row ≡ record row { count = given.count }
given_count given row e = rw (equal given.uid.0 row.uid (sym e)) refl

none_off : (row : MapRecord) → record row { count = row.count - 0 } ≡ row
none_off row = ap (λ (n : ℕ). record row { count = n }) (let e : row.count - 0 ≡ row.count = omega arith in e)

pub lowers_by_only : (given : MapCount) → ChangesOnly given.uid.0 (lowered_by (given ∷ []))
lowers_by_only given row apart = rw (unequal given.uid.0 row.uid (λ e. apart (sym e))) (none_off row)

pub lowered_count : (given : MapCount) (row : MapRecord) → row.uid ≡ given.uid.0 → lowered_by (given ∷ []) row ≡ record row { count = row.count - given.count }
lowered_count given row e = rw (equal given.uid.0 row.uid (sym e)) refl

-- ---- for the calls

abbrev with_count : Record → Record → ℕ → Record
with_count old new n = record { row = record old.row { count = n }; instances = new.instances }

-- the record's new count stands at its place
pub count_at : (change : MapRecord → MapRecord) (f : ℕ → ℕ) (uid : ℕ) (records : List Record) (at : ℕ) (old new : Record) (n : ℕ) → ChangesOnly uid change → ((row : MapRecord) → row.uid ≡ uid → change row ≡ record row { count = f row.count }) → Rise records
    → at ≡ position_or_len (λ (r : Record). r.row.uid.0 == uid) records → at < length records → old ≡ get_or records at old → new ≡ get_or records at new → n ≡ f old.row.count
    → map meant_record (set records at (with_count old new n)) ≡ map change (map meant_record records)
count_at change f uid records at old new n only sets rise e within old_is new_is n_is =
    let got : get_or records at (with_count old new n) ≡ old = get_or_default records at (with_count old new n) old within ∙ sym old_is in
    let same : new ≡ old = new_is ∙ get_or_default records at new old within ∙ sym old_is in
    let hit : old.row.uid.0 ≡ uid = ap (λ (r : Record). r.row.uid.0) old_is ∙ here uid records at e within old in
    let is : meant_record (with_count old new n) ≡ change (meant_record old) = counted f old new n same n_is ∙ sym (sets (meant_record old) hit) in
    changed_at change uid records at (with_count old new n) only rise e within (is ∙ ap (λ (r : Record). change (meant_record r)) (sym got))
  where
    counted : (f : ℕ → ℕ) (old new : Record) (n : ℕ) → new ≡ old → n ≡ f old.row.count → meant_record (with_count old new n) ≡ record (meant_record old) { count = f old.row.count }
    counted f old new n p q = subst (λ (m : ℕ). meant_record (with_count old new n) ≡ record (meant_record old) { count = m }) q (ap (λ (r : Record). meant_record (with_count old r n)) p)

-- a count that rises has been in range
pub can_raise : (uid : MapUid) (records : List Record) (at : ℕ) (old : Record) → All (λ row. uid.0 ≡ row.uid → row.count ≤ 65534) (map meant_record records) → at ≡ position_or_len (λ (r : Record). r.row.uid.0 == uid.0) records → at < length records → old ≡ get_or records at old → old.row.count ≤ 65534
can_raise uid records at old rise e within old_is =
    let each = All-unmap (λ (row : MapRecord). uid.0 ≡ row.uid → row.count ≤ 65534) meant_record records rise in
    subst (λ (r : Record). uid.0 ≡ r.row.uid.0 → r.row.count ≤ 65534) (sym old_is) (each at old within) (sym (ap (λ (r : Record). r.row.uid.0) old_is ∙ here uid.0 records at e within old))
