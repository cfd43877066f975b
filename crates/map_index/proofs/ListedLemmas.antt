-- Records that lists name, changed one after another.
use Rattle.map_index.proofs.Common.{◌≡◌, ◌≢◌, ◌+◌, ◌-◌, ◌<◌, ◌≤◌, ◌==◌, ◌||◌, ℕ, zero, suc, Bool, true, false, cond, List, [], ◌∷◌, length, get_or, map, fold, find, drop, Some, None, refl, sym, ◌∙◌, ap, arith, AllPairs, option_map_or, nat_tests, All-head, All-tail, pairs_head, pairs_tail, MapUid}
use Rattle.map_index.proofs.Common.{MapCount, MapRecord, record_changed, equal_is, lowered_by, TableValue}
use Rattle.std.proofs.Common.{All, add-one, drop-cons}
use Rattle.std.specs.Prelude.{if◌then◌else◌}
use Rattle.mdbox_base.specs.declared.entries.MapEntry.TheVariants as entry
use Rattle.model_meaning.specs.MapMeaning.{has_map_uid}

-- ---- one item more

drop_first : {X : Type 0} → (xs : List X) (k : ℕ) (x d : X) → k < length xs → x ≡ get_or xs k d → drop k xs ≡ x ∷ drop (k + 1) xs
drop_first xs k x d lt e = rw (add-one, e) (drop-cons xs k d lt)

pub fold_step : {X Y : Type 0} → (F : Y → X → Y) (rows : Y) (xs : List X) (k : ℕ) (x d : X) → k < length xs → x ≡ get_or xs k d → fold F (F rows x) (drop (k + 1) xs) ≡ fold F rows (drop k xs)
fold_step F rows xs k x d lt e = ap (fold F rows) (sym (drop_first xs k x d lt e))

pub fold_end : {X Y : Type 0} → (F : Y → X → Y) (rows : Y) (xs : List X) (k : ℕ) → length xs ≤ k → fold F rows (drop k xs) ≡ rows
fold_end F rows [] zero le = refl
fold_end F rows [] (suc k) le = refl
fold_end F rows (x ∷ xs) zero le = absurd (omega (arith, le))
fold_end F rows (x ∷ xs) (suc k) le = fold_end F rows xs k (omega (arith, le))

abbrev table_of : List MapRecord → ℕ → ℕ → TableValue
table_of rows records instances = record { records = rows; record_room = records; instance_room = instances }

tables_same : (rows others : List MapRecord) (a b c d : ℕ) → rows ≡ others → a ≡ b → c ≡ d → table_of rows a c ≡ table_of others b d
tables_same rows others a b c d p q r = cc (p, q, r)

-- the table with other records, and room as before
pub same_table : (t u : TableValue) (rows : List MapRecord) → t.records ≡ rows → t.record_room ≡ u.record_room → t.instance_room ≡ u.instance_room → t ≡ record u { records = rows }
same_table t u rows p q r = tables_same t.records rows t.record_room u.record_room t.instance_room u.instance_room p q r

unequal : (a b : ℕ) → a ≢ b → (a == b) ≡ false
unequal a b h = grind (arith, nat_tests, h)

map_twice : (f g h : MapRecord → MapRecord) → ((row : MapRecord) → f (g row) ≡ h row) → (rows : List MapRecord) → map f (map g rows) ≡ map h rows
map_twice f g h same [] = refl
map_twice f g h same (row ∷ rows) = let a = same row in let b = map_twice f g h same rows in cc (a, b)

map_same : (f : MapRecord → MapRecord) → ((row : MapRecord) → f row ≡ row) → (rows : List MapRecord) → map f rows ≡ rows
map_same f same [] = refl
map_same f same (row ∷ rows) = let a = same row in let b = map_same f same rows in cc (a, b)

-- ---- counts that are lowered

not_in : (uid : MapUid) (uids : List MapUid) (row : MapRecord) → row.uid ≡ uid.0 → All (λ n. uid.0 < n) (map (λ (u : MapUid). u.0) uids) → has_map_uid row.uid uids ≡ false
not_in uid [] row e a = refl
not_in uid (v ∷ uids) row e a =
    let l : uid.0 < v.0 = All-head (λ n. uid.0 < n) v.0 (map (λ (u : MapUid). u.0) uids) a in
    rw (unequal v.0 row.uid (λ s. omega (arith, s, e, l))) (not_in uid uids row e (All-tail (λ n. uid.0 < n) v.0 (map (λ (u : MapUid). u.0) uids) a))

lower_step : (uid : MapUid) (uids : List MapUid) (row : MapRecord) (hit : Bool) → (uid.0 == row.uid) ≡ hit → All (λ n. uid.0 < n) (map (λ (u : MapUid). u.0) uids)
    → record_changed (entry.D uids) (if (hit || false) then record row { count = row.count - 1 } else row) ≡ (if (hit || has_map_uid row.uid uids) then record row { count = row.count - 1 } else row)
lower_step uid uids row true e a = let n : has_map_uid row.uid uids ≡ false = not_in uid uids row (sym (equal_is uid.0 row.uid e)) a in rw n refl
lower_step uid uids row false e a = refl

pub lowered_each : (uids : List MapUid) (rows : List MapRecord) → AllPairs (λ a b. a < b) (map (λ (u : MapUid). u.0) uids) → fold (λ (rs : List MapRecord) (u : MapUid). map (record_changed (entry.D (u ∷ []))) rs) rows uids ≡ map (record_changed (entry.D uids)) rows
lowered_each [] rows rise = sym (map_same (record_changed (entry.D [])) (λ row. refl) rows)
lowered_each (uid ∷ uids) rows rise =
    lowered_each uids (map (record_changed (entry.D (uid ∷ []))) rows) (pairs_tail (λ a b. a < b) uid.0 (map (λ (u : MapUid). u.0) uids) rise)
    ∙ map_twice (record_changed (entry.D uids)) (record_changed (entry.D (uid ∷ []))) (record_changed (entry.D (uid ∷ uids))) (λ row. lower_step uid uids row (uid.0 == row.uid) refl (pairs_head (λ a b. a < b) uid.0 (map (λ (u : MapUid). u.0) uids) rise)) rows

-- ---- counts that are set

not_given : (given : MapCount) (counts : List MapCount) (row : MapRecord) → row.uid ≡ given.uid.0 → All (λ n. given.uid.0 < n) (map (λ (c : MapCount). c.uid.0) counts) → find (λ (c : MapCount). c.uid.0 == row.uid) counts ≡ None
not_given given [] row e a = refl
not_given given (v ∷ counts) row e a =
    let l : given.uid.0 < v.uid.0 = All-head (λ n. given.uid.0 < n) v.uid.0 (map (λ (c : MapCount). c.uid.0) counts) a in
    rw (unequal v.uid.0 row.uid (λ s. omega (arith, s, e, l))) (not_given given counts row e (All-tail (λ n. given.uid.0 < n) v.uid.0 (map (λ (c : MapCount). c.uid.0) counts) a))

set_step : (given : MapCount) (counts : List MapCount) (row : MapRecord) (hit : Bool) → (given.uid.0 == row.uid) ≡ hit → All (λ n. given.uid.0 < n) (map (λ (c : MapCount). c.uid.0) counts)
    → record_changed (entry.T counts) (record row { count = option_map_or (λ (c : MapCount). c.count) (cond hit (Some given) None) row.count }) ≡ record row { count = option_map_or (λ (c : MapCount). c.count) (cond hit (Some given) (find (λ (c : MapCount). c.uid.0 == row.uid) counts)) row.count }
set_step given counts row true e a = let n = not_given given counts row (sym (equal_is given.uid.0 row.uid e)) a in rw n refl
set_step given counts row false e a = refl

pub set_each : (counts : List MapCount) (rows : List MapRecord) → AllPairs (λ a b. a < b) (map (λ (c : MapCount). c.uid.0) counts) → fold (λ (rs : List MapRecord) (c : MapCount). map (record_changed (entry.T (c ∷ []))) rs) rows counts ≡ map (record_changed (entry.T counts)) rows
set_each [] rows rise = sym (map_same (record_changed (entry.T [])) (λ row. refl) rows)
set_each (given ∷ counts) rows rise =
    set_each counts (map (record_changed (entry.T (given ∷ []))) rows) (pairs_tail (λ a b. a < b) given.uid.0 (map (λ (c : MapCount). c.uid.0) counts) rise)
    ∙ map_twice (record_changed (entry.T counts)) (record_changed (entry.T (given ∷ []))) (record_changed (entry.T (given ∷ counts))) (λ row. set_step given counts row (given.uid.0 == row.uid) refl (pairs_head (λ a b. a < b) given.uid.0 (map (λ (c : MapCount). c.uid.0) counts) rise)) rows

-- ---- counts that are lowered by amounts

none_off : (row : MapRecord) → lowered_by [] row ≡ row
none_off row = ap (λ (n : ℕ). record row { count = n }) (let e : row.count - 0 ≡ row.count = omega arith in e)

lower_by_step : (given : MapCount) (counts : List MapCount) (row : MapRecord) (hit : Bool) → (given.uid.0 == row.uid) ≡ hit → All (λ n. given.uid.0 < n) (map (λ (c : MapCount). c.uid.0) counts)
    → lowered_by counts (record row { count = row.count - option_map_or (λ (c : MapCount). c.count) (cond hit (Some given) None) 0 }) ≡ record row { count = row.count - option_map_or (λ (c : MapCount). c.count) (cond hit (Some given) (find (λ (c : MapCount). c.uid.0 == row.uid) counts)) 0 }
lower_by_step given counts row true e a =
    let n = not_given given counts row (sym (equal_is given.uid.0 row.uid e)) a in
    rw n (ap (λ (k : ℕ). record row { count = k }) (let f : row.count - given.count - 0 ≡ row.count - given.count = omega arith in f))
lower_by_step given counts row false e a = ap (λ (k : ℕ). record row { count = k - option_map_or (λ (c : MapCount). c.count) (find (λ (c : MapCount). c.uid.0 == row.uid) counts) 0 }) (let f : row.count - 0 ≡ row.count = omega arith in f)

pub lowered_by_each : (counts : List MapCount) (rows : List MapRecord) → AllPairs (λ a b. a < b) (map (λ (c : MapCount). c.uid.0) counts) → fold (λ (rs : List MapRecord) (c : MapCount). map (lowered_by (c ∷ [])) rs) rows counts ≡ map (lowered_by counts) rows
lowered_by_each [] rows rise = sym (map_same (lowered_by []) none_off rows)
lowered_by_each (given ∷ counts) rows rise =
    lowered_by_each counts (map (lowered_by (given ∷ [])) rows) (pairs_tail (λ a b. a < b) given.uid.0 (map (λ (c : MapCount). c.uid.0) counts) rise)
    ∙ map_twice (lowered_by counts) (lowered_by (given ∷ [])) (lowered_by (given ∷ counts)) (λ row. lower_by_step given counts row (given.uid.0 == row.uid) refl (pairs_head (λ a b. a < b) given.uid.0 (map (λ (c : MapCount). c.uid.0) counts) rise)) rows

-- ---- for the calls

pub table_is : (t : TableValue) (rows : List MapRecord) (records instances : ℕ) → t.records ≡ rows → t.record_room ≡ records → t.instance_room ≡ instances → t ≡ record { records = rows; record_room = records; instance_room = instances }
table_is t rows records instances p q r = tables_same t.records rows t.record_room records t.instance_room instances p q r
