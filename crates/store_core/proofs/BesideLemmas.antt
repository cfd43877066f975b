-- Rows that are counted beside records.
use Rattle.store_core.proofs.Common.{◌≡◌, ◌==◌, ◌<◌, ◌≤◌, ◌+◌, ◌*◌, ℕ, suc, Bool, true, false, cond, List, [], ◌∷◌, map, length, take, zero, get_or, slice_get, Some, refl, sym, ◌∙◌, ap, subst, arith, AllPairs, count_by, sum_by, if◌then◌else◌, sum_by-cons, length-map, row_of, BoxRow, LogRow}
use Rattle.store_core.proofs.Common.{BoxMeaning, MapRecord, change_beside, number_beside, listed_at, StoreValue, indexes_of, in_rows, in_boxes, StandBeside, OpenBox}
use Rattle.std.proofs.Common.{take_all, replicate}
use Rattle.std.specs.Prelude.{IfOk, Result, Ok, Err}
use Rattle.std.proofs.lemmas.List.Sums.{count_by_more_yes, count_by_more_no, sum_by_more}
use Rattle.std.proofs.lemmas.Option.{get_or_from_slice_get}
use Rattle.store_core.proofs.DueLemmas.{AreNumbers, OneEach, RecordsRise, at_own_place}
use Rattle.store_core.proofs.DueChangeLemmas.{raises, is_raise, changed_are, numbers_are}

-- ---- numbers beside records

pub numbers_beside : (number : ℕ → ℕ) (rows : List MapRecord) → AreNumbers number rows (map (λ row. number row.uid) rows)
numbers_beside number [] = tt
numbers_beside number (r ∷ rs) = (refl, numbers_beside number rs)

-- no number is above a bound
pub beside_most : (number : ℕ → ℕ) (most uid : ℕ) (rows : List MapRecord) → ((u : ℕ) → number u ≤ most) → number_beside uid rows (map (λ row. number row.uid) rows) ≤ most
beside_most number most uid [] within = omega arith
beside_most number most uid (r ∷ rs) within = by_test (r.uid == uid) (within r.uid) (beside_most number most uid rs within)
  where
    by_test : (t : Bool) → number r.uid ≤ most → number_beside uid rs (map (λ row. number row.uid) rs) ≤ most → cond t (number r.uid) (number_beside uid rs (map (λ row. number row.uid) rs)) ≤ most
    by_test true a b = a
    by_test false a b = b

-- one more beside the record of this map uid
pub one_more_beside : (k : ℕ) (number : ℕ → ℕ) (rows : List MapRecord) → AllPairs RecordsRise rows → change_beside k (λ n. n + 1) rows (map (λ row. number row.uid) rows) ≡ map (λ row. number row.uid + (if k == row.uid then 1 else 0)) rows
one_more_beside k number rows rising = changed_are k (λ n. n + 1) (raises k) number rows (map (λ row. number row.uid) rows) (is_raise k) rising (numbers_beside number rows)

pub same_beside : (f g : ℕ → ℕ) (rows : List MapRecord) → ((u : ℕ) → f u ≡ g u) → map (λ row. f row.uid) rows ≡ map (λ row. g row.uid) rows
same_beside f g [] same = refl
same_beside f g (r ∷ rs) same = let a = same r.uid in let b = same_beside f g rs same in cc (a, b)

-- ---- rows of a mailbox

abbrev no_row : LogRow
no_row = record { uid = 0; flags = 0; time = 0; size = 0; map_uid = 0; guid = []; words = [] }

pub rows_none : (uid : ℕ) (rows : List LogRow) → in_rows uid (take 0 rows) ≡ 0
rows_none uid [] = refl
rows_none uid (row ∷ rows) = refl

pub rows_more : (uid : ℕ) (rows : List LogRow) (i : ℕ) (row : BoxRow) → i < length rows → slice_get rows i ≡ Some (row_of row) → in_rows uid (take (i + 1) rows) ≡ in_rows uid (take i rows) + (if row.map_uid.0 == uid then 1 else 0)
rows_more uid rows i row within is = by_test (row.map_uid.0 == uid) refl
  where
    here : get_or rows i no_row ≡ row_of row
    here = get_or_from_slice_get rows i (row_of row) no_row is

    by_test : (t : Bool) → (row.map_uid.0 == uid) ≡ t → in_rows uid (take (i + 1) rows) ≡ in_rows uid (take i rows) + (if t then 1 else 0)
    by_test true h = count_by_more_yes (λ (row : LogRow). row.map_uid == uid) rows i no_row within (ap (λ (r : LogRow). r.map_uid == uid) here ∙ h)
    by_test false h = let no = count_by_more_no (λ (row : LogRow). row.map_uid == uid) rows i no_row within (ap (λ (r : LogRow). r.map_uid == uid) here ∙ h) in omega (arith, no)

-- no more than there are
pub rows_few : (uid : ℕ) (rows : List LogRow) → in_rows uid rows ≤ length rows
rows_few uid [] = omega arith
rows_few uid (row ∷ rows) = by_test (row.map_uid == uid) (rows_few uid rows) (sum_by-cons (λ (r : LogRow). cond (r.map_uid == uid) 1 0) row rows)
  where
    by_test : (t : Bool) → in_rows uid rows ≤ length rows → in_rows uid (row ∷ rows) ≡ cond t 1 0 + in_rows uid rows → in_rows uid (row ∷ rows) ≤ suc (length rows)
    by_test true few e = omega (arith, few, e)
    by_test false few e = omega (arith, few, e)

-- ---- a walk over the rows

pub one_each_of : (rows : List MapRecord) (ns : List ℕ) → length ns ≡ length rows → OneEach rows ns
one_each_of [] [] e = tt
one_each_of [] (n ∷ ns) e = absurd (omega (arith, e))
one_each_of (r ∷ rs) [] e = absurd (omega (arith, e))
one_each_of (r ∷ rs) (n ∷ ns) e = one_each_of rs ns (omega (arith, e))

-- numbers stand at their own records
pub own_beside : (rows : List MapRecord) (ns : List ℕ) → AllPairs RecordsRise rows → length ns ≡ length rows → StandBeside (λ uid. number_beside uid rows ns) rows ns
own_beside rows ns rising size = numbers_are (λ uid. number_beside uid rows ns) rows ns (at_own_place rows ns rising (one_each_of rows ns size))

pub walk_begins : (rows : List MapRecord) (ns : List ℕ) (listed : List LogRow) → AllPairs RecordsRise rows → length ns ≡ length rows
    → StandBeside (λ uid. number_beside uid rows ns + in_rows uid (take 0 listed)) rows ns
walk_begins rows ns listed rising size =
    own_beside rows ns rising size
    ∙ same_beside (λ u. number_beside u rows ns) (λ u. number_beside u rows ns + in_rows u (take 0 listed)) rows (λ u. let none = rows_none u listed in omega (arith, none))

take_few : (uid : ℕ) (rows : List LogRow) (i : ℕ) → in_rows uid (take i rows) ≤ length rows
take_few uid [] zero = omega arith
take_few uid [] (suc i) = omega arith
take_few uid (row ∷ rows) zero = omega arith
take_few uid (row ∷ rows) (suc i) = by_test (row.map_uid == uid) (take_few uid rows i) (sum_by-cons (λ (r : LogRow). cond (r.map_uid == uid) 1 0) row (take i rows))
  where
    by_test : (t : Bool) → in_rows uid (take i rows) ≤ length rows → in_rows uid (row ∷ take i rows) ≡ cond t 1 0 + in_rows uid (take i rows) → in_rows uid (row ∷ take i rows) ≤ suc (length rows)
    by_test true few e = omega (arith, few, e)
    by_test false few e = omega (arith, few, e)

pub walk_has_room : (before : ℕ → ℕ) (uid i : ℕ) (rows : List MapRecord) (ns : List ℕ) (listed : List LogRow) → ((u : ℕ) → before u ≤ 1024000000) → length listed ≤ 1000000
    → StandBeside (λ u. before u + in_rows u (take i listed)) rows ns → number_beside uid rows ns + 1 < 4294967296
walk_has_room before uid i rows ns listed within few are =
    let most = beside_most (λ u. before u + in_rows u (take i listed)) 1025000000 uid rows (λ u. let a = within u in let b = take_few u listed i in omega (arith, a, b, few)) in
    let here : number_beside uid rows ns ≤ 1025000000 = subst (λ (xs : List ℕ). number_beside uid rows xs ≤ 1025000000) (sym are) most in
    omega (arith, here)

pub walk_goes_on : (before : ℕ → ℕ) (i : ℕ) (rows : List MapRecord) (ns ms : List ℕ) (listed : List LogRow) (row : BoxRow) → AllPairs RecordsRise rows → i < length listed → slice_get listed i ≡ Some (row_of row)
    → StandBeside (λ u. before u + in_rows u (take i listed)) rows ns → ms ≡ change_beside row.map_uid.0 (λ n. n + 1) rows ns → StandBeside (λ u. before u + in_rows u (take (i + 1) listed)) rows ms
walk_goes_on before i rows ns ms listed row rising within is are e =
    e ∙ ap (change_beside row.map_uid.0 (λ n. n + 1) rows) are
    ∙ one_more_beside row.map_uid.0 (λ u. before u + in_rows u (take i listed)) rows rising
    ∙ same_beside (λ u. before u + in_rows u (take i listed) + (if row.map_uid.0 == u then 1 else 0)) (λ u. before u + in_rows u (take (i + 1) listed)) rows
    (λ u. let more = rows_more u listed i row within is in omega (arith, more))

pub walk_ends : (before : ℕ → ℕ) (i : ℕ) (rows : List MapRecord) (ns : List ℕ) (listed : List LogRow) → length listed ≤ i
    → StandBeside (λ u. before u + in_rows u (take i listed)) rows ns → StandBeside (λ u. before u + in_rows u listed) rows ns
walk_ends before i rows ns listed all are = are ∙ same_beside (λ u. before u + in_rows u (take i listed)) (λ u. before u + in_rows u listed) rows (λ u. ap (λ (xs : List LogRow). before u + in_rows u xs) (take_all i listed all))

-- ---- a walk over the mailboxes

pub boxes_none : (uid : ℕ) (boxes : List OpenBox) → in_boxes uid (take 0 boxes) ≡ 0
boxes_none uid [] = refl
boxes_none uid (b ∷ bs) = refl

pub none_beside : (rows : List MapRecord) → StandBeside (λ uid. 0) rows (replicate (length rows) 0)
none_beside [] = refl
none_beside (r ∷ rs) = let rest = none_beside rs in cc rest

pub boxes_more : (uid i : ℕ) (boxes : List OpenBox) (b : OpenBox) → i < length boxes → b ≡ get_or boxes i b → in_boxes uid (take (i + 1) boxes) ≡ in_boxes uid (take i boxes) + in_rows uid b.index.meaning.rows
boxes_more uid i boxes b within is = sum_by_more (λ (x : OpenBox). in_rows uid x.index.meaning.rows) boxes i b within ∙ ap (λ (x : OpenBox). in_boxes uid (take i boxes) + in_rows uid x.index.meaning.rows) (sym is)

both_more : (f g more : ℕ → ℕ) (rows : List MapRecord) (ns : List ℕ) → AreNumbers f rows ns → AreNumbers g rows ns → map (λ row. f row.uid + more row.uid) rows ≡ map (λ row. g row.uid + more row.uid) rows
both_more f g more [] [] a b = refl
both_more f g more [] (n ∷ ns) a b = absurd a
both_more f g more (r ∷ rs) [] a b = absurd a
both_more f g more (r ∷ rs) (n ∷ ns) a b =
    let here : f r.uid ≡ g r.uid = a.0 ∙ sym b.0 in
    let both : f r.uid + more r.uid ≡ g r.uid + more r.uid = ap (λ (x : ℕ). x + more r.uid) here in
    let rest = both_more f g more rs ns a.1 b.1 in
    cc (both, rest)

pub size_beside : (number : ℕ → ℕ) (rows : List MapRecord) (ns : List ℕ) → StandBeside number rows ns → length ns ≡ length rows
size_beside number rows ns are = ap length are ∙ length-map rows (λ (row : MapRecord). number row.uid)

pub given_at : (number : ℕ → ℕ) (rows : List MapRecord) (ns : List ℕ) → StandBeside number rows ns → AreNumbers number rows ns
given_at number rows ns are = subst (λ (xs : List ℕ). AreNumbers number rows xs) (sym are) (numbers_beside number rows)

pub more_beside : (number more : ℕ → ℕ) (rows : List MapRecord) (ns ms : List ℕ) → AllPairs RecordsRise rows → StandBeside number rows ns → StandBeside (λ u. number_beside u rows ns + more u) rows ms → StandBeside (λ u. number u + more u) rows ms
more_beside number more rows ns ms rising are added =
    added ∙ both_more (λ u. number_beside u rows ns) number more rows ns (at_own_place rows ns rising (one_each_of rows ns (size_beside number rows ns are))) (given_at number rows ns are)

pub walk_of_boxes : (i : ℕ) (boxes : List OpenBox) (b : OpenBox) (rows : List MapRecord) (ns ms : List ℕ) → AllPairs RecordsRise rows → i < length boxes → b ≡ get_or boxes i b
    → StandBeside (λ u. in_boxes u (take i boxes)) rows ns → StandBeside (λ u. number_beside u rows ns + in_rows u b.index.meaning.rows) rows ms → StandBeside (λ u. in_boxes u (take (i + 1) boxes)) rows ms
walk_of_boxes i boxes b rows ns ms rising within is are added =
    more_beside (λ u. in_boxes u (take i boxes)) (λ u. in_rows u b.index.meaning.rows) rows ns ms rising are added
    ∙ same_beside (λ u. in_boxes u (take i boxes) + in_rows u b.index.meaning.rows) (λ u. in_boxes u (take (i + 1) boxes)) rows (λ u. sym (boxes_more u i boxes b within is))

pub boxes_have_room : (i uid : ℕ) (boxes : List OpenBox) (rows : List MapRecord) (ns : List ℕ) → i < 1024 → ((u : ℕ) → in_boxes u (take i boxes) ≤ i * 1000000) → StandBeside (λ u. in_boxes u (take i boxes)) rows ns → number_beside uid rows ns ≤ 1024000000
boxes_have_room i uid boxes rows ns few within are =
    subst (λ (xs : List ℕ). number_beside uid rows xs ≤ 1024000000) (sym are) (beside_most (λ u. in_boxes u (take i boxes)) 1024000000 uid rows (λ u. let a = within u in omega (arith, a, few)))

-- ---- of a store

-- the rows of the mailboxes are those that their logs mean
pub in_indexes : (uid : ℕ) (boxes : List OpenBox) → in_boxes uid boxes ≡ sum_by (λ m. count_by (λ row. row.map_uid == uid) m.rows) (indexes_of boxes)
in_indexes uid [] = refl
in_indexes uid (b ∷ bs) =
    sum_by-cons (λ (x : OpenBox). in_rows uid x.index.meaning.rows) b bs
    ∙ ap (λ (n : ℕ). in_rows uid b.index.meaning.rows + n) (in_indexes uid bs)
    ∙ sym (sum_by-cons (λ (m : BoxMeaning). count_by (λ (row : LogRow). row.map_uid == uid) m.rows) b.index.meaning (indexes_of bs))

pub listed_beside_all : {D X E : Type 0} → (items : X → List ℕ) (inside seen : StoreValue D) (boxes : List OpenBox) (answer : Result X E) → inside ≡ seen → boxes ≡ inside.boxes → IfOk answer (λ sums. StandBeside (λ u. in_boxes u boxes) inside.map.records (items sums))
    → IfOk answer (λ sums. StandBeside (λ u. listed_at u seen) seen.map.records (items sums))
listed_beside_all items inside seen boxes (Ok sums) is same are =
    subst (λ (v : StoreValue _). StandBeside (λ u. listed_at u v) v.map.records (items sums)) is
    (are ∙ same_beside (λ u. in_boxes u boxes) (λ u. listed_at u inside) inside.map.records (λ u. ap (in_boxes u) same ∙ in_indexes u inside.boxes))
listed_beside_all items inside seen boxes (Err why) is same are = are
