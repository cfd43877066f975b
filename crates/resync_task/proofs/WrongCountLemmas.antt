-- The wrong counts of records in order of map uid, and what they are set to.
use Rattle.resync_task.proofs.Common.{◌≡◌, ◌<◌, ◌+◌, ◌==◌, ◌⊎◌, ℕ, Bool, true, false, cond, List, [], ◌∷◌, length, Option, Some, None, refl, sym, ◌∙◌, ap, subst, arith, inl, inr, All, AllPairs, Contains, sum_by, if◌then◌else◌, ◌≢◌, eqb-true, eq-eqb, All-nil, All-cons, All-head, All-tail}
use Rattle.resync_task.proofs.Common.{All-contains, All-contains_itself, All-map, All-weaker, sum_by-cons, MapCount, MapRecord, MapMeaning, count_given, record_at, MapFits, HasRecord, records_by_counted, corrected_map, many_corrected, wrong_beside}
use Rattle.std.specs.Prelude.{find, map}
use Rattle.std.specs.Option.{option_map_or}
use Rattle.std.specs.List.Sorted.{IsStrictlyIncreasing}
use Rattle.std.proofs.lemmas.Bool.{ne_eqb}
use Rattle.std.proofs.lemmas.List.Kept.{AllPairs-cons}
use Rattle.mdbox_base.specs.declared.entries.MapEntry.TheVariants as entry
use Rattle.model_octets.proofs.PairLemmas.{pairs_head, pairs_tail, pairs_nil}
use Rattle.model_octets.proofs.SearchLemmas.{among, found_is, both_same}
use Rattle.model_meaning.specs.MapFits.{IsKnown}
use Rattle.list_machine.specs.Run.{corrected_in, one_corrected}

abbrev IsBefore : MapRecord → MapRecord → Type 0
IsBefore a b = a.uid < b.uid

abbrev pub as_right : (ℕ → ℕ) → MapRecord → MapCount
as_right right row = record { uid = record { 0 = row.uid }; count = right row.uid }

abbrev is_uid : ℕ → MapCount → Bool
is_uid uid c = c.uid.0 == uid

apart : (a b : ℕ) → a < b → (b == a) ≡ false
apart a b l = ne_eqb b a (λ e. omega (arith, l, e))

apart_back : (a b : ℕ) → a < b → (a == b) ≡ false
apart_back a b l = ne_eqb a b (λ e. omega (arith, l, e))

-- none of later records' counts is of an earlier one
none_later : (right : ℕ → ℕ) (x : MapRecord) (rows : List MapRecord) → All (IsBefore x) rows → find (is_uid x.uid) (wrong_beside right rows) ≡ None
none_later right x [] h = refl
none_later right x (row ∷ rows) h = by_test (row.count == right row.uid) (none_later right x rows (All-tail (IsBefore x) row rows h))
  where
    by_test : (b : Bool) → find (is_uid x.uid) (wrong_beside right rows) ≡ None → find (is_uid x.uid) (if b then wrong_beside right rows else as_right right row ∷ wrong_beside right rows) ≡ None
    by_test true rest = rest
    by_test false rest = ap (λ (b : Bool). cond b (Some (as_right right row)) (find (is_uid x.uid) (wrong_beside right rows))) (apart x.uid row.uid (All-head (IsBefore x) row rows h)) ∙ rest

-- Each record is given its right count, or has it.
pub given_right : (right : ℕ → ℕ) (rows : List MapRecord) (row : MapRecord) → AllPairs IsBefore rows → Contains rows row → count_given row.uid (wrong_beside right rows) row.count ≡ right row.uid
given_right right [] row rising c = absurd (let k = c.1 in omega (arith, k))
given_right right (x ∷ xs) row rising c = by_place (λ d. given_right right xs row (pairs_tail IsBefore x xs rising) d) (among x xs row c)
  where
    before : All (IsBefore x) xs
    before = pairs_head IsBefore x xs rising

    by_test_first : (b : Bool) → (x.count == right x.uid) ≡ b → count_given x.uid (if b then wrong_beside right xs else as_right right x ∷ wrong_beside right xs) x.count ≡ right x.uid
    by_test_first true t = ap (λ (o : Option MapCount). option_map_or (λ (c : MapCount). c.count) o x.count) (none_later right x xs before) ∙ eqb-true x.count (right x.uid) t
    by_test_first false t = ap (λ (b : Bool). option_map_or (λ (c : MapCount). c.count) (cond b (Some (as_right right x)) (find (is_uid x.uid) (wrong_beside right xs))) x.count) (eq-eqb x.uid x.uid refl)

    by_test_later : (b : Bool) → x.uid < row.uid → count_given row.uid (wrong_beside right xs) row.count ≡ right row.uid → count_given row.uid (if b then wrong_beside right xs else as_right right x ∷ wrong_beside right xs) row.count ≡ right row.uid
    by_test_later true l rest = rest
    by_test_later false l rest = ap (λ (b : Bool). option_map_or (λ (c : MapCount). c.count) (cond b (Some (as_right right x)) (find (is_uid row.uid) (wrong_beside right xs))) row.count) (apart_back x.uid row.uid l) ∙ rest

    by_place : (Contains xs row → count_given row.uid (wrong_beside right xs) row.count ≡ right row.uid) → (x ≡ row) ⊎ Contains xs row → count_given row.uid (wrong_beside right (x ∷ xs)) row.count ≡ right row.uid
    by_place rest (inl e) = subst (λ (r : MapRecord). count_given r.uid (wrong_beside right (x ∷ xs)) r.count ≡ right r.uid) e (by_test_first (x.count == right x.uid) refl)
    by_place rest (inr d) = by_test_later (x.count == right x.uid) (All-contains (IsBefore x) xs row before d) (rest d)

-- each is of a record whose count differs
abbrev pub IsWrong : (ℕ → ℕ) → List MapRecord → MapCount → Type 0
IsWrong right rows given = (row : MapRecord) × Contains rows row × (given ≡ as_right right row) × (row.count ≢ right row.uid)

first_in : (x : MapRecord) (xs : List MapRecord) → Contains (x ∷ xs) x
first_in x xs = All-head (Contains (x ∷ xs)) x xs (All-contains_itself (x ∷ xs))

later_in : (x : MapRecord) (xs : List MapRecord) (row : MapRecord) → Contains xs row → Contains (x ∷ xs) row
later_in x xs row c = All-contains (Contains (x ∷ xs)) xs row (All-tail (Contains (x ∷ xs)) x xs (All-contains_itself (x ∷ xs))) c

differ : (a b : ℕ) → (a == b) ≡ false → a ≢ b
differ a b t e = let k : false ≡ true = sym t ∙ eq-eqb a b e in cc k

pub all_wrong : (right : ℕ → ℕ) (rows : List MapRecord) → All (IsWrong right rows) (wrong_beside right rows)
all_wrong right [] = All-nil (IsWrong right [])
all_wrong right (x ∷ xs) = by_test (x.count == right x.uid) refl (All-weaker (IsWrong right xs) (IsWrong right (x ∷ xs)) (λ given w. (w.0, later_in x xs w.0 w.1, w.2, w.3)) (wrong_beside right xs) (all_wrong right xs))
  where
    by_test : (b : Bool) → (x.count == right x.uid) ≡ b → All (IsWrong right (x ∷ xs)) (wrong_beside right xs) → All (IsWrong right (x ∷ xs)) (if b then wrong_beside right xs else as_right right x ∷ wrong_beside right xs)
    by_test true t rest = rest
    by_test false t rest = All-cons (IsWrong right (x ∷ xs)) (as_right right x) (wrong_beside right xs) (x, first_in x xs, refl, differ x.count (right x.uid) t) rest

-- ---- in a map

found_at : (m : MapMeaning) (row : MapRecord) → AllPairs IsBefore m.records → Contains m.records row → record_at m row.uid ≡ Some row
found_at m row rising c = found_is (λ (r : MapRecord). r.uid == row.uid) m.records row c (eq-eqb row.uid row.uid refl) (λ i j d lt le p q. not_both (rising i j d lt le) (eqb-true _ row.uid p) (eqb-true _ row.uid q))
  where
    not_both : {a b n : ℕ} → a < b → a ≡ n → b ≡ n → ⊥
    not_both l p q = omega (arith, l, p, q)

pub wrong_in_map : (m : MapMeaning) (right : ℕ → ℕ) → AllPairs IsBefore m.records → All (λ given. HasRecord m given.uid.0 (λ row. row.count ≢ given.count)) (wrong_beside right m.records)
wrong_in_map m right rising =
    All-weaker (IsWrong right m.records) (λ (given : MapCount). HasRecord m given.uid.0 (λ row. row.count ≢ given.count))
    (λ given w. subst (λ (c : MapCount). HasRecord m c.uid.0 (λ row. row.count ≢ c.count)) (sym w.2) (w.0, found_at m w.0 rising w.1, w.3)) (wrong_beside right m.records) (all_wrong right m.records)

known_in_map : (m : MapMeaning) (right : ℕ → ℕ) → AllPairs IsBefore m.records → All (λ c. IsKnown m c.uid.0) (wrong_beside right m.records)
known_in_map m right rising =
    All-weaker (λ (given : MapCount). HasRecord m given.uid.0 (λ row. row.count ≢ given.count)) (λ (c : MapCount). IsKnown m c.uid.0) (λ c h. (h.0, h.1)) (wrong_beside right m.records) (wrong_in_map m right rising)

-- a record with its right count
abbrev counted_as : (ℕ → ℕ) → List MapCount → MapRecord → MapRecord
counted_as right counts row = record row { count = count_given row.uid counts row.count }

mapped_right : (right : ℕ → ℕ) (counts : List MapCount) (rows : List MapRecord) → All (λ row. count_given row.uid counts row.count ≡ right row.uid) rows → All (λ row. row.count ≡ right row.uid) (map (counted_as right counts) rows)
mapped_right right counts rows h = All-map (λ (row : MapRecord). row.count ≡ right row.uid) (counted_as right counts) rows h

all_given : (right : ℕ → ℕ) (rows all : List MapRecord) → AllPairs IsBefore all → All (Contains all) rows → All (λ row. count_given row.uid (wrong_beside right all) row.count ≡ right row.uid) rows
all_given right rows all rising h = All-weaker (Contains all) (λ (row : MapRecord). count_given row.uid (wrong_beside right all) row.count ≡ right row.uid) (λ row c. given_right right all row rising c) rows h

pub right_in_map : (m : MapMeaning) (right : ℕ → ℕ) (row : MapRecord) → AllPairs IsBefore m.records → Contains (corrected_map (wrong_beside right m.records) m).records row → row.count ≡ right row.uid
right_in_map m right row rising c = by_counts (wrong_beside right m.records) refl c
  where
    given : All (λ row. count_given row.uid (wrong_beside right m.records) row.count ≡ right row.uid) m.records
    given = all_given right m.records m.records rising (All-contains_itself m.records)

    by_counts : (counts : List MapCount) → wrong_beside right m.records ≡ counts → Contains (corrected_map counts m).records row → row.count ≡ right row.uid
    by_counts [] e there = ap (λ (cs : List MapCount). count_given row.uid cs row.count) (sym e) ∙ All-contains (λ (r : MapRecord). count_given r.uid (wrong_beside right m.records) r.count ≡ right r.uid) m.records row given there
    by_counts (x ∷ xs) e there =
        All-contains (λ (r : MapRecord). r.count ≡ right r.uid) (map (counted_as right (x ∷ xs)) m.records) row
        (mapped_right right (x ∷ xs) m.records (subst (λ (cs : List MapCount). All (λ r. count_given r.uid cs r.count ≡ right r.uid) m.records) e given))
        (subst (λ (rows : List MapRecord). Contains rows row) (records_by_counted (x ∷ xs) m.records) there)

-- ---- the entry fits

-- uids of wrong counts rise
uids_rise : (right : ℕ → ℕ) (rows : List MapRecord) → AllPairs IsBefore rows → AllPairs (λ a b. a < b) (map (λ (c : MapCount). c.uid.0) (wrong_beside right rows))
uids_rise right [] rising = pairs_nil (λ (a b : ℕ). a < b)
uids_rise right (x ∷ xs) rising = by_test (x.count == right x.uid) (uids_rise right xs (pairs_tail IsBefore x xs rising))
  where
    later : All (λ c. x.uid < c.uid.0) (wrong_beside right xs)
    later = All-weaker (IsWrong right xs) (λ (c : MapCount). x.uid < c.uid.0) (λ c w. subst (λ (given : MapCount). x.uid < given.uid.0) (sym w.2) (All-contains (IsBefore x) xs w.0 (pairs_head IsBefore x xs rising) w.1)) (wrong_beside right xs) (all_wrong right xs)

    by_test : (b : Bool) → AllPairs (λ a b. a < b) (map (λ (c : MapCount). c.uid.0) (wrong_beside right xs)) → AllPairs (λ a b. a < b) (map (λ (c : MapCount). c.uid.0) (if b then wrong_beside right xs else as_right right x ∷ wrong_beside right xs))
    by_test true rest = rest
    by_test false rest = AllPairs-cons (λ (a b : ℕ). a < b) x.uid (map (λ (c : MapCount). c.uid.0) (wrong_beside right xs)) (All-map (λ (n : ℕ). x.uid < n) (λ (c : MapCount). c.uid.0) (wrong_beside right xs) later) rest

-- numbers each of which is below all later ones rise strictly
rise_strictly : (ns : List ℕ) → AllPairs (λ a b. a < b) ns → IsStrictlyIncreasing ns
rise_strictly ns h k l = h k (k + 1) 0 (omega arith) l

pub fits_map : (m : MapMeaning) (right : ℕ → ℕ) → AllPairs IsBefore m.records → MapFits m (entry.T (wrong_beside right m.records))
fits_map m right rising = (rise_strictly (map (λ (c : MapCount). c.uid.0) (wrong_beside right m.records)) (uids_rise right m.records rising), known_in_map m right rising)

-- ---- how many

abbrev one_wrong : (ℕ → ℕ) → MapRecord → ℕ
one_wrong right row = if right row.uid == row.count then 0 else 1

turned : (a b : ℕ) → (a == b) ≡ (b == a)
turned a b = both_same (a == b) (b == a) (λ e. eq-eqb b a (sym (eqb-true a b e))) (λ e. eq-eqb a b (sym (eqb-true b a e)))

wrong_length : (right : ℕ → ℕ) (rows : List MapRecord) → length (wrong_beside right rows) ≡ sum_by (one_wrong right) rows
wrong_length right [] = refl
wrong_length right (row ∷ rows) = by_test (row.count == right row.uid) (turned row.count (right row.uid)) (wrong_length right rows) (sum_by-cons (one_wrong right) row rows)
  where
    by_test : (b : Bool) → b ≡ (right row.uid == row.count) → length (wrong_beside right rows) ≡ sum_by (one_wrong right) rows → sum_by (one_wrong right) (row ∷ rows) ≡ one_wrong right row + sum_by (one_wrong right) rows
        → length (if b then wrong_beside right rows else as_right right row ∷ wrong_beside right rows) ≡ sum_by (one_wrong right) (row ∷ rows)
    by_test true t rest all = let z : one_wrong right row ≡ 0 = ap (λ (c : Bool). if c then 0 else 1) (sym t) in omega (arith, rest, all, z)
    by_test false t rest all = let z : one_wrong right row ≡ 1 = ap (λ (c : Bool). if c then 0 else 1) (sym t) in omega (arith, rest, all, z)

sums_same : (f g : MapRecord → ℕ) (rows : List MapRecord) → All (λ row. f row ≡ g row) rows → sum_by f rows ≡ sum_by g rows
sums_same f g [] h = refl
sums_same f g (row ∷ rows) h =
    let a = sum_by-cons f row rows in
    let b = sum_by-cons g row rows in
    let here = All-head (λ (r : MapRecord). f r ≡ g r) row rows h in
    let rest = sums_same f g rows (All-tail (λ (r : MapRecord). f r ≡ g r) row rows h) in
    omega (arith, a, b, here, rest)

pub many_in_map : (m : MapMeaning) (right : ℕ → ℕ) → AllPairs IsBefore m.records → many_corrected (wrong_beside right m.records) m ≡ length (wrong_beside right m.records)
many_in_map m right rising = by_counts (wrong_beside right m.records) refl
  where
    given : All (λ row. count_given row.uid (wrong_beside right m.records) row.count ≡ right row.uid) m.records
    given = all_given right m.records m.records rising (All-contains_itself m.records)

    by_counts : (counts : List MapCount) → wrong_beside right m.records ≡ counts → many_corrected counts m ≡ length counts
    by_counts [] e = refl
    by_counts (x ∷ xs) e =
        let one = sum_by-cons (corrected_in m) (entry.T (x ∷ xs)) [] in
        let each : sum_by (one_corrected (entry.T (x ∷ xs))) m.records ≡ sum_by (one_wrong right) m.records =
        sums_same (one_corrected (entry.T (x ∷ xs))) (one_wrong right) m.records
        (All-weaker (λ (row : MapRecord). count_given row.uid (x ∷ xs) row.count ≡ right row.uid) (λ (row : MapRecord). one_corrected (entry.T (x ∷ xs)) row ≡ one_wrong right row)
        (λ row h. ap (λ (n : ℕ). if n == row.count then 0 else 1) h) m.records (subst (λ (cs : List MapCount). All (λ row. count_given row.uid cs row.count ≡ right row.uid) m.records) e given)) in
        let many = wrong_length right m.records in
        let same : length (wrong_beside right m.records) ≡ length (x ∷ xs) = ap (λ (cs : List MapCount). length cs) e in
        omega (arith, one, each, many, same)
