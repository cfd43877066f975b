-- The amounts of a mailbox: how often it lists each record, counted over the map uids in rising order.
use Rattle.store_core.proofs.Common.{◌≡◌, ◌≢◌, ◌<◌, ◌≤◌, ◌+◌, ◌-◌, ◌==◌, ℕ, Bool, true, false, cond, if◌then◌else◌, suc, zero, List, [], ◌∷◌, ◌++◌, length, map, find, take, slice_index_or, slice_set, in_rows, count_by, Option, Some, None, All, AllPairs, option_map_or, refl, sym, ◌∙◌, ap, subst, arith}
use Rattle.store_core.proofs.Common.{BoxRow, LogRow, row_of, All-nil, All-cons, All-head, All-tail, sum_by-cons, cond-true, cond-false, cases_eq, eq-eqb, inl, inr, ne_eqb, equal_is, length-map, pairs_head, pairs_tail}
use Rattle.std.specs.Borrow.{Bor}
use Rattle.std.specs.List.Sorted.{IsNonDecreasing, IsPermutation, IsStrictlyIncreasing}
use Rattle.std.proofs.lemmas.List.Sorted.{length_permutation, sum_by-IsPermutation}
use Rattle.std.proofs.lemmas.List.{get_or-map, take_all}
use Rattle.std.proofs.lemmas.Grind.{get_or_default_zero}
use Rattle.std.proofs.lemmas.List.Kept.{AllPairs-cons, AllPairs-from_increasing}
use Rattle.std.proofs.lemmas.List.Sums.{sum_by_more, sum_by_more_le}
use Rattle.mdbox_base.specs.declared.entries.MapCount.{MapCount}
use Rattle.model_meaning.specs.MapMeaning.{count_given}
use Rattle.model_octets.proofs.PairLemmas.{pairs_nil}
use Rattle.store_core.specs.Deleting.{AreAmountsOf, with_uid_counted}

abbrev Rise : MapCount → MapCount → Type 0
Rise a b = a.uid.0 < b.uid.0

abbrev UpTo : ℕ → MapCount → Type 0
UpTo uid c = c.uid.0 ≤ uid

abbrev fresh : ℕ → MapCount
fresh uid = record { uid = record { 0 = uid }; count = 1 }

below_unless : (a b : ℕ) → a ≤ b → (a == b) ≡ false → a < b
below_unless a b least unlike = elim (cases_eq a b) [
  | inl same ↦ absurd (let w : true ≡ false = sym (eq-eqb a b same) ∙ unlike in cc w)
  | inr apart ↦ omega (arith, least, apart)
]

-- ---- map uids that rise

pub rise_of : (amounts : List MapCount) → IsStrictlyIncreasing (map (λ c. c.uid.0) amounts) → AllPairs Rise amounts
rise_of amounts rising = λ i j d before lt.
    let long = length-map amounts (λ (c : MapCount). c.uid.0) in
    let less = AllPairs-from_increasing (map (λ (c : MapCount). c.uid.0) amounts) rising i j 0 before (omega (arith, long, lt)) in
    let first = get_or-map (λ (c : MapCount). c.uid.0) amounts i d 0 (omega (arith, before, lt)) in
    let second = get_or-map (λ (c : MapCount). c.uid.0) amounts j d 0 lt in
    omega (arith, less, first, second)

-- and the other way
increasing_of : (amounts : List MapCount) → AllPairs Rise amounts → IsStrictlyIncreasing (map (λ c. c.uid.0) amounts)
increasing_of [] rise = λ k lt. absurd (omega (arith, lt))
increasing_of (c ∷ cs) rise = λ k lt.
    let long = length-map (c ∷ cs) (λ (x : MapCount). x.uid.0) in
    let less = rise k (k + 1) c (omega arith) (omega (arith, lt, long)) in
    let first = get_or-map (λ (x : MapCount). x.uid.0) (c ∷ cs) k c 0 (omega (arith, lt, long)) in
    let second = get_or-map (λ (x : MapCount). x.uid.0) (c ∷ cs) (k + 1) c 0 (omega (arith, lt, long)) in
    omega (arith, less, first, second)

-- of a list whose map uids rise, each amount is the one that is given
pub given_there : (amounts : List MapCount) (i : ℕ) (d : MapCount) → AllPairs Rise amounts → i < length amounts → count_given (slice_index_or amounts i d).uid.0 amounts 0 ≡ (slice_index_or amounts i d).count
given_there [] i d rising lt = absurd (omega (arith, lt))
given_there (c ∷ cs) zero d rising lt = ap (λ (o : Option MapCount). option_map_or (λ (x : MapCount). x.count) o 0) (cond-true (c.uid.0 == c.uid.0) (Some c) (find (λ (x : MapCount). x.uid.0 == c.uid.0) cs) (eq-eqb c.uid.0 c.uid.0 refl))
given_there (c ∷ cs) (suc i) d rising lt =
    let it : MapCount = slice_index_or cs i d in
    let less : c.uid.0 < it.uid.0 = rising zero (suc i) d (omega arith) lt in
    ap (λ (o : Option MapCount). option_map_or (λ (x : MapCount). x.count) o 0) (cond-false (c.uid.0 == it.uid.0) (Some c) (find (λ (x : MapCount). x.uid.0 == it.uid.0) cs) (ne_eqb c.uid.0 it.uid.0 (λ (e : c.uid.0 ≡ it.uid.0). omega (arith, less, e))))
    ∙ given_there cs i d (pairs_tail Rise c cs rising) (omega (arith, lt))

-- ---- one more

-- what holds of all, of those with one more of their own count, and of a new one, holds of all
all_more : (P : MapCount → Type 0) (uid : ℕ) (cs : List MapCount) → ((c : MapCount) → P c → P (record c { count = c.count + 1 })) → P (fresh uid) → All P cs → All P (with_uid_counted uid cs)
all_more P uid [] more new all = All-cons P (fresh uid) [] new (All-nil P)
all_more P uid (c ∷ []) more new all = by_test (c.uid.0 == uid)
  where
    by_test : (t : Bool) → All P (if t then record c { count = c.count + 1 } ∷ [] else c ∷ fresh uid ∷ [])
    by_test true = All-cons P (record c { count = c.count + 1 }) [] (more c (All-head P c [] all)) (All-nil P)
    by_test false = All-cons P c (fresh uid ∷ []) (All-head P c [] all) (All-cons P (fresh uid) [] new (All-nil P))
all_more P uid (c ∷ d ∷ rest) more new all = All-cons P c (with_uid_counted uid (d ∷ rest)) (All-head P c (d ∷ rest) all) (all_more P uid (d ∷ rest) more new (All-tail P c (d ∷ rest) all))

rise_more : (uid : ℕ) (cs : List MapCount) → AllPairs Rise cs → All (UpTo uid) cs → AllPairs Rise (with_uid_counted uid cs)
rise_more uid [] rise up = AllPairs-cons Rise (fresh uid) [] (All-nil (Rise (fresh uid))) (pairs_nil Rise)
rise_more uid (c ∷ []) rise up = by_test (c.uid.0 == uid) refl
  where
    by_test : (t : Bool) → (c.uid.0 == uid) ≡ t → AllPairs Rise (if t then record c { count = c.count + 1 } ∷ [] else c ∷ fresh uid ∷ [])
    by_test true t = AllPairs-cons Rise (record c { count = c.count + 1 }) [] (All-nil (Rise (record c { count = c.count + 1 }))) (pairs_nil Rise)
    by_test false t =
        let least : c.uid.0 ≤ uid = All-head (UpTo uid) c [] up in
        let less : c.uid.0 < uid = below_unless c.uid.0 uid least t in
        AllPairs-cons Rise c (fresh uid ∷ []) (All-cons (Rise c) (fresh uid) [] less (All-nil (Rise c))) (AllPairs-cons Rise (fresh uid) [] (All-nil (Rise (fresh uid))) (pairs_nil Rise))
rise_more uid (c ∷ d ∷ rest) rise up =
    let least : d.uid.0 ≤ uid = All-head (UpTo uid) d rest (All-tail (UpTo uid) c (d ∷ rest) up) in
    let above : All (Rise c) (d ∷ rest) = pairs_head Rise c (d ∷ rest) rise in
    let less : c.uid.0 < d.uid.0 = All-head (Rise c) d rest above in
    AllPairs-cons Rise c (with_uid_counted uid (d ∷ rest)) (all_more (Rise c) uid (d ∷ rest) (λ x h. h) (omega (arith, less, least)) above)
    (rise_more uid (d ∷ rest) (pairs_tail Rise c (d ∷ rest) rise) (All-tail (UpTo uid) c (d ∷ rest) up))

long_more : (uid : ℕ) (cs : List MapCount) → length (with_uid_counted uid cs) ≤ length cs + 1
long_more uid [] = omega arith
long_more uid (c ∷ []) = by_test (c.uid.0 == uid)
  where
    by_test : (t : Bool) → length (if t then record c { count = c.count + 1 } ∷ [] else c ∷ fresh uid ∷ []) ≤ 2
    by_test true = omega arith
    by_test false = omega arith
long_more uid (c ∷ d ∷ rest) = let h = long_more uid (d ∷ rest) in omega (arith, h)

-- 1 where these are the same number
abbrev hit : ℕ → ℕ → ℕ
hit u k = cond (u == k) 1 0

-- the amount that is given
abbrev amount : ℕ → List MapCount → ℕ
amount k cs = count_given k cs 0

at_first : (t : Bool) (c : MapCount) (found : Option MapCount) → option_map_or (λ (x : MapCount). x.count) (cond t (Some c) found) 0 ≡ cond t c.count (option_map_or (λ (x : MapCount). x.count) found 0)
at_first true c found = refl
at_first false c found = refl

-- it rises of this map uid alone
given_more : (uid k : ℕ) (cs : List MapCount) → AllPairs Rise cs → All (UpTo uid) cs → amount k (with_uid_counted uid cs) ≡ amount k cs + cond (uid == k) 1 0
given_more uid k [] rise up = by_test (uid == k)
  where
    by_test : (t : Bool) → option_map_or (λ (x : MapCount). x.count) (cond t (Some (fresh uid)) None) 0 ≡ 0 + cond t 1 0
    by_test true = refl
    by_test false = refl
given_more uid k (c ∷ []) rise up = by_test (c.uid.0 == uid) refl
  where
    before : amount k (c ∷ []) ≡ cond (c.uid.0 == k) c.count 0
    before = at_first (c.uid.0 == k) c None

    same : (s : Bool) → cond s (c.count + 1) 0 ≡ cond s c.count 0 + cond s 1 0
    same true = refl
    same false = refl

    new : (s r : Bool) → (c.uid.0 == k) ≡ s → (uid == k) ≡ r → (c.uid.0 == uid) ≡ false → cond s c.count (cond r 1 0) ≡ cond s c.count 0 + cond r 1 0
    new true true a b unlike = absurd (let e : c.uid.0 ≡ uid = equal_is c.uid.0 k a ∙ sym (equal_is uid k b) in let w : true ≡ false = sym (eq-eqb c.uid.0 uid e) ∙ unlike in cc w)
    new true false a b unlike = omega arith
    new false true a b unlike = refl
    new false false a b unlike = refl

    by_test : (t : Bool) → (c.uid.0 == uid) ≡ t → amount k (if t then record c { count = c.count + 1 } ∷ [] else c ∷ fresh uid ∷ []) ≡ amount k (c ∷ []) + cond (uid == k) 1 0
    by_test true t =
        at_first (c.uid.0 == k) (record c { count = c.count + 1 }) None ∙ same (c.uid.0 == k) ∙ ap (λ (n : ℕ). cond (c.uid.0 == k) c.count 0 + cond (n == k) 1 0) (equal_is c.uid.0 uid t) ∙ ap (λ (n : ℕ). n + cond (uid == k) 1 0) (sym before)
    by_test false t =
        at_first (c.uid.0 == k) c (find (λ (x : MapCount). x.uid.0 == k) (fresh uid ∷ [])) ∙ ap (λ (n : ℕ). cond (c.uid.0 == k) c.count n) (at_first (uid == k) (fresh uid) None) ∙ new (c.uid.0 == k) (uid == k) refl refl t ∙ ap (λ (n : ℕ). n + cond (uid == k) 1 0) (sym before)
given_more uid k (c ∷ d ∷ rest) rise up =
    at_first (c.uid.0 == k) c (find (λ (x : MapCount). x.uid.0 == k) (with_uid_counted uid (d ∷ rest)))
    ∙ by_test (c.uid.0 == k) refl (given_more uid k (d ∷ rest) (pairs_tail Rise c (d ∷ rest) rise) (All-tail (UpTo uid) c (d ∷ rest) up))
    ∙ ap (λ (n : ℕ). n + cond (uid == k) 1 0) (sym (at_first (c.uid.0 == k) c (find (λ (x : MapCount). x.uid.0 == k) (d ∷ rest))))
  where
    least : d.uid.0 ≤ uid
    least = All-head (UpTo uid) d rest (All-tail (UpTo uid) c (d ∷ rest) up)

    less : c.uid.0 < d.uid.0
    less = All-head (Rise c) d rest (pairs_head Rise c (d ∷ rest) rise)

    by_test : (t : Bool) → (c.uid.0 == k) ≡ t → amount k (with_uid_counted uid (d ∷ rest)) ≡ amount k (d ∷ rest) + cond (uid == k) 1 0 → cond t c.count (amount k (with_uid_counted uid (d ∷ rest))) ≡ cond t c.count (amount k (d ∷ rest)) + cond (uid == k) 1 0
    by_test true t h = let e = equal_is c.uid.0 k t in let no = cond-false {A = ℕ} (uid == k) 1 0 (ne_eqb uid k (λ (q : uid ≡ k). omega (arith, e, q, less, least))) in omega (arith, no)
    by_test false t h = h

-- ---- a walk over the map uids

-- What is so of the amounts of the first map uids: none is of a greater one than those that follow.
pub record Counting (uids : List ℕ) (i : ℕ) (amounts : List MapCount) : Type 0 where
  pub rise : AllPairs Rise amounts
  pub some : All (λ c. 1 ≤ c.count) amounts
  pub given : (uid : ℕ) → amount uid amounts ≡ count_by (λ u. u == uid) (take i uids)
  pub within : i ≤ length uids
  pub few : length amounts ≤ i
  pub up : (j d : ℕ) → i ≤ j → j < length uids → All (UpTo (slice_index_or uids j d)) amounts

none_first : (uid : ℕ) (uids : List ℕ) → 0 ≡ count_by (λ u. u == uid) (take 0 uids)
none_first uid [] = refl
none_first uid (u ∷ us) = refl

pub counting_begins : (uids : List ℕ) → Counting uids 0 []
counting_begins uids = record { rise = pairs_nil Rise; some = All-nil (λ (c : MapCount). 1 ≤ c.count); given = λ uid. none_first uid uids; within = omega arith; few = omega arith; up = λ j d le lt. All-nil (UpTo (slice_index_or uids j d)) }

pub counting_goes_on : (uids : List ℕ) (i d uid : ℕ) (amounts : List MapCount) → IsNonDecreasing uids → i < length uids → uid ≡ slice_index_or uids i d → Counting uids i amounts → Counting uids (i + 1) (with_uid_counted uid amounts)
counting_goes_on uids i d uid amounts sorted within is c =
    let up : All (UpTo uid) amounts = subst (λ (u : ℕ). All (UpTo u) amounts) (sym is) (c.up i d (omega arith) within) in
    record {
      rise = rise_more uid amounts c.rise up;
      some = all_more (λ (x : MapCount). 1 ≤ x.count) uid amounts (λ x h. omega (arith, h)) (omega arith) c.some;
      given = λ k.
          let one = given_more uid k amounts c.rise up in
          let before = c.given k in
          let more = sum_by_more (λ (u : ℕ). hit u k) uids i d within in
          let here : hit (slice_index_or uids i d) k ≡ hit uid k = ap (λ (u : ℕ). hit u k) (sym is) in
          omega (arith, one, before, more, here);
      within = omega (arith, within);
      few = let few = c.few in let long = long_more uid amounts in omega (arith, few, long);
      up = λ j e le lt. all_more (UpTo (slice_index_or uids j e)) uid amounts (λ x h. h)
          (let least = sorted i j d (omega (arith, le)) lt in let one = get_or_default_zero uids j d lt in let other = get_or_default_zero uids j e lt in omega (arith, is, least, one, other))
          (c.up j e (omega (arith, le)) lt);
    }

-- the amount of the next one can rise
pub counting_has_room : (uids : List ℕ) (i d uid : ℕ) (amounts : List MapCount) → ((k : ℕ) → count_by (λ u. u == k) uids ≤ 65535) → i < length uids → uid ≡ slice_index_or uids i d → Counting uids i amounts → All (λ c. c.uid.0 ≡ uid → c.count < 65535) amounts
counting_has_room uids i d uid amounts most within is c = λ k e lt same.
    let it : MapCount = slice_index_or amounts k e in
    let own : amount uid amounts ≡ it.count = ap (λ (u : ℕ). amount u amounts) (sym same) ∙ given_there amounts k e c.rise lt in
    let before = c.given uid in
    let whole = sum_by_more_le (λ (u : ℕ). hit u uid) uids i d within in
    let here : hit (slice_index_or uids i d) uid ≡ 1 = cond-true {A = ℕ} (slice_index_or uids i d == uid) 1 0 (eq-eqb (slice_index_or uids i d) uid (sym is)) in
    let few = most uid in
    omega (arith, own, before, whole, here, few)

pub counting_ends : (uids : List ℕ) (i : ℕ) (amounts : List MapCount) → length uids ≤ i → Counting uids i amounts → AreAmountsOf uids amounts
counting_ends uids i amounts all c = record {
  rising = increasing_of amounts c.rise;
  some = c.some;
  given = λ uid. c.given uid ∙ ap (λ (us : List ℕ). count_by (λ (u : ℕ). u == uid) us) (take_all i uids all);
  few = let few = c.few in let within = c.within in omega (arith, few, within);
}

-- ---- the map uids of a mailbox

pub uids_listed : (yielded : List (Bor BoxRow)) (items : List BoxRow) (rows : List LogRow) → map (λ row. row.now) yielded ≡ items → map row_of items ≡ rows → map (λ (row : Bor BoxRow). row.now.map_uid.0) yielded ≡ map (λ row. row.map_uid) rows
uids_listed yielded items rows walked are = by_items yielded ∙ ap (map (λ (row : LogRow). row.map_uid)) (ap (map row_of) walked ∙ are)
  where
    by_items : (ys : List (Bor BoxRow)) → map (λ (row : Bor BoxRow). row.now.map_uid.0) ys ≡ map (λ (row : LogRow). row.map_uid) (map row_of (map (λ row. row.now) ys))
    by_items [] = refl
    by_items (y ∷ ys) = ap (λ (us : List ℕ). y.now.map_uid.0 ∷ us) (by_items ys)

pub sorted_are : (uids sorted : List ℕ) (amounts : List MapCount) → IsPermutation uids sorted → AreAmountsOf sorted amounts → AreAmountsOf uids amounts
sorted_are uids sorted amounts same a = record {
  rising = a.rising;
  some = a.some;
  given = λ uid. a.given uid ∙ sum_by-IsPermutation (λ (u : ℕ). hit u uid) uids sorted same;
  few = let few = a.few in let long = length_permutation uids sorted same in omega (arith, few, long);
}

pub uids_of : (rows : List LogRow) (uid : ℕ) → count_by (λ u. u == uid) (map (λ row. row.map_uid) rows) ≡ in_rows uid rows
uids_of [] uid = refl
uids_of (r ∷ rs) uid =
    sum_by-cons (λ (u : ℕ). hit u uid) r.map_uid (map (λ (row : LogRow). row.map_uid) rs) ∙ ap (λ (n : ℕ). hit r.map_uid uid + n) (uids_of rs uid) ∙ sym (sum_by-cons (λ (x : LogRow). hit x.map_uid uid) r rs)

pub few_sorted : (rows : List LogRow) (sorted now : List ℕ) → IsPermutation (map (λ row. row.map_uid) rows) sorted → now ≡ sorted → ((uid : ℕ) → in_rows uid rows ≤ 65535) → (uid : ℕ) → count_by (λ u. u == uid) now ≤ 65535
few_sorted rows sorted now same is few uid =
    let moved = sum_by-IsPermutation (λ (u : ℕ). hit u uid) (map (λ (row : LogRow). row.map_uid) rows) sorted same in
    let counted = uids_of rows uid in
    let most = few uid in
    let seen = ap (λ (us : List ℕ). count_by (λ (u : ℕ). u == uid) us) is in
    omega (arith, moved, counted, most, seen)

-- ---- the last amount

raised_at : (uid : ℕ) (c : MapCount) (rest : List MapCount) (last : MapCount) → last ≡ slice_index_or (c ∷ rest) (length rest) last → (last.uid.0 == uid) ≡ true → slice_set (c ∷ rest) (length rest) (record last { count = last.count + 1 }) ≡ with_uid_counted uid (c ∷ rest)
raised_at uid c [] last is same =
    let here : last ≡ c = is in
    ap (λ (x : MapCount). record x { count = x.count + 1 } ∷ []) here ∙ sym (cond-true (c.uid.0 == uid) (record c { count = c.count + 1 } ∷ []) (c ∷ fresh uid ∷ []) (ap (λ (x : MapCount). x.uid.0 == uid) (sym here) ∙ same))
raised_at uid c (d ∷ rest) last is same = ap (λ (cs : List MapCount). c ∷ cs) (raised_at uid d rest last is same)

pub raised_last : (uid n : ℕ) (items : List MapCount) (last : MapCount) → n ≡ length items → 0 < n → last ≡ slice_index_or items (n - 1) last → last.uid.0 ≡ uid → slice_set items (n - 1) (record last { count = last.count + 1 }) ≡ with_uid_counted uid items
raised_last uid n [] last long some is same = absurd (omega (arith, long, some))
raised_last uid n (c ∷ rest) last long some is same =
    let at : n - 1 ≡ length rest = omega (arith, long) in
    ap (λ (k : ℕ). slice_set (c ∷ rest) k (record last { count = last.count + 1 })) at ∙ raised_at uid c rest last (is ∙ ap (λ (k : ℕ). slice_index_or (c ∷ rest) k last) at) (eq-eqb last.uid.0 uid same)

pushed_at : (uid : ℕ) (c : MapCount) (rest : List MapCount) (last : MapCount) → last ≡ slice_index_or (c ∷ rest) (length rest) last → (last.uid.0 == uid) ≡ false → (c ∷ rest) ++ fresh uid ∷ [] ≡ with_uid_counted uid (c ∷ rest)
pushed_at uid c [] last is unlike =
    let here : last ≡ c = is in
    sym (cond-false (c.uid.0 == uid) (record c { count = c.count + 1 } ∷ []) (c ∷ fresh uid ∷ []) (ap (λ (x : MapCount). x.uid.0 == uid) (sym here) ∙ unlike))
pushed_at uid c (d ∷ rest) last is unlike = ap (λ (cs : List MapCount). c ∷ cs) (pushed_at uid d rest last is unlike)

pushed_last : (uid n : ℕ) (items : List MapCount) (last : MapCount) → n ≡ length items → 0 < n → last ≡ slice_index_or items (n - 1) last → last.uid.0 ≢ uid → items ++ fresh uid ∷ [] ≡ with_uid_counted uid items
pushed_last uid n [] last long some is unlike = absurd (omega (arith, long, some))
pushed_last uid n (c ∷ rest) last long some is unlike =
    let at : n - 1 ≡ length rest = omega (arith, long) in
    pushed_at uid c rest last (is ∙ ap (λ (k : ℕ). slice_index_or (c ∷ rest) k last) at) (ne_eqb last.uid.0 uid unlike)

-- what was read is put back
set_back : (k : ℕ) (items : List MapCount) (last : MapCount) → last ≡ slice_index_or items k last → k < length items → slice_set items k last ≡ items
set_back k [] last is lt = absurd (omega (arith, lt))
set_back zero (c ∷ rest) last is lt = let here : last ≡ c = is in ap (λ (x : MapCount). x ∷ rest) here
set_back (suc k) (c ∷ rest) last is lt = ap (λ (cs : List MapCount). c ∷ cs) (set_back k rest last is (omega (arith, lt)))

pub pushed_back : (uid n : ℕ) (items : List MapCount) (last : MapCount) → n ≡ length items → 0 < n → last ≡ slice_index_or items (n - 1) last → last.uid.0 ≢ uid → slice_set items (n - 1) last ++ fresh uid ∷ [] ≡ with_uid_counted uid items
pushed_back uid n items last long some is unlike =
    ap (λ (cs : List MapCount). cs ++ fresh uid ∷ []) (set_back (n - 1) items last is (omega (arith, long, some))) ∙ pushed_last uid n items last long some is unlike
