-- What a purge has copied, with one message more.
use Rattle.purge_task.proofs.Common.{◌≡◌, ◌≢◌, ◌≤◌, ◌<◌, ◌+◌, ◌==◌, ◌&&◌, ◌||◌, ℕ, Bool, true, false, not, List, [], ◌∷◌, ◌++◌, length, refl, sym, ◌∙◌, ap, subst, arith, inl, inr, All, Option, Some, AllPairs, Contains, nat_le, nat_lt, sum_by, if◌then◌else◌, list_any, option_map_or, cases_lt, eq-eqb}
use Rattle.purge_task.proofs.Common.{common_steps, All-cons, All-contains, All-contains_itself, All-head, All-nil, All-push, All-tail, All-weaker, AllPairs-cons, sum_by-cons, MapPlace, HasRecord, size_at, MapMeaning, MapRecord, record_at, IsSoundMap, IsSoundRecord, pairs_head, pairs_nil, pairs_push}
use Rattle.purge_task.proofs.Common.{pairs_tail, is_copied_from, IsNextWanted, AreCopiedUpTo, target_header, MapRow}
use Rattle.std.proofs.Common.{◌⊎◌}
use Rattle.std.proofs.lemmas.List.Sums.{get_or-le-sum_by}
use Rattle.model_meaning.specs.Sound.{AreApart}
use Rattle.purge_task.specs.Keeping.{AreCopiesInRow}
use Rattle.purge_task.proofs.CopyLemmas.{next_contained}
use Rattle.purge_task.proofs.RunLemmas.{any_push}

-- ---- regions that don't overlap

abbrev SameOrApart : MapRecord → MapRecord → Type 0
SameOrApart a b = (a ≡ b) ⊎ AreApart a b ⊎ AreApart b a

each_apart : (rows : List MapRecord) → AllPairs AreApart rows → All (λ a. All (SameOrApart a) rows) rows
each_apart [] p = All-nil _
each_apart (x ∷ xs) p = All-cons (λ (a : MapRecord). All (SameOrApart a) (x ∷ xs)) x xs (All-cons (SameOrApart x) x xs (inl refl) (All-weaker (AreApart x) (SameOrApart x) (λ b r. inr (inl r)) xs (pairs_head AreApart x xs p)))
    (All-weaker (λ (a : MapRecord). AreApart x a × All (SameOrApart a) xs) (λ (a : MapRecord). All (SameOrApart a) (x ∷ xs)) (λ a h. All-cons (SameOrApart a) x xs (inr (inr h.0)) h.1) xs (λ i d lt. (pairs_head AreApart x xs p i d lt, each_apart xs (pairs_tail AreApart x xs p) i d lt)))

-- a record that begins within another one's region is that one
pub overlap_same : (m : MapMeaning) (a b : MapRecord) → IsSoundMap m → Contains m.records a → Contains m.records b → a.file ≡ b.file → a.offset ≤ b.offset → b.offset < a.offset + a.size → a ≡ b
overlap_same m a b sound in_a in_b here low high =
    by_case (All-contains (SameOrApart a) m.records b (All-contains (λ (r : MapRecord). All (SameOrApart r) m.records) m.records a (each_apart m.records sound.apart) in_a) in_b)
  where
    some : 1 ≤ b.size
    some = (All-contains (IsSoundRecord m.highest.map) m.records b sound.records in_b).size

    by_case : SameOrApart a b → a ≡ b
    by_case (inl same) = same
    by_case (inr (inl r)) = elim (r here) [ inl l ↦ absurd (omega (arith, l, low, high, some)) | inr l ↦ absurd (omega (arith, l, low, high, some)) ]
    by_case (inr (inr r)) = elim (r (sym here)) [ inl l ↦ absurd (omega (arith, l, low, high, some)) | inr l ↦ absurd (omega (arith, l, low, high, some)) ]

-- ---- what is still to be copied

abbrev to_copy : ℕ → ℕ → MapRecord → ℕ
to_copy source from row = if is_copied_from source row && nat_le from row.offset then row.size else 0

abbrev copied_now : ℕ → ℕ → ℕ → MapRecord → ℕ
copied_now source from next row = if is_copied_from source row && (nat_le from row.offset && not (nat_le next row.offset)) then row.size else 0

by_bools : (a b c : Bool) (n : ℕ) → (c ≡ true → b ≡ true) → (if a && b then n else 0) ≡ (if a && c then n else 0) + (if a && (b && not c) then n else 0)
by_bools false b c n h = omega arith
by_bools true true true n h = omega arith
by_bools true true false n h = omega arith
by_bools true false true n h = absurd (let k : false ≡ true = h refl in cc k)
by_bools true false false n h = omega arith

le_less : (from next n : ℕ) → from ≤ next → nat_le next n ≡ true → nat_le from n ≡ true
le_less from next n l e = grind (arith, common_steps, l, e)

split_sum : (source from next : ℕ) (rows : List MapRecord) → from ≤ next → sum_by (to_copy source from) rows ≡ sum_by (to_copy source next) rows + sum_by (copied_now source from next) rows
split_sum source from next [] l = omega arith
split_sum source from next (x ∷ xs) l =
    let a = sum_by-cons (to_copy source from) x xs in
    let b = sum_by-cons (to_copy source next) x xs in
    let c = sum_by-cons (copied_now source from next) x xs in
    let one = by_bools (is_copied_from source x) (nat_le from x.offset) (nat_le next x.offset) x.size (le_less from next x.offset l) in
    let rest = split_sum source from next xs l in
    omega (arith, a, b, c, one, rest)

pub one_less : (source from next : ℕ) (rows : List MapRecord) (r : MapRecord) → from ≤ next → Contains rows r → copied_now source from next r ≡ r.size → sum_by (to_copy source next) rows + r.size ≤ sum_by (to_copy source from) rows
one_less source from next rows r l there is =
    let s = split_sum source from next rows l in
    let k = All-contains (λ (x : MapRecord). copied_now source from next x ≤ sum_by (copied_now source from next) rows) rows r (λ i d lt. get_or-le-sum_by (copied_now source from next) rows i d lt) there in
    omega (arith, s, k, is)

-- ---- one message more

flag_le : (m n : ℕ) → m ≤ n → nat_le m n ≡ true
flag_le m n l = grind (arith, common_steps, l)

flag_lt : (m n : ℕ) → n < m → nat_le m n ≡ false
flag_lt m n l = grind (arith, common_steps, l)

or_left : (a b : Bool) → a ≡ true → (a || b) ≡ true
or_left true b e = refl
or_left false b e = absurd (let k : false ≡ true = e in cc k)

or_right : (a b : Bool) → b ≡ true → (a || b) ≡ true
or_right true b e = refl
or_right false b e = e

wanted_flag : (n : ℕ) → 1 ≤ n → nat_lt 0 n ≡ true
wanted_flag n l = grind (arith, common_steps, l)

-- ---- copies in a row

-- those behind an offset
in_row_behind : (m : MapMeaning) (offset end : ℕ) (places : List MapPlace) → AreCopiesInRow m offset places end → All (λ p. offset ≤ p.offset) places
in_row_behind m offset end [] h = All-nil _
in_row_behind m offset end (p ∷ ps) h =
    let at = h.0 in
    All-cons (λ (q : MapPlace). offset ≤ q.offset) p ps (omega (arith, at))
    (All-weaker (λ (q : MapPlace). offset + size_at m p.uid.0 ≤ q.offset) (λ (q : MapPlace). offset ≤ q.offset) (λ q l. omega (arith, l)) ps (in_row_behind m (offset + size_at m p.uid.0) end ps h.1))

-- each ends before the next one begins
pub in_row_follow : (m : MapMeaning) (Holds : MapPlace → MapRecord → Type 0) (offset end : ℕ) (places : List MapPlace) → AreCopiesInRow m offset places end → All (λ p. HasRecord m p.uid.0 (Holds p)) places → AllPairs (λ a b. HasRecord m a.uid.0 (λ row. a.offset + row.size ≤ b.offset)) places
in_row_follow m Holds offset end [] h there = pairs_nil (λ (a b : MapPlace). HasRecord m a.uid.0 (λ row. a.offset + row.size ≤ b.offset))
in_row_follow m Holds offset end (p ∷ ps) h there =
    let has = All-head (λ (q : MapPlace). HasRecord m q.uid.0 (Holds q)) p ps there in
    let size : size_at m p.uid.0 ≡ has.0.size = ap (λ (o : Option MapRecord). option_map_or (λ r. r.size) o 0) has.1 in
    let at = h.0 in
    AllPairs-cons (λ (a b : MapPlace). HasRecord m a.uid.0 (λ row. a.offset + row.size ≤ b.offset)) p ps
    (All-weaker (λ (q : MapPlace). offset + size_at m p.uid.0 ≤ q.offset) (λ (q : MapPlace). HasRecord m p.uid.0 (λ row. p.offset + row.size ≤ q.offset)) (λ q l. (has.0, has.1, omega (arith, l, size, at))) ps (in_row_behind m (offset + size_at m p.uid.0) end ps h.1))
    (in_row_follow m Holds (offset + size_at m p.uid.0) end ps h.1 (All-tail (λ (q : MapPlace). HasRecord m q.uid.0 (Holds q)) p ps there))

-- one more at the end
in_row_push : (m : MapMeaning) (offset end : ℕ) (places : List MapPlace) (place : MapPlace) → AreCopiesInRow m offset places end → place.offset ≡ end → AreCopiesInRow m offset (places ++ place ∷ []) (end + size_at m place.uid.0)
in_row_push m offset end [] place h at = (at ∙ sym h, ap (λ (n : ℕ). n + size_at m place.uid.0) h)
in_row_push m offset end (p ∷ ps) place h at = (h.0, in_row_push m (offset + size_at m p.uid.0) end ps place h.1 at)

-- ---- all that was copied

-- the message that is next was copied to the end of the target
pub copied_more : (m : MapMeaning) (source from end : ℕ) (copied : List MapPlace) (row : MapRow) (place : MapPlace) → IsSoundMap m → AreCopiedUpTo source from end copied m → (h : IsNextWanted m source from row) → place.uid.0 ≡ h.r.uid → place.offset ≡ end
    → AreCopiedUpTo source (h.r.offset + h.r.size) (end + h.r.size) (copied ++ place ∷ []) m
copied_more m source from end copied row place sound c h uid_is at = record {
  there = All-push Now copied place (All-weaker Before Now (λ p r. (r.0, r.1, (r.2.0, (let l = r.2.1 in let b = h.behind in omega (arith, l, b)), (let l = r.2.2 in omega (arith, l))))) copied c.there)
      (h.r, ap (record_at m) uid_is ∙ h.there, (h.in_file, (omega arith), (omega (arith, at))));
  every = All-weaker (Contains m.records) (λ (x : MapRecord). x.file ≡ source → x.offset < h.r.offset + h.r.size → 1 ≤ x.count → list_any (λ p. p.uid.0 == x.uid) (copied ++ place ∷ []) ≡ true) one m.records (All-contains_itself m.records);
  once = pairs_push (λ (a b : MapPlace). a.uid.0 ≢ b.uid.0) copied place c.once (All-weaker Before (λ (p : MapPlace). p.uid.0 ≢ place.uid.0) other copied c.there);
  row = subst (λ (n : ℕ). AreCopiesInRow m (length target_header) (copied ++ place ∷ []) (end + n)) size (in_row_push m (length target_header) end copied place c.row at);
  fits =
      let l = one_less source from (h.r.offset + h.r.size) m.records h.r (let b = h.behind in omega (arith, b)) here counted in
      let f = c.fits in
      omega (arith, l, f);
}
  where
    Before : MapPlace → Type 0
    Before p = HasRecord m p.uid.0 (λ r. (r.file ≡ source) × (r.offset + r.size ≤ from) × (p.offset + r.size ≤ end))

    Now : MapPlace → Type 0
    Now p = HasRecord m p.uid.0 (λ r. (r.file ≡ source) × (r.offset + r.size ≤ h.r.offset + h.r.size) × (p.offset + r.size ≤ end + h.r.size))

    size : size_at m place.uid.0 ≡ h.r.size
    size = ap (λ (o : Option MapRecord). option_map_or (λ r. r.size) o 0) (ap (record_at m) uid_is ∙ h.there)

    here : Contains m.records h.r
    here = next_contained m source from row h

    some : 1 ≤ h.r.size
    some = (All-contains (IsSoundRecord m.highest.map) m.records h.r sound.records here).size

    counted : copied_now source from (h.r.offset + h.r.size) h.r ≡ h.r.size
    counted = rw (eq-eqb h.r.file source h.in_file, wanted_flag h.r.count h.wanted, flag_le from h.r.offset h.behind, flag_lt (h.r.offset + h.r.size) h.r.offset (omega (arith, some))) refl

    apart : (r : MapRecord) → Some r ≡ Some h.r → r.offset + r.size ≤ from → ⊥
    apart r e le =
        let is : r ≡ h.r = cc e in
        let l : h.r.offset + h.r.size ≤ from = subst (λ (x : MapRecord). x.offset + x.size ≤ from) is le in
        let b = h.behind in
        omega (arith, l, some, b)

    other : (p : MapPlace) → Before p → p.uid.0 ≢ place.uid.0
    other p r same = apart r.0 (sym r.1 ∙ (ap (record_at m) (same ∙ uid_is) ∙ h.there)) r.2.1

    one : (x : MapRecord) → Contains m.records x → x.file ≡ source → x.offset < h.r.offset + h.r.size → 1 ≤ x.count → list_any (λ p. p.uid.0 == x.uid) (copied ++ place ∷ []) ≡ true
    one x there in_file below wanted = any_push (λ (p : MapPlace). p.uid.0 == x.uid) copied place ∙ elim (cases_lt x.offset from) [
      | inl before ↦ or_left (list_any (λ p. p.uid.0 == x.uid) copied) (place.uid.0 == x.uid) (All-contains (λ (r : MapRecord). r.file ≡ source → r.offset < from → 1 ≤ r.count → list_any (λ p. p.uid.0 == r.uid) copied ≡ true) m.records x c.every there in_file before wanted)
      | inr behind ↦ or_right (list_any (λ p. p.uid.0 == x.uid) copied) (place.uid.0 == x.uid) (eq-eqb place.uid.0 x.uid (uid_is ∙ ap (λ (r : MapRecord). r.uid)
          (overlap_same m h.r x sound here there (h.in_file ∙ sym in_file) (All-contains (λ (r : MapRecord). r.file ≡ source → from ≤ r.offset → 1 ≤ r.count → h.r.offset ≤ r.offset) m.records x h.first there in_file behind wanted) below)))
    ]
