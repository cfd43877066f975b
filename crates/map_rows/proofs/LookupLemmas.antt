-- What a search in an order of the table finds is what the definitions name.
use Rattle.map_rows.proofs.Common.{nat_le, nat_lt, AllPairs, ◌↔◌, IsTrue, option_map, option_copied, bytes_eq, ◌≡◌, ◌≢◌, ◌+◌, ◌<◌, ◌≤◌, ◌==◌, ◌&&◌, ◌||◌, ℕ, Bool, true, false, cond, Option, Some, None, List, [], ◌∷◌, length, get_or, filter, find, All, refl, sym, ◌∙◌, ap, subst, inl, inr, arith}
use Rattle.map_rows.proofs.Common.{cases_lt, cases_eq, nat_tests, All-head, All-tail, All-weaker, IsOctets, MapUid, Bor, pairs_head, pairs_tail, found_holds, found_among, found_none, text_is, text_yes, MapRecord, OrderKey, Record, guid_key, place_number, place_key, meant_record, NumbersRise, times}
use Rattle.map_rows.proofs.Common.{AreKeysOf, last_of, IsTableRow, AreTableRows}
use Rattle.std.specs.Prelude.{is_some, not}
use Rattle.map_rows.specs.Keys.{guid_number}
use Rattle.map_rows.specs.Lookups.{is_from, nearer, least, IsLastBefore}
use Rattle.map_rows.proofs.BestLemmas.{IsKeeping, IsNoBetter, best_kept, none_kept}
use Rattle.map_rows.proofs.KeyLemmas.{guid_test}
use Rattle.map_rows.proofs.MemberLemmas.{row_found, row_missing, rise_once, found_by, both, equal_is, same_number}
use Rattle.map_rows.proofs.NearLemmas.{all_rows, no_row, key_row, only_one, first_key, last_key, none_below}

equal : (a b : ℕ) → a ≡ b → (a == b) ≡ true
equal a b h = grind (arith, nat_tests, h)

unequal_is : (a b : ℕ) → (a == b) ≡ false → a ≢ b
unequal_is a b h e = grind (arith, nat_tests, h, e)

not_true : (b : Bool) → (b ≡ true → ⊥) → b ≡ false
not_true true h = absurd (h refl)
not_true false h = refl

-- ---- map uids

none_above : (n : ℕ) (rows : List MapRecord) → All (λ r. n < r.uid) rows → times (λ r. r.uid == n) rows ≡ 0
none_above n [] a = refl
none_above n (r ∷ rows) a =
    let h : (r.uid == n) ≡ false = differs n r.uid (All-head (λ x. n < x.uid) r rows a) in
    rw h (none_above n rows (All-tail (λ x. n < x.uid) r rows a))
  where
    differs : (a b : ℕ) → a < b → (b == a) ≡ false
    differs a b h = grind (arith, nat_tests, h)

uid_step : (n : ℕ) (r : MapRecord) (rows : List MapRecord) (b : Bool) → (r.uid == n) ≡ b → All (λ x. r.uid < x.uid) rows → times (λ x. x.uid == n) rows ≤ 1 → cond b (1 + times (λ x. x.uid == n) rows) (times (λ x. x.uid == n) rows) ≤ 1
uid_step n r rows true e a rest =
    let s = equal_is r.uid n e in
    let z = none_above n rows (All-weaker (λ x. r.uid < x.uid) (λ x. n < x.uid) (λ x l. omega (arith, s, l)) rows a) in
    omega (arith, z)
uid_step n r rows false e a rest = rest

-- a map uid has one record at most
pub uid_once : (n : ℕ) (rows : List MapRecord) → AllPairs (λ a b. a.uid < b.uid) rows → times (λ r. r.uid == n) rows ≤ 1
uid_once n [] rise = omega arith
uid_once n (r ∷ rows) rise = uid_step n r rows (r.uid == n) refl (pairs_head (λ a b. a.uid < b.uid) r rows rise) (uid_once n rows (pairs_tail (λ a b. a.uid < b.uid) r rows rise))

pub uid_only : (rows : List MapRecord) (u : ℕ) (r : MapRecord) → AllPairs (λ a b. a.uid < b.uid) rows → find (λ x. x.uid == u) rows ≡ Some r → All (λ x. (x.uid == u) ≡ true → x ≡ r) rows
uid_only rows u r rise e = only_one (λ x. x.uid == u) rows r (uid_once u rows rise) e

pub uid_is : (rows : List MapRecord) (u : ℕ) (r : MapRecord) → find (λ x. x.uid == u) rows ≡ Some r → r.uid ≡ u
uid_is rows u r e = equal_is r.uid u (found_holds (λ x. x.uid == u) rows r (λ x. Unit {0}) e (λ i d lt. tt)).1

-- ---- what an order answered

pub record IsAnswer (u : MapUid) (o : Option OrderKey) : Type 0 where
  pub key : OrderKey
  pub is : o ≡ Some key
  pub uid : key.uid ≡ u

pub answered : (u : MapUid) (o : Option OrderKey) → Some u ≡ option_map (λ k. k.uid) o → IsAnswer u o
answered u None e = absurd (let w : Some u ≡ None = e in cc w)
answered u (Some k) e = record { key = k; is = refl; uid = (let w : Some u ≡ Some k.uid = e in cc w) }

pub unanswered : (o : Option OrderKey) → None ≡ option_map (λ (k : OrderKey). k.uid) o → o ≡ None
unanswered None e = refl
unanswered (Some k) e = absurd (let w : None ≡ Some k.uid = e in cc w)

find_agree : {X : Type 0} → (p q : X → Bool) (xs : List X) → All (λ x. p x ≡ q x) xs → find p xs ≡ find q xs
find_agree p q [] a = refl
find_agree p q (x ∷ xs) a = let h : p x ≡ q x = All-head (λ y. p y ≡ q y) x xs a in let t = find_agree p q xs (All-tail (λ y. p y ≡ q y) x xs a) in cc (h, t)

-- ---- by GUID

guid_tests : (rows : List MapRecord) (guid : List ℕ) → All IsTableRow rows → length guid ≡ 16 → IsOctets guid → All (λ r. (guid_number r.guid == guid_number guid) ≡ bytes_eq r.guid guid) rows
guid_tests rows guid each long octets = All-weaker IsTableRow (λ r. (guid_number r.guid == guid_number guid) ≡ bytes_eq r.guid guid) (λ r h. guid_test r.guid guid h.guid h.octets long octets) rows each

pub guid_found : (rows : List MapRecord) (keys : List OrderKey) (guid : List ℕ) (u : MapUid) → AreTableRows rows → AreKeysOf guid_key keys rows → NumbersRise keys → length guid ≡ 16 → IsOctets guid
    → Some u ≡ option_map (λ (k : OrderKey). k.uid) (find (λ k. k.number == guid_number guid) keys) → find (λ r. r.uid == u.0) rows ≡ find (λ r. bytes_eq r.guid guid) rows
guid_found rows keys guid u kept are rise long octets e =
    let a = answered u (find (λ k. k.number == guid_number guid) keys) e in
    subst (λ (v : MapUid). find (λ r. r.uid == v.0) rows ≡ find (λ r. bytes_eq r.guid guid) rows) a.uid
    (row_found guid_key keys rows (guid_number guid) a.key are rise (uid_once a.key.uid.0 rows kept.rising) a.is
    ∙ find_agree (λ r. guid_number r.guid == guid_number guid) (λ r. bytes_eq r.guid guid) rows (guid_tests rows guid kept.each long octets))

pub guid_missing : (rows : List MapRecord) (keys : List OrderKey) (guid : List ℕ) → AreTableRows rows → AreKeysOf guid_key keys rows → length guid ≡ 16 → IsOctets guid
    → None ≡ option_map (λ (k : OrderKey). k.uid) (find (λ k. k.number == guid_number guid) keys) → find (λ r. bytes_eq r.guid guid) rows ≡ None
guid_missing rows keys guid kept are long octets e =
    sym (find_agree (λ r. guid_number r.guid == guid_number guid) (λ r. bytes_eq r.guid guid) rows (guid_tests rows guid kept.each long octets))
    ∙ row_missing guid_key keys rows (guid_number guid) are (unanswered (find (λ k. k.number == guid_number guid) keys) e)

-- whether a GUID is new
pub guid_is_new : (rows : List MapRecord) (guid : List ℕ) (o : Option (Bor Record)) (b : Bool) → option_map meant_record (option_copied o) ≡ find (λ r. bytes_eq r.guid guid) rows → is_some o ≡ not b → (IsTrue b ↔ All (λ r. r.guid ≢ guid) rows)
guid_is_new rows guid None true e h =
    ((λ _. All-weaker (λ r. bytes_eq r.guid guid ≡ false) (λ r. r.guid ≢ guid) (λ r none same. (let w : false ≡ true = sym none ∙ text_yes r.guid guid same in cc w)) rows (found_none (λ r. bytes_eq r.guid guid) rows (sym e))), λ _. refl)
guid_is_new rows guid None false e h = absurd (let w : false ≡ true = h in cc w)
guid_is_new rows guid (Some x) true e h = absurd (let w : true ≡ false = h in cc w)
guid_is_new rows guid (Some x) false e h =
    let hit = found_holds (λ r. bytes_eq r.guid guid) rows (meant_record x.now) (λ r. r.guid ≢ guid) (sym e) in
    ((λ t. absurd (let w : false ≡ true = t in cc w)), λ a. absurd ((hit a).0 (text_is (meant_record x.now).guid guid (hit a).1)))

-- ---- places

abbrev number_of : MapRecord → ℕ
number_of r = place_number r.file r.offset

pub place_once : (rows : List MapRecord) (keys : List OrderKey) (n : ℕ) → AreKeysOf place_key keys rows → NumbersRise keys → times (λ r. number_of r == n) rows ≤ 1
place_once rows keys n are rise = subst (λ (c : ℕ). c ≤ 1) (are (λ (k : OrderKey). k.number == n)) (rise_once n keys rise)

-- the record of a place that was found is the only one there
place_only_one : (rows : List MapRecord) (keys : List OrderKey) (u : ℕ) (r : MapRecord) → AreKeysOf place_key keys rows → NumbersRise keys → find (λ x. x.uid == u) rows ≡ Some r → All (λ x. (number_of x == number_of r) ≡ true → x ≡ r) rows
place_only_one rows keys u r are rise e =
    only_one (λ x. number_of x == number_of r) rows r (place_once rows keys (number_of r) are rise)
    (found_by (λ x. x.uid == u) (λ x. number_of x == number_of r) rows r (place_once rows keys (number_of r) are rise) e (same_number (number_of r)))

-- the record that a key stands for
pub record IsRowOf (rows : List MapRecord) (k : OrderKey) (u : MapUid) (r : MapRecord) : Type 0 where
  pub found : find (λ x. x.uid == u.0) rows ≡ Some r
  pub number : number_of r ≡ k.number

row_of_key : (rows : List MapRecord) (keys : List OrderKey) (p : OrderKey → Bool) (k : OrderKey) (u : MapUid) → AllPairs (λ a b. a.uid < b.uid) rows → AreKeysOf place_key keys rows → find p keys ≡ Some k → k.uid ≡ u → (r : MapRecord) × IsRowOf rows k u r
row_of_key rows keys p k u rising are e same =
    let row = key_row place_key keys rows p k are (uid_once k.uid.0 rows rising) e in
    (row.0, record { found = subst (λ (v : MapUid). find (λ x. x.uid == v.0) rows ≡ Some row.0) same row.1; number = row.2 })

same_row : (rows : List MapRecord) (u : ℕ) (r s : MapRecord) → find (λ x. x.uid == u) rows ≡ Some r → find (λ x. x.uid == u) rows ≡ Some s → r ≡ s
same_row rows u r s e f = let w : Some r ≡ Some s = sym e ∙ f in cc w

the_number : (rows : List MapRecord) (keys : List OrderKey) (p : OrderKey → Bool) (k : OrderKey) (u : MapUid) (r : MapRecord) → AllPairs (λ a b. a.uid < b.uid) rows → AreKeysOf place_key keys rows → find p keys ≡ Some k → k.uid ≡ u → find (λ x. x.uid == u.0) rows ≡ Some r → number_of r ≡ k.number
the_number rows keys p k u r rising are e same found =
    let row = row_of_key rows keys p k u rising are e same in
    ap number_of (same_row rows u.0 r row.0 found row.1.found) ∙ row.1.number

-- a key's record is there
pub row_there : (rows : List MapRecord) (keys : List OrderKey) (p : OrderKey → Bool) (u : MapUid) → AllPairs (λ a b. a.uid < b.uid) rows → AreKeysOf place_key keys rows → Some u ≡ option_map (λ (k : OrderKey). k.uid) (find p keys) → find (λ x. x.uid == u.0) rows ≡ None → ⊥
row_there rows keys p u rising are e none =
    let a = answered u (find p keys) e in
    let row = row_of_key rows keys p a.key u rising are a.is a.uid in
    (let w : None ≡ Some row.0 = sym none ∙ row.1.found in cc w)

-- ---- the first of a file from an offset on

nearer_keeps : IsKeeping (λ (a x : MapRecord). nat_le a.offset x.offset) nearer
nearer_keeps = record { first = λ x. refl; more = λ a x. refl }

is_from_yes : (file from f o : ℕ) → f ≡ file → from ≤ o → ((f == file) && nat_le from o) ≡ true
is_from_yes file from f o e l = grind (arith, nat_tests, e, l)

is_from_is : (file from f o : ℕ) → ((f == file) && nat_le from o) ≡ true → (f ≡ file) × (from ≤ o)
is_from_is file from f o h =
    let p = both (f == file) (nat_le from o) h in
    (equal_is f file p.0, le_is from o p.1)
  where
    le_is : (a b : ℕ) → nat_le a b ≡ true → a ≤ b
    le_is a b h = grind (arith, nat_tests, h)

-- what the order's keys from a number on say of a record
from_first : (a b n : ℕ) → (nat_lt a n || nat_le b a) ≡ true → n ≤ a → b ≤ a
from_first a b n h l = grind (arith, nat_tests, h, l)

le_yes : (a b : ℕ) → a ≤ b → nat_le a b ≡ true
le_yes a b h = grind (arith, nat_tests, h)

le_no : (a b : ℕ) → b < a → nat_le a b ≡ false
le_no a b h = grind (arith, nat_tests, h)

le_is : (a b : ℕ) → nat_le a b ≡ true → a ≤ b
le_is a b h = grind (arith, nat_tests, h)

not_le_is : (a b : ℕ) → nat_le a b ≡ false → b < a
not_le_is a b h = grind (arith, nat_tests, h)

no_nearer : (file from m : ℕ) (r x : MapRecord) → r.file ≡ file → number_of r ≡ m → (nat_lt (number_of x) (place_number file from) || nat_le m (number_of x)) ≡ true → ((number_of x == number_of r) ≡ true → x ≡ r)
    → IsNoBetter (λ (a y : MapRecord). nat_le a.offset y.offset) (is_from file from) r x
no_nearer file from m r x here number first only passes =
    let p = is_from_is file from x.file x.offset passes in
    let pf : x.file ≡ file = p.0 in
    let po : from ≤ x.offset = p.1 in
    let l : m ≤ number_of x = from_first (number_of x) m (place_number file from) first (omega (arith, pf, po)) in
    elim (cases_eq x.offset r.offset) [
      | inl same ↦ inl (only (equal (number_of x) (number_of r) (omega (arith, same, pf, here))))
      | inr apart ↦ let more : r.offset < x.offset = omega (arith, apart, l, number, pf, here) in inr (le_yes r.offset x.offset (omega (arith, more)), le_no x.offset r.offset more)
    ]

-- the first of the order is of this file
pub first_here : (rows : List MapRecord) (keys : List OrderKey) (file from : ℕ) (u : MapUid) (r : MapRecord) → AreTableRows rows → AreKeysOf place_key keys rows → NumbersRise keys
    → Some u ≡ option_map (λ (k : OrderKey). k.uid) (find (λ k. nat_le (place_number file from) k.number) keys) → find (λ x. x.uid == u.0) rows ≡ Some r → r.file ≡ file → least (filter (is_from file from) rows) ≡ Some r
first_here rows keys file from u r kept are rise e found here =
    let n = place_number file from in
    let a = answered u (find (λ k. nat_le n k.number) keys) e in
    let number = the_number rows keys (λ k. nat_le n k.number) a.key u r kept.rising are a.is a.uid found in
    let low : n ≤ a.key.number = le_is n a.key.number (found_holds (λ k. nat_le n k.number) keys a.key (λ k. Unit {0}) a.is (λ i d lt. tt)).1 in
    let first = all_rows place_key keys rows (λ k. nat_lt k.number n || nat_le a.key.number k.number) are (first_key n keys a.key rise a.is) in
    let only = place_only_one rows keys u.0 r are rise found in
    best_kept (λ (b x : MapRecord). nat_le b.offset x.offset) nearer (is_from file from) (λ x. x.uid == u.0) r rows None nearer_keeps tt found
    (is_from_yes file from r.file r.offset here (omega (arith, low, number, here)))
    (λ i d lt. no_nearer file from a.key.number r _ here number (first i d lt) (only i d lt))

passes_not : (file from : ℕ) (x : MapRecord) → (x.file ≡ file → from ≤ x.offset → ⊥) → is_from file from x ≡ false
passes_not file from x h = not_true (is_from file from x) (λ e. let p = is_from_is file from x.file x.offset e in h p.0 p.1)

-- the first of the order is of another file
pub first_elsewhere : (rows : List MapRecord) (keys : List OrderKey) (file from : ℕ) (u : MapUid) (r : MapRecord) → AreTableRows rows → AreKeysOf place_key keys rows → NumbersRise keys
    → Some u ≡ option_map (λ (k : OrderKey). k.uid) (find (λ k. nat_le (place_number file from) k.number) keys) → find (λ x. x.uid == u.0) rows ≡ Some r → r.file ≢ file → least (filter (is_from file from) rows) ≡ None
first_elsewhere rows keys file from u r kept are rise e found other =
    let n = place_number file from in
    let a = answered u (find (λ k. nat_le n k.number) keys) e in
    let number = the_number rows keys (λ k. nat_le n k.number) a.key u r kept.rising are a.is a.uid found in
    let low : n ≤ a.key.number = le_is n a.key.number (found_holds (λ k. nat_le n k.number) keys a.key (λ k. Unit {0}) a.is (λ i d lt. tt)).1 in
    let first = all_rows place_key keys rows (λ k. nat_lt k.number n || nat_le a.key.number k.number) are (first_key n keys a.key rise a.is) in
    let short : r.offset + r.size ≤ 4294967295 = (found_among (λ x. x.uid == u.0) rows r IsTableRow found kept.each).ends in
    none_kept nearer (is_from file from) rows
    (λ i d lt. beyond a.key.number r _ number low (omega (arith, short)) other (first i d lt) (kept.each i d lt))
  where
    beyond : (m : ℕ) (r x : MapRecord) → number_of r ≡ m → place_number file from ≤ m → r.offset < 4294967296 → r.file ≢ file → (nat_lt (number_of x) (place_number file from) || nat_le m (number_of x)) ≡ true → IsTableRow x → is_from file from x ≡ false
    beyond m r x number low short other first row =
        passes_not file from x (λ f o.
        let l : m ≤ number_of x = from_first (number_of x) m (place_number file from) first (omega (arith, f, o)) in
        let ends = row.ends in
        omega (arith, number, low, short, other, l, f, ends))

pub first_none : (rows : List MapRecord) (keys : List OrderKey) (file from : ℕ) → AreKeysOf place_key keys rows → None ≡ option_map (λ (k : OrderKey). k.uid) (find (λ k. nat_le (place_number file from) k.number) keys) → least (filter (is_from file from) rows) ≡ None
first_none rows keys file from are e =
    let n = place_number file from in
    let none = no_row place_key keys rows (λ k. nat_le n k.number) are (unanswered (find (λ k. nat_le n k.number) keys) e) in
    none_kept nearer (is_from file from) rows (λ i d lt. below (get_or rows i d) (none i d lt))
  where
    below : (x : MapRecord) → nat_le (place_number file from) (number_of x) ≡ false → is_from file from x ≡ false
    below x h = passes_not file from x (λ f o. let l = not_le_is (place_number file from) (number_of x) h in omega (arith, l, f, o))

-- ---- the last of a file before an offset

from_last : (a b n : ℕ) → (nat_le n a || nat_le a b) ≡ true → a < n → a ≤ b
from_last a b n h l = grind (arith, nat_tests, h, l)

pub last_here : (rows : List MapRecord) (keys : List OrderKey) (file offset : ℕ) (u : MapUid) (r : MapRecord) → AreTableRows rows → AreKeysOf place_key keys rows → NumbersRise keys
    → Some u ≡ option_map (λ (k : OrderKey). k.uid) (last_of (filter (λ k. nat_lt k.number (place_number file offset)) keys)) → find (λ x. x.uid == u.0) rows ≡ Some r → r.file ≡ file → IsLastBefore rows file offset r
last_here rows keys file offset u r kept are rise e found here =
    let n = place_number file offset in
    let a = answered u (last_of (filter (λ k. nat_lt k.number n) keys)) e in
    let last = last_key n keys a.key rise a.is in
    let number = the_number rows keys (λ k. k.number == a.key.number) a.key u r kept.rising are last.0 a.uid found in
    let below = last.1 in
    let all = all_rows place_key keys rows (λ k. nat_le n k.number || nat_le k.number a.key.number) are last.2 in
    let only = place_only_one rows keys u.0 r are rise found in
    let uid = uid_is rows u.0 r found in
    record {
      there = subst (λ (v : ℕ). find (λ x. x.uid == v) rows ≡ Some r) (sym uid) found;
      in_file = here;
      below = omega (arith, below, number, here);
      others = λ i d lt. lesser a.key.number r _ here number (all i d lt) (only i d lt);
    }
  where
    lesser : (m : ℕ) (r x : MapRecord) → r.file ≡ file → number_of r ≡ m → (nat_le (place_number file offset) (number_of x) || nat_le (number_of x) m) ≡ true → ((number_of x == number_of r) ≡ true → x ≡ r) → x.file ≡ file → x.offset < offset → x.uid ≢ r.uid → x.offset < r.offset
    lesser m r x here number all only f o apart =
        let l : number_of x ≤ m = from_last (number_of x) m (place_number file offset) all (omega (arith, f, o)) in
        elim (cases_eq x.offset r.offset) [
          | inl same ↦ absurd (apart (ap (λ (y : MapRecord). y.uid) (only (equal (number_of x) (number_of r) (omega (arith, same, f, here))))))
          | inr differ ↦ omega (arith, differ, l, number, f, here)
        ]

-- the last key's record is there
pub last_there : (rows : List MapRecord) (keys : List OrderKey) (n : ℕ) (u : MapUid) → AllPairs (λ a b. a.uid < b.uid) rows → AreKeysOf place_key keys rows → NumbersRise keys
    → Some u ≡ option_map (λ (k : OrderKey). k.uid) (last_of (filter (λ k. nat_lt k.number n) keys)) → find (λ x. x.uid == u.0) rows ≡ None → ⊥
last_there rows keys n u rising are rise e none =
    let a = answered u (last_of (filter (λ k. nat_lt k.number n) keys)) e in
    let last = last_key n keys a.key rise a.is in
    let row = row_of_key rows keys (λ k. k.number == a.key.number) a.key u rising are last.0 a.uid in
    (let w : None ≡ Some row.0 = sym none ∙ row.1.found in cc w)

pub last_elsewhere : (rows : List MapRecord) (keys : List OrderKey) (file offset : ℕ) (u : MapUid) (r : MapRecord) → AreTableRows rows → AreKeysOf place_key keys rows → NumbersRise keys → offset ≤ 4294967296
    → Some u ≡ option_map (λ (k : OrderKey). k.uid) (last_of (filter (λ k. nat_lt k.number (place_number file offset)) keys)) → find (λ x. x.uid == u.0) rows ≡ Some r → r.file ≢ file → All (λ x. x.file ≡ file → offset ≤ x.offset) rows
last_elsewhere rows keys file offset u r kept are rise most e found other =
    let n = place_number file offset in
    let a = answered u (last_of (filter (λ k. nat_lt k.number n) keys)) e in
    let last = last_key n keys a.key rise a.is in
    let number = the_number rows keys (λ k. k.number == a.key.number) a.key u r kept.rising are last.0 a.uid found in
    let below = last.1 in
    let all = all_rows place_key keys rows (λ k. nat_le n k.number || nat_le k.number a.key.number) are last.2 in
    let short : r.offset + r.size ≤ 4294967295 = (found_among (λ x. x.uid == u.0) rows r IsTableRow found kept.each).ends in
    λ i d lt. behind a.key.number r (get_or rows i d) number below (omega (arith, short)) other (all i d lt)
  where
    behind : (m : ℕ) (r x : MapRecord) → number_of r ≡ m → m < place_number file offset → r.offset < 4294967296 → r.file ≢ file → (nat_le (place_number file offset) (number_of x) || nat_le (number_of x) m) ≡ true → x.file ≡ file → offset ≤ x.offset
    behind m r x number below short other all f = elim (cases_lt x.offset offset) [
      | inl less ↦ absurd (let l : number_of x ≤ m = from_last (number_of x) m (place_number file offset) all (omega (arith, f, less)) in omega (arith, l, number, below, short, other, f, most))
      | inr le ↦ le
    ]

pub last_none : (rows : List MapRecord) (keys : List OrderKey) (file offset : ℕ) → AreKeysOf place_key keys rows → None ≡ option_map (λ (k : OrderKey). k.uid) (last_of (filter (λ k. nat_lt k.number (place_number file offset)) keys)) → All (λ x. x.file ≡ file → offset ≤ x.offset) rows
last_none rows keys file offset are e =
    let n = place_number file offset in
    let all = all_rows place_key keys rows (λ k. nat_le n k.number) are (none_below n keys (unanswered (last_of (filter (λ k. nat_lt k.number n) keys)) e)) in
    λ i d lt. behind (get_or rows i d) (all i d lt)
  where
    behind : (x : MapRecord) → nat_le (place_number file offset) (number_of x) ≡ true → x.file ≡ file → offset ≤ x.offset
    behind x h f = let l = le_is (place_number file offset) (number_of x) h in omega (arith, l, f)
