-- Counts that aren't what is listed and due beside their records.
use Rattle.resync_task.proofs.Common.{◌≡◌, ◌==◌, ◌≤◌, ◌+◌, ℕ, suc, Bool, true, false, List, [], ◌∷◌, ◌++◌, length, take, zero, Option, Some, None, refl, sym, ◌∙◌, ap, subst, arith, shown_record, MapRow, Result, Ok, Err, AllPairs, count_by, sum_by, if◌then◌else◌, All-head, All-tail, All-cons}
use Rattle.resync_task.proofs.Common.{All-nil, MapCount, LogRow, BoxMeaning, MapRecord, MapMeaning, History, BoxEntry, map_sound, listed_of, IsStore, due_at, listed_at, StoreValue, wrong_beside, wrong_of, listed_meant}
use Rattle.std.proofs.Common.{get_or, slice_get, All, add-one}
use Rattle.std.specs.Option.{option_map}
use Rattle.std.specs.Prelude.{IfOk}
use Rattle.store_core.specs.Running.{CoverDues}
use Rattle.store_core.specs.Dues.{number_beside}
use Rattle.store_core.specs.Beside.{StandBeside}
use Rattle.store_core.proofs.BesideLemmas.{given_at, one_each_of, size_beside}
use Rattle.store_core.proofs.DueLemmas.{AreNumbers, RecordsRise, at_own_place}

-- ---- the counts that differ

-- the number at a record's place
pub at_its_place : (number : ℕ → ℕ) (rows : List MapRecord) (ns : List ℕ) (p x : ℕ) (r : MapRecord) → AreNumbers number rows ns → slice_get rows p ≡ Some r → get_or ns p x ≡ number r.uid
at_its_place number [] ns zero x r a e = absurd (cc (let h : None ≡ Some r = e in h))
at_its_place number [] ns (suc p) x r a e = absurd (cc (let h : None ≡ Some r = e in h))
at_its_place number (y ∷ ys) [] p x r a e = absurd a
at_its_place number (y ∷ ys) (n ∷ ns) zero x r a e = let h : Some y ≡ Some r = e in let same : y ≡ r = cc h in sym a.0 ∙ ap (λ (q : MapRecord). number q.uid) same
at_its_place number (y ∷ ys) (n ∷ ns) (suc p) x r a e = at_its_place number ys ns p x r a.1 e

-- the record that is shown at a place
pub shown_at : (rows : List MapRecord) (p : ℕ) (row : MapRow) → Some row ≡ option_map shown_record (slice_get rows p) → (r : MapRecord) × (slice_get rows p ≡ Some r) × (row ≡ shown_record r)
shown_at rows p row e = by_found (slice_get rows p) refl e
  where
    by_found : (o : Option MapRecord) → slice_get rows p ≡ o → Some row ≡ option_map shown_record o → (r : MapRecord) × (slice_get rows p ≡ Some r) × (row ≡ shown_record r)
    by_found None is h = absurd (cc (let g : Some row ≡ None = h in g))
    by_found (Some r) is h = let g : Some row ≡ Some (shown_record r) = h in let same : row ≡ shown_record r = cc g in (r, is, same)

-- one record more
pub wrong_more : (right : ℕ → ℕ) (rows : List MapRecord) (p : ℕ) (r : MapRecord) → slice_get rows p ≡ Some r
    → wrong_beside right (take (suc p) rows) ≡ wrong_beside right (take p rows) ++ (if r.count == right r.uid then [] else record { uid = record { 0 = r.uid }; count = right r.uid } ∷ [])
wrong_more right [] zero r e = absurd (cc (let h : None ≡ Some r = e in h))
wrong_more right [] (suc p) r e = absurd (cc (let h : None ≡ Some r = e in h))
wrong_more right (y ∷ ys) zero r e = let h : Some y ≡ Some r = e in let same : y ≡ r = cc h in subst (λ (q : MapRecord). wrong_beside right (y ∷ []) ≡ (if q.count == right q.uid then [] else record { uid = record { 0 = q.uid }; count = right q.uid } ∷ [])) same refl
wrong_more right (y ∷ ys) (suc p) r e = by_test (y.count == right y.uid) (wrong_more right ys p r e)
  where
    more : List MapCount
    more = if r.count == right r.uid then [] else record { uid = record { 0 = r.uid }; count = right r.uid } ∷ []

    by_test : (t : Bool) → wrong_beside right (take (suc p) ys) ≡ wrong_beside right (take p ys) ++ more
        → (if t then wrong_beside right (take (suc p) ys) else record { uid = record { 0 = y.uid }; count = right y.uid } ∷ wrong_beside right (take (suc p) ys)) ≡ (if t then wrong_beside right (take p ys) else record { uid = record { 0 = y.uid }; count = right y.uid } ∷ wrong_beside right (take p ys)) ++ more
    by_test true rest = rest
    by_test false rest = ap (λ (xs : List MapCount). record { uid = record { 0 = y.uid }; count = right y.uid } ∷ xs) rest

covered_at : (P : MapRecord → Type 0) (rows : List MapRecord) (p : ℕ) (r : MapRecord) → All P rows → slice_get rows p ≡ Some r → P r
covered_at P [] zero r h e = absurd (cc (let g : None ≡ Some r = e in g))
covered_at P [] (suc p) r h e = absurd (cc (let g : None ≡ Some r = e in g))
covered_at P (y ∷ ys) zero r h e = let g : Some y ≡ Some r = e in let same : y ≡ r = cc g in subst P same (All-head P y ys h)
covered_at P (y ∷ ys) (suc p) r h e = covered_at P ys p r (All-tail P y ys h) e

-- a record that is shown at a place, with what is right of it
pub record ShownThere (rows : List MapRecord) (ns ds : List ℕ) (p x : ℕ) (row : MapRow) : Type 0 where
  pub own : MapRecord
  pub there : slice_get rows p ≡ Some own
  pub shown : row ≡ shown_record own
  pub sum : get_or ns p x + get_or ds p x ≡ number_beside own.uid rows ns + number_beside own.uid rows ds
  pub within : get_or ns p x + get_or ds p x ≤ row.count

pub shown_there : (rows : List MapRecord) (ns ds : List ℕ) (p x : ℕ) (row : MapRow) → AllPairs RecordsRise rows → length ns ≡ length rows → length ds ≡ length rows
    → All (λ r. number_beside r.uid rows ns + number_beside r.uid rows ds ≤ r.count) rows → Some row ≡ option_map shown_record (slice_get rows p) → ShownThere rows ns ds p x row
shown_there rows ns ds p x row rising n d covered e =
    let at = shown_at rows p row e in
    let a = at_its_place (λ u. number_beside u rows ns) rows ns p x at.0 (at_own_place rows ns rising (one_each_of rows ns n)) at.1 in
    let b = at_its_place (λ u. number_beside u rows ds) rows ds p x at.0 (at_own_place rows ds rising (one_each_of rows ds d)) at.1 in
    let most = covered_at (λ (r : MapRecord). number_beside r.uid rows ns + number_beside r.uid rows ds ≤ r.count) rows p at.0 covered at.1 in
    let count : row.count ≡ at.0.count = ap (λ (q : MapRow). q.count) at.2 in
    record {
      own = at.0;
      there = at.1;
      shown = at.2;
      sum = omega (arith, a, b);
      within = omega (arith, a, b, most, count);
    }

-- the walk over the records goes on
pub wrong_on : (rows : List MapRecord) (ns ds : List ℕ) (p x sum : ℕ) (row : MapRow) (counts more : List MapCount) → ShownThere rows ns ds p x row → sum ≡ get_or ns p x + get_or ds p x
    → counts ≡ wrong_beside (λ u. number_beside u rows ns + number_beside u rows ds) (take p rows)
    → more ≡ counts ++ (if row.count == sum then [] else record { uid = row.uid; count = sum } ∷ [])
    → more ≡ wrong_beside (λ u. number_beside u rows ns + number_beside u rows ds) (take (p + 1) rows)
wrong_on rows ns ds p x sum row counts more at is so_far e =
    e ∙ ap (λ (xs : List MapCount). xs ++ noted row sum) so_far
    ∙ ap (λ (n : ℕ). wrong_beside right (take p rows) ++ noted row n) (is ∙ at.sum)
    ∙ ap (λ (q : MapRow). wrong_beside right (take p rows) ++ noted q (right at.own.uid)) at.shown
    ∙ sym (wrong_more right rows p at.own at.there)
    ∙ ap (λ (n : ℕ). wrong_beside right (take n rows)) (sym (add-one p))
  where
    right : ℕ → ℕ
    right u = number_beside u rows ns + number_beside u rows ds

    noted : MapRow → ℕ → List MapCount
    noted q n = if q.count == n then [] else record { uid = q.uid; count = n } ∷ []

-- a number for each record
pub covers_each : (logs : List (List BoxEntry)) (rows : List MapRecord) (dues : List ℕ) → CoverDues logs rows dues → length dues ≡ length rows
covers_each logs [] [] h = refl
covers_each logs [] (d ∷ ds) h = absurd h
covers_each logs (r ∷ rs) [] h = absurd h
covers_each logs (r ∷ rs) (d ∷ ds) h = ap suc (covers_each logs rs ds h.1)

covered_by : (listed due : ℕ → ℕ) (logs : List (List BoxEntry)) (rows : List MapRecord) (dues : List ℕ) → ((uid : ℕ) → listed uid ≡ listed_of logs uid) → AreNumbers due rows dues → CoverDues logs rows dues → All (λ row. listed row.uid + due row.uid ≤ row.count) rows
covered_by listed due logs [] [] same a h = All-nil (λ (row : MapRecord). listed row.uid + due row.uid ≤ row.count)
covered_by listed due logs [] (d ∷ ds) same a h = absurd h
covered_by listed due logs (r ∷ rs) [] same a h = absurd h
covered_by listed due logs (r ∷ rs) (d ∷ ds) same a h =
    All-cons (λ (row : MapRecord). listed row.uid + due row.uid ≤ row.count) r rs (let e = same r.uid in let f = a.0 in let c = h.0 in omega (arith, e, f, c)) (covered_by listed due logs rs ds same a.1 h.1)

-- numbers that agree at the records
bounds_alike : (f g due : ℕ → ℕ) (rows : List MapRecord) (ns : List ℕ) → AreNumbers f rows ns → AreNumbers g rows ns → All (λ row. g row.uid + due row.uid ≤ row.count) rows → All (λ row. f row.uid + due row.uid ≤ row.count) rows
bounds_alike f g due [] [] a b h = All-nil (λ (row : MapRecord). f row.uid + due row.uid ≤ row.count)
bounds_alike f g due [] (n ∷ ns) a b h = absurd a
bounds_alike f g due (r ∷ rs) [] a b h = absurd a
bounds_alike f g due (r ∷ rs) (n ∷ ns) a b h =
    All-cons (λ (row : MapRecord). f row.uid + due row.uid ≤ row.count) r rs (let e = a.0 in let k = b.0 in let c = All-head (λ (row : MapRecord). g row.uid + due row.uid ≤ row.count) r rs h in omega (arith, e, k, c))
    (bounds_alike f g due rs ns a.1 b.1 (All-tail (λ (row : MapRecord). g row.uid + due row.uid ≤ row.count) r rs h))

wrong_alike : (f g due : ℕ → ℕ) (rows : List MapRecord) (ns : List ℕ) → AreNumbers f rows ns → AreNumbers g rows ns → wrong_beside (λ u. f u + due u) rows ≡ wrong_beside (λ u. g u + due u) rows
wrong_alike f g due [] [] a b = refl
wrong_alike f g due [] (n ∷ ns) a b = absurd a
wrong_alike f g due (r ∷ rs) [] a b = absurd a
wrong_alike f g due (r ∷ rs) (n ∷ ns) a b =
    ap (λ (k : ℕ). if r.count == k + due r.uid then wrong_beside (λ u. f u + due u) rs else record { uid = record { 0 = r.uid }; count = k + due r.uid } ∷ wrong_beside (λ u. f u + due u) rs) (a.0 ∙ sym b.0)
    ∙ ap (λ (xs : List MapCount). if r.count == g r.uid + due r.uid then xs else record { uid = record { 0 = r.uid }; count = g r.uid + due r.uid } ∷ xs) (wrong_alike f g due rs ns a.1 b.1)

rises : {D : Type 0} → (history : Option History) (store : StoreValue D) → IsStore history store → AllPairs RecordsRise store.map.records
rises history store s = subst (λ (m : MapMeaning). AllPairs RecordsRise m.records) (sym s.map_is) (map_sound store.map.store s.entries s.good.map_entries.1 s.good.map_entries.0).rising

own_numbers : {D : Type 0} → (history : Option History) (store : StoreValue D) (listed : List ℕ) → IsStore history store → length listed ≡ length store.map.records → AreNumbers (λ u. number_beside u store.map.records listed) store.map.records listed
own_numbers history store listed s size = at_own_place store.map.records listed (rises history store s) (one_each_of store.map.records listed size)

pub store_covers : {D : Type 0} → (history : Option History) (store : StoreValue D) (listed : List ℕ) → IsStore history store → StandBeside (λ u. listed_at u store) store.map.records listed
    → All (λ row. number_beside row.uid store.map.records listed + number_beside row.uid store.map.records store.dues ≤ row.count) store.map.records
store_covers history store listed s are =
    bounds_alike (λ u. number_beside u store.map.records listed) (λ u. listed_at u store) (λ u. due_at u store) store.map.records listed
    (own_numbers history store listed s (size_beside (λ u. listed_at u store) store.map.records listed are)) (given_at (λ u. listed_at u store) store.map.records listed are)
    (covered_by (λ u. listed_at u store) (λ u. due_at u store) s.logs store.map.records store.dues
    (λ u. ap (λ (ms : List BoxMeaning). sum_by (λ (m : BoxMeaning). count_by (λ (row : LogRow). row.map_uid == u) m.rows) ms) s.boxes_are ∙ listed_meant u s.logs)
    (own_numbers history store store.dues s (covers_each s.logs store.map.records store.dues s.counts)) s.counts)

unlike_of : {D : Type 0} → (history : Option History) (store : StoreValue D) (listed : List ℕ) (counts : List MapCount) → IsStore history store → StandBeside (λ u. listed_at u store) store.map.records listed
    → counts ≡ wrong_beside (λ u. number_beside u store.map.records listed + number_beside u store.map.records store.dues) store.map.records → counts ≡ wrong_of store
unlike_of history store listed counts s are e =
    e ∙ wrong_alike (λ u. number_beside u store.map.records listed) (λ u. listed_at u store) (λ u. due_at u store) store.map.records listed
    (own_numbers history store listed s (size_beside (λ u. listed_at u store) store.map.records listed are)) (given_at (λ u. listed_at u store) store.map.records listed are)

-- ---- by what the store hands out

pub covers_seen : {D : Type 0} → (history : Option History) (store : StoreValue D) (m : MapMeaning) (listed dues : List ℕ) → IsStore history store → m ≡ store.map → dues ≡ store.dues → StandBeside (λ u. listed_at u store) store.map.records listed
    → All (λ row. number_beside row.uid m.records listed + number_beside row.uid m.records dues ≤ row.count) m.records
covers_seen history store m listed dues s same owed are =
    subst (λ (x : MapMeaning). All (λ (row : MapRecord). number_beside row.uid x.records listed + number_beside row.uid x.records dues ≤ row.count) x.records) (sym same)
    (subst (λ (ds : List ℕ). All (λ (row : MapRecord). number_beside row.uid store.map.records listed + number_beside row.uid store.map.records ds ≤ row.count) store.map.records) (sym owed) (store_covers history store listed s are))

pub listed_seen : {D : Type 0} → (store : StoreValue D) (m : MapMeaning) (listed : List ℕ) → m ≡ store.map → StandBeside (λ u. listed_at u store) store.map.records listed → length listed ≡ length m.records
listed_seen store m listed same are = size_beside (λ u. listed_at u store) store.map.records listed are ∙ ap (λ (x : MapMeaning). length x.records) (sym same)

pub dues_seen : {D : Type 0} → (history : Option History) (store : StoreValue D) (m : MapMeaning) (dues : List ℕ) → IsStore history store → m ≡ store.map → dues ≡ store.dues → length dues ≡ length m.records
dues_seen history store m dues s same owed = ap (λ (ds : List ℕ). length ds) owed ∙ (covers_each s.logs store.map.records store.dues s.counts ∙ ap (λ (x : MapMeaning). length x.records) (sym same))

pub wrong_answered : {D : Type 0} {E : Type 0} → (history : Option History) (store : StoreValue D) (m : MapMeaning) (listed dues : List ℕ) (answer : Result (List MapCount) E) → IsStore history store → m ≡ store.map → dues ≡ store.dues → StandBeside (λ u. listed_at u store) store.map.records listed
    → IfOk answer (λ counts. counts ≡ wrong_beside (λ u. number_beside u m.records listed + number_beside u m.records dues) m.records) → IfOk answer (λ counts. counts ≡ wrong_of store)
wrong_answered history store m listed dues (Ok counts) s same owed are e =
    unlike_of history store listed counts s are
    (e ∙ (ap (λ (x : MapMeaning). wrong_beside (λ u. number_beside u x.records listed + number_beside u x.records dues) x.records) same ∙ ap (λ (ds : List ℕ). wrong_beside (λ u. number_beside u store.map.records listed + number_beside u store.map.records ds) store.map.records) owed))
wrong_answered history store m listed dues (Err why) s same owed are e = e
