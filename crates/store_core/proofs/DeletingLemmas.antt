-- A mailbox that is deleted: what its entry says fits, and what is listed and counted of each record falls by as much.
use Rattle.store_core.proofs.Common.{◌≡◌, ◌<◌, ◌≤◌, ◌+◌, ◌^◌, ◌==◌, ℕ, Bool, true, false, not, cond, suc, List, [], ◌∷◌, length, map, filter, find, slice_index_or, count_by, Option, Some, None, All, option_map_or, refl, sym, ◌∙◌, ap, subst, arith}
use Rattle.store_core.proofs.Common.{All-head, All-tail, All-weaker, All-contains, sum_by-cons, length-map, zero, equal_is, found_one, found_holds, History, BoxEntry, BoxNo, Highest, MapEntry, IsAccounted, accounted_counted, map_more, BoxMeaning, LogRow, box_meaning, rows_after}
use Rattle.store_core.proofs.Common.{MapFits, HasRecord, MapBox, MapMeaning, MapRecord, map_meaning, map_applied, record_at, record_changed, IsSoundMap, IsSoundRecord, HasItsRecord, IsCounted, listed_of, meaning_numbered, leak_at, CoverDues, IsUpTo, IsStore}
use Rattle.store_core.proofs.Common.{AreBoxLogs, ReadBoxLogs, StoreValue, indexes_of, list_numbered, OpenBox, without_box}
use Rattle.std.specs.List.{AllByRecursion}
use Rattle.std.proofs.lemmas.List.Elements.{recursion_from_All}
use Rattle.mdbox_base.specs.declared.entries.MapCount.{MapCount}
use Rattle.mdbox_base.specs.declared.entries.MapEntry.TheVariants as entry
use Rattle.model_appends.specs.MapAppending.{NamesListed, beside_without}
use Rattle.model_appends.proofs.AppendSafeMapLemmas.{deleted_append}
use Rattle.model_appends.proofs.DeletedMailboxLemmas.{deletions_are_accounted, leaves_deleted, listed_split}
use Rattle.model_meaning.specs.MapMeaning.{box_at, count_given, greatest}
use Rattle.model_meaning.specs.Sound.{IsSoundMapBox}
use Rattle.model_meaning.proofs.AppliedLemmas.{boxes_by_deleted, records_by_deleted}
use Rattle.model_meaning.proofs.MapSoundLemmas.{greatest_fits}
use Rattle.store_core.specs.Beside.{in_rows}
use Rattle.store_core.specs.Deleting.{AreAmounts, AreAmountsOf}
use Rattle.store_core.proofs.AmountsLemmas.{given_there, rise_of, uids_of}
use Rattle.store_core.proofs.BoxAppendLemmas.{dues_of, store_sound}
use Rattle.store_core.proofs.ChangingLemmas.{Changing}
use Rattle.store_core.proofs.DueLemmas.{store_counts}
use Rattle.store_core.proofs.LeavingBoxLemmas.{beside_map, boxes_beside, logs_without, read_without}
use Rattle.store_core.proofs.MapDueLemmas.{named_below}

-- ---- the mailbox

-- it is in the map
box_there : (n : ℕ) (ms : List MapBox) (xs : List BoxMeaning) (m : BoxMeaning) → meaning_numbered n ms xs ≡ Some m → (box : MapBox) × (find (λ b. b.number == n) ms ≡ Some box)
box_there n [] xs m e = absurd (let k : None ≡ Some m = e in cc k)
box_there n (b ∷ bs) [] m e = absurd (let k : None ≡ Some m = e in cc k)
box_there n (b ∷ bs) (x ∷ xs) m e = by_test (b.number == n) e (λ k. box_there n bs xs m k)
  where
    by_test : (t : Bool) → cond t (Some x) (meaning_numbered n bs xs) ≡ Some m → (meaning_numbered n bs xs ≡ Some m → (box : MapBox) × (find (λ o. o.number == n) bs ≡ Some box)) → (box : MapBox) × (cond t (Some b) (find (λ o. o.number == n) bs) ≡ Some box)
    by_test true k rest = (b, refl)
    by_test false k rest = rest k

pub box_below : (m : MapMeaning) (n : ℕ) (box : MapBox) → IsSoundMap m → box_at m n ≡ Some box → n ≤ m.highest.mailbox
box_below m n box sound found =
    let h : IsSoundMapBox m.highest.mailbox box × ((box.number == n) ≡ true) = found_holds (λ (b : MapBox). b.number == n) m.boxes box (IsSoundMapBox m.highest.mailbox) found sound.boxes in
    let at : box.number ≡ n = equal_is box.number n h.1 in
    let below = h.0.below in
    omega (arith, at, below)

-- ---- its rows

-- what holds of each log holds of what it means
numbered_holds : (P : List LogRow → Type 0) (n : ℕ) (ms : List MapBox) (logs : List (List BoxEntry)) (m : BoxMeaning) → AllByRecursion (λ log. P (rows_after log)) logs → meaning_numbered n ms (map box_meaning logs) ≡ Some m → P m.rows
numbered_holds P n [] logs m all e = absurd (let k : None ≡ Some m = e in cc k)
numbered_holds P n (b ∷ bs) [] m all e = absurd (let k : None ≡ Some m = e in cc k)
numbered_holds P n (b ∷ bs) (l ∷ ls) m all e = by_test (b.number == n) e (λ k. numbered_holds P n bs ls m all.1 k)
  where
    by_test : (t : Bool) → cond t (Some (box_meaning l)) (meaning_numbered n bs (map box_meaning ls)) ≡ Some m → (meaning_numbered n bs (map box_meaning ls) ≡ Some m → P m.rows) → P m.rows
    by_test true k rest = let s : box_meaning l ≡ m = cc k in subst (λ (x : BoxMeaning). P x.rows) s all.0
    by_test false k rest = rest k

-- a record of which it lists a message is there
counted_row : (n : MapMeaning) (uid : ℕ) (rows : List LogRow) → All (HasItsRecord n) rows → 1 ≤ in_rows uid rows → (row : MapRecord) × (record_at n uid ≡ Some row)
counted_row n uid [] all some = absurd (omega (arith, some))
counted_row n uid (r ∷ rs) all some = by_test (r.map_uid == uid) refl (sum_by-cons (λ (x : LogRow). cond (x.map_uid == uid) 1 0) r rs) (λ k. counted_row n uid rs (All-tail (HasItsRecord n) r rs all) k)
  where
    by_test : (t : Bool) → (r.map_uid == uid) ≡ t → in_rows uid (r ∷ rs) ≡ cond t 1 0 + in_rows uid rs → (1 ≤ in_rows uid rs → (row : MapRecord) × (record_at n uid ≡ Some row)) → (row : MapRecord) × (record_at n uid ≡ Some row)
    by_test true t e rest = let h : HasItsRecord n r = All-head (HasItsRecord n) r rs all in (h.0, ap (record_at n) (sym (equal_is r.map_uid uid t)) ∙ h.1)
    by_test false t e rest = rest (omega (arith, e, some))

-- ---- in a store

-- what all mailboxes list is what the others list, and this one
abbrev in_box : ℕ → Option BoxMeaning → ℕ
in_box uid found = option_map_or (λ m. count_by (λ row. row.map_uid == uid) m.rows) found 0

pub listed_apart : {D : Type 0} → (h : Option History) (v : StoreValue D) (n : ℕ) (m : BoxMeaning) (uid : ℕ) → (s : IsStore h v) → list_numbered v n ≡ Some m → listed_of s.logs uid ≡ listed_of (beside_without n v.map.boxes s.logs) uid + in_rows uid m.rows
listed_apart h v n m uid s at =
    listed_split n uid v.map.boxes s.logs (s.good.one_each ∙ ap (λ (k : MapMeaning). length k.boxes) (sym s.map_is)) (store_sound h v s).boxes_rising
    ∙ ap (λ (o : Option BoxMeaning). listed_of (beside_without n v.map.boxes s.logs) uid + in_box uid o) (ap (meaning_numbered n v.map.boxes) (sym s.boxes_are) ∙ at)

-- of a record of which it lists a message, it lists no more than the count
pub row_listed : {D : Type 0} → (h : Option History) (v : StoreValue D) (n : ℕ) (m : BoxMeaning) (uid : ℕ) → IsStore h v → list_numbered v n ≡ Some m → 1 ≤ in_rows uid m.rows → HasRecord v.map uid (λ row. (in_rows uid m.rows ≤ row.count) × IsSoundRecord v.map.highest.map row)
row_listed h v n m uid s at some =
    let rows : All (HasItsRecord v.map) m.rows =
    numbered_holds (All (HasItsRecord v.map)) n v.map.boxes s.logs m (subst (λ (k : MapMeaning). AllByRecursion (λ log. All (HasItsRecord k) (rows_after log)) s.logs) (sym s.map_is) s.good.records) (ap (meaning_numbered n v.map.boxes) (sym s.boxes_are) ∙ at) in
    let f = counted_row v.map uid m.rows rows some in
    let one = found_one (λ (r : MapRecord). r.uid == uid) v.map.records f.0 f.1 in
    let enough : listed_of s.logs f.0.uid ≤ f.0.count = All-contains (IsCounted s.logs) v.map.records f.0 (subst (λ (k : MapMeaning). All (IsCounted s.logs) k.records) (sym s.map_is) s.good.counts) one.0 in
    let is : listed_of s.logs f.0.uid ≡ listed_of s.logs uid = ap (listed_of s.logs) (equal_is f.0.uid uid one.1) in
    let apart = listed_apart h v n m uid s at in
    (f.0, f.1, (omega (arith, enough, is, apart), All-contains (IsSoundRecord v.map.highest.map) v.map.records f.0 (store_sound h v s).records one.0))

pub few_listed : {D : Type 0} → (h : Option History) (v : StoreValue D) (n : ℕ) (m : BoxMeaning) (uid : ℕ) → IsStore h v → list_numbered v n ≡ Some m → in_rows uid m.rows ≤ 65535
few_listed h v n m uid s at = by_count (in_rows uid m.rows) refl
  where
    by_count : (k : ℕ) → in_rows uid m.rows ≡ k → k ≤ 65535
    by_count zero e = omega arith
    by_count (suc k) e = let r = row_listed h v n m uid s at (omega (arith, e)) in let most = r.2.0 in let few = r.2.1.count in omega (arith, e, most, few)

-- ---- its amounts

-- each of them is of a record, whose count is as much at least
amounts_fit : {D : Type 0} → (h : Option History) (v : StoreValue D) (n : ℕ) (m : BoxMeaning) (amounts : List MapCount) → IsStore h v → list_numbered v n ≡ Some m → AreAmountsOf (map (λ row. row.map_uid) m.rows) amounts
    → All (λ c. HasRecord v.map c.uid.0 (λ row. ((1 ≤ c.count) × (c.count ≤ row.count)) × IsSoundRecord v.map.highest.map row)) amounts
amounts_fit h v n m amounts s at a = λ i d lt.
    let it : MapCount = slice_index_or amounts i d in
    let some : 1 ≤ it.count = a.some i d lt in
    let is : it.count ≡ in_rows it.uid.0 m.rows = sym (given_there amounts i d (rise_of amounts a.rising) lt) ∙ a.given it.uid.0 ∙ uids_of m.rows it.uid.0 in
    let r = row_listed h v n m it.uid.0 s at (omega (arith, some, is)) in
    let most = r.2.0 in
    (r.0, r.1, ((some, omega (arith, is, most)), r.2.1))

pub are_amounts : {D : Type 0} → (h : Option History) (v : StoreValue D) (mailbox : BoxNo) (m : BoxMeaning) (amounts : List MapCount) → IsStore h v → list_numbered v mailbox.0 ≡ Some m → length m.rows ≤ 1000000 → AreAmountsOf (map (λ row. row.map_uid) m.rows) amounts → AreAmounts mailbox amounts v
are_amounts h v mailbox m amounts s at short a =
    let box = box_there mailbox.0 v.map.boxes (indexes_of v.boxes) m at in
    let sound : IsSoundMap v.map = store_sound h v s in
    let below = box_below v.map mailbox.0 box.0 sound box.1 in
    let high = sound.mailbox_high in
    let each = amounts_fit h v mailbox.0 m amounts s at a in
    let few = a.few in
    let long = length-map m.rows (λ (row : LogRow). row.map_uid) in
    record {
      in_range = (
        omega (arith, below, high),
        omega (arith, few, long, short),
        recursion_from_All (λ (c : MapCount). (c.uid.0 < 2 ^ 32) × (c.count < 2 ^ 16)) amounts
            (All-weaker (λ (c : MapCount). HasRecord v.map c.uid.0 (λ row. ((1 ≤ c.count) × (c.count ≤ row.count)) × IsSoundRecord v.map.highest.map row)) (λ (c : MapCount). (c.uid.0 < 2 ^ 32) × (c.count < 2 ^ 16))
            (λ c r.
            let up = named_below v.map c.uid.0 r.0 sound r.1 in
            let most = sound.map_high in
            let count = r.2.0.1 in
            let bound = r.2.1.count in
            (omega (arith, up, most), omega (arith, count, bound))) amounts each),
      );
      fits = record {
        there = (box.0, box.1, tt);
        rising = a.rising;
        counts = All-weaker (λ (c : MapCount). HasRecord v.map c.uid.0 (λ row. ((1 ≤ c.count) × (c.count ≤ row.count)) × IsSoundRecord v.map.highest.map row)) (λ (c : MapCount). HasRecord v.map c.uid.0 (λ row. (1 ≤ c.count) × (c.count ≤ row.count)))
            (λ c r. (r.0, r.1, r.2.0)) amounts each;
      };
      listed = λ uid. a.given uid ∙ uids_of m.rows uid ∙ ap (in_box uid) (sym at);
    }

-- ---- what is covered

cover_less : (logs less : List (List BoxEntry)) (mailbox : BoxNo) (amounts : List MapCount) (rows : List MapRecord) (ns : List ℕ) → ((uid : ℕ) → listed_of logs uid ≡ listed_of less uid + count_given uid amounts 0) → CoverDues logs rows ns
    → CoverDues less (map (record_changed (entry.X mailbox amounts)) rows) ns
cover_less logs less mailbox amounts [] [] fall h = tt
cover_less logs less mailbox amounts [] (n ∷ ns) fall h = absurd h
cover_less logs less mailbox amounts (r ∷ rs) [] fall h = absurd h
cover_less logs less mailbox amounts (r ∷ rs) (n ∷ ns) fall h = (
  (let c : listed_of logs r.uid + n ≤ r.count = h.0 in let f = fall r.uid in omega (arith, c, f)),
  cover_less logs less mailbox amounts rs ns fall h.1,
)

-- what the logs list of a record falls by its amount
pub listed_falls : {D : Type 0} → (h : Option History) (v : StoreValue D) (mailbox : BoxNo) (amounts : List MapCount) (uid : ℕ) → (s : IsStore h v) → AreAmounts mailbox amounts v → listed_of s.logs uid ≡ listed_of (beside_without mailbox.0 v.map.boxes s.logs) uid + count_given uid amounts 0
listed_falls h v mailbox amounts uid s a =
    listed_split mailbox.0 uid v.map.boxes s.logs (s.good.one_each ∙ ap (λ (k : MapMeaning). length k.boxes) (sym s.map_is)) (store_sound h v s).boxes_rising
    ∙ ap (λ (n : ℕ). listed_of (beside_without mailbox.0 v.map.boxes s.logs) uid + n) (ap (λ (ms : List BoxMeaning). in_box uid (meaning_numbered mailbox.0 v.map.boxes ms)) (sym s.boxes_are) ∙ sym (a.listed uid))

-- ---- the deletion can be appended

-- the numbers that it names were drawn
drawn_deleted : (m : MapMeaning) (drawn : Highest) (mailbox : BoxNo) (amounts : List MapCount) → IsSoundMap m → MapFits m (entry.X mailbox amounts) → IsUpTo drawn m.highest → IsUpTo drawn (map_applied (entry.X mailbox amounts) m).highest
drawn_deleted m drawn mailbox amounts sound fits up =
    let a = up.file in
    let b = up.map in
    let c = up.instance in
    let d = up.mailbox in
    let box = box_below m mailbox.0 fits.there.0 sound fits.there.1 in
    let most : greatest (λ (x : MapCount). x.uid.0) amounts ≤ m.highest.map =
    greatest_fits (λ (x : MapCount). x.uid.0) m.highest.map amounts (All-weaker (λ (x : MapCount). HasRecord m x.uid.0 (λ row. (1 ≤ x.count) × (x.count ≤ row.count))) (λ (x : MapCount). x.uid.0 ≤ m.highest.map) (λ x r. named_below m x.uid.0 r.0 sound r.1) amounts fits.counts) in
    record { file = omega (arith, a); map = omega (arith, b, most); instance = omega (arith, c); mailbox = omega (arith, d, box) }

pub deleting : {D : Type 0} → (h : Option History) (v : StoreValue D) (mailbox : BoxNo) (amounts : List MapCount) → IsStore h v → v.stopped ≡ false → AreAmounts mailbox amounts v → Changing h v (entry.X mailbox amounts) (without_box mailbox.0 v.boxes)
deleting h v mailbox amounts s runs a =
    let e : MapEntry = entry.X mailbox amounts in
    let k : ℕ = mailbox.0 in
    let sound : IsSoundMap v.map = store_sound h v s in
    let less : List (List BoxEntry) = beside_without k v.map.boxes s.logs in
    let same : without_box k v.boxes ≡ beside_without k v.map.boxes v.boxes = boxes_beside k v.map.store v.map.boxes v.boxes s.box_logs in
    let records : (map_applied e v.map).records ≡ map (record_changed e) v.map.records = records_by_deleted mailbox amounts v.map.records in
    let names : NamesListed e (map_meaning v.map.store s.entries).boxes (map box_meaning s.logs) =
    subst (λ (m : MapMeaning). NamesListed e m.boxes (map box_meaning s.logs)) s.map_is (subst (λ (ms : List BoxMeaning). NamesListed e v.map.boxes ms) s.boxes_are a.listed) in
    let accounted = deletions_are_accounted v.map.store s.entries s.logs mailbox amounts (dues_of v) (λ uid. leak_at uid v) s.good names
    (subst (λ (m : MapMeaning). All (IsAccounted (dues_of v) (λ uid. leak_at uid v) s.logs) m.records) s.map_is (store_counts h v s.logs s sound.rising s.boxes_are)) in
    record {
      store = s;
      running = runs;
      kind = tt;
      in_range = a.in_range;
      fits = a.fits;
      counted = accounted_counted (dues_of v) (λ uid. leak_at uid v) less (map_applied e v.map).records
          (subst (λ (m : MapMeaning). All (IsAccounted (dues_of v) (λ uid. leak_at uid v) (beside_without k m.boxes s.logs)) (map_applied e v.map).records) (sym s.map_is)
          (subst (λ (n : MapMeaning). All (IsAccounted (dues_of v) (λ uid. leak_at uid v) (beside_without k (map_meaning v.map.store s.entries).boxes s.logs)) n.records) (map_more v.map.store s.entries e ∙ sym (ap (map_applied e) s.map_is)) accounted));
      covered = subst (λ (rows : List MapRecord). CoverDues less rows v.dues) (sym records) (cover_less s.logs less mailbox amounts v.map.records v.dues (λ uid. listed_falls h v mailbox amounts uid s a) s.counts);
      boxes_are = ap indexes_of same ∙ sym (beside_map (λ (o : OpenBox). o.index.meaning) k v.map.boxes v.boxes) ∙ ap (beside_without k v.map.boxes) s.boxes_are ∙ beside_map box_meaning k v.map.boxes s.logs;
      box_logs = subst (λ (bs : List MapBox). AreBoxLogs v.map.store bs (without_box k v.boxes)) (sym (boxes_by_deleted mailbox amounts v.map.boxes))
          (subst (λ (os : List OpenBox). AreBoxLogs v.map.store (filter (λ (box : MapBox). not (k == box.number)) v.map.boxes) os) (sym same) (logs_without k v.map.store v.map.boxes v.boxes s.box_logs));
      read = λ now r. subst (λ (os : List OpenBox). ReadBoxLogs now os less) (sym same) (read_without k now v.map.store v.map.boxes v.boxes s.logs s.box_logs r);
      drawn = drawn_deleted v.map v.drawn mailbox amounts sound a.fits s.drawn;
      places = tt;
      none = refl;
      append = λ files id entries lists safe fits counts. deleted_append files id entries lists mailbox amounts safe a.in_range fits counts;
      alike = λ disk lists settled. leaves_deleted disk lists mailbox amounts settled;
    }
