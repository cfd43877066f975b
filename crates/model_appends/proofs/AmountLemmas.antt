-- How entries change how many messages of a record are listed, and what the counts of records are made of.
use Rattle.model_appends.proofs.Common.{sym, ◌∙◌, ap, subst, arith, AllPairs, count_by, sum_by, filter, not, if◌then◌else◌, option_map_or, All-head, All-tail, sum_by-cons, sum_by-append, Uid, MapUid, Guid, BoxEntry, one_more, LogRow, BoxMeaning, row_rules, rows_after, box_meaning, MapRecord, MapBox}
use Rattle.model_appends.proofs.Common.{record_changed, has_map_uid, equal_is, equal_yes, pairs_head, pairs_tail, meaning_numbered, AreBoxEntries, HasItsRecord, IsCounted, listed_of, logs_by, OnlyAdds, logs_made, all_map, found_one, AllByRecursion, IsSoundMap, map_sound, MapMeaning, map_meaning}
use Rattle.model_appends.proofs.Common.{record_made, MapFits, AreGoodLogs, MapCount, MapEntry, BoxFits, All-weaker, All-append, All-nil, All-cons, All-contains, IsAccounted, bit}
use Rattle.std.proofs.Common.{◌≡◌, ◌<◌, ◌≤◌, ◌+◌, ◌-◌, ◌==◌, ℕ, Bool, true, false, cond, List, [], ◌∷◌, ◌++◌, map, find, Option, Some, None, All, refl}
use Rattle.std.specs.Prelude.{◌||◌}
use Rattle.mdbox_base.specs.declared.entries.BoxEntry.TheVariants as entry
use Rattle.mdbox_base.specs.declared.entries.MapEntry.TheVariants as map_entry
use Rattle.model_meaning.proofs.AppliedLemmas.{rows_by_next, rows_by_removed, rows_by_added}
use Rattle.model_meaning.specs.BoxMeaning.{row_at}
use Rattle.model_appends.specs.MapAppending.{stored_row}
use Rattle.model_appends.proofs.AppendOpenLemmas.{listed_same, listed_flagged, listed_worded}
use Rattle.model_appends.proofs.AppendMapOpenLemmas.{records_added}
use Rattle.model_meaning.specs.Sound.{IsSoundBox, IsSoundRecord}
use Rattle.model_meaning.proofs.BoxSoundLemmas.{box_sound}
use Rattle.model_appends.specs.Amounts.{more_due, less_due, due_by_box, HoldsAdded, due_by, leak_by, MayChange}

abbrev RowsRise : LogRow → LogRow → Type 0
RowsRise a b = a.uid < b.uid

no_test : (b : Bool) → (b ≡ true → ⊥) → b ≡ false
no_test true h = absurd (h refl)
no_test false h = refl

-- ---- a removed row is one less

all_stay : (u uid : ℕ) (rows : List LogRow) → All (λ (row : LogRow). u < row.uid) rows → count_by (λ row. row.map_uid == uid) (filter (λ row. not (u == row.uid)) rows) ≡ count_by (λ row. row.map_uid == uid) rows
all_stay u uid [] above = refl
all_stay u uid (r ∷ rs) above =
    let less : u < r.uid = All-head (λ (row : LogRow). u < row.uid) r rs above in
    let stays : (u == r.uid) ≡ false = no_test (u == r.uid) (λ p. let e = equal_is u r.uid p in absurd (omega (arith, less, e))) in
    ap (λ (t : Bool). count_by (λ (row : LogRow). row.map_uid == uid) (cond (not t) (r ∷ filter (λ (row : LogRow). not (u == row.uid)) rs) (filter (λ (row : LogRow). not (u == row.uid)) rs))) stays
    ∙ sum_by-cons (λ (row : LogRow). bit (row.map_uid == uid)) r (filter (λ (row : LogRow). not (u == row.uid)) rs)
    ∙ ap (λ (n : ℕ). bit (r.map_uid == uid) + n) (all_stay u uid rs (All-tail (λ (row : LogRow). u < row.uid) r rs above)) ∙ sym (sum_by-cons (λ (row : LogRow). bit (row.map_uid == uid)) r rs)

one_leaves : (u uid : ℕ) (rows : List LogRow) (row : LogRow) → AllPairs RowsRise rows → find (λ r. r.uid == u) rows ≡ Some row
    → count_by (λ row. row.map_uid == uid) (filter (λ row. not (u == row.uid)) rows) + bit (row.map_uid == uid) ≡ count_by (λ row. row.map_uid == uid) rows
one_leaves u uid [] row rising found = absurd (cc (let k : None ≡ Some row = found in k))
one_leaves u uid (r ∷ rs) row rising found = by_test (r.uid == u) refl found (λ h. one_leaves u uid rs row (pairs_tail RowsRise r rs rising) h)
  where
    counted : List LogRow → ℕ
    counted rows = count_by (λ row. row.map_uid == uid) rows

    stay : List LogRow → List LogRow
    stay rows = filter (λ row. not (u == row.uid)) rows

    whole : counted (r ∷ rs) ≡ bit (r.map_uid == uid) + counted rs
    whole = sum_by-cons (λ (row : LogRow). bit (row.map_uid == uid)) r rs

    by_test : (t : Bool) → (r.uid == u) ≡ t → cond t (Some r) (find (λ (r : LogRow). r.uid == u) rs) ≡ Some row → (find (λ (r : LogRow). r.uid == u) rs ≡ Some row → counted (stay rs) + bit (row.map_uid == uid) ≡ counted rs)
        → counted (stay (r ∷ rs)) + bit (row.map_uid == uid) ≡ counted (r ∷ rs)
    by_test true is h rest =
        let e : Some r ≡ Some row = h in
        let same : r ≡ row = cc e in
        let number : r.uid ≡ u = equal_is r.uid u is in
        let goes : counted (stay (r ∷ rs)) ≡ counted (stay rs) = ap (λ (t : Bool). counted (cond (not t) (r ∷ stay rs) (stay rs))) (equal_yes u r.uid (sym number)) in
        let others : counted (stay rs) ≡ counted rs = all_stay u uid rs (subst (λ (n : ℕ). All (λ (o : LogRow). n < o.uid) rs) number (pairs_head RowsRise r rs rising)) in
        let b : bit (row.map_uid == uid) ≡ bit (r.map_uid == uid) = ap (λ (o : LogRow). bit (o.map_uid == uid)) (sym same) in
        omega (arith, goes, others, b, whole)
    by_test false is h rest =
        let stays : (u == r.uid) ≡ false = no_test (u == r.uid) (λ p. let e = equal_yes r.uid u (sym (equal_is u r.uid p)) in absurd (cc (sym is ∙ e))) in
        let kept : counted (stay (r ∷ rs)) ≡ counted (r ∷ stay rs) = ap (λ (t : Bool). counted (cond (not t) (r ∷ stay rs) (stay rs))) stays in
        let split : counted (r ∷ stay rs) ≡ bit (r.map_uid == uid) + counted (stay rs) = sum_by-cons (λ (row : LogRow). bit (row.map_uid == uid)) r (stay rs) in
        let k = rest h in
        omega (arith, kept, split, k, whole)

-- An `R`: the message's record has one listed message less.
pub listed_removed : (number : ℕ) (u : Uid) (boxes : List MapBox) (logs : List (List BoxEntry)) (m : BoxMeaning) (row : LogRow) (uid : ℕ) → meaning_numbered number boxes (map box_meaning logs) ≡ Some m → AllPairs RowsRise m.rows → row_at m u.0 ≡ Some row
    → listed_of (logs_by number (entry.R u) boxes logs) uid + bit (row.map_uid == uid) ≡ listed_of logs uid
listed_removed number u [] [] m row uid at rising found = absurd (cc (let k : None ≡ Some m = at in k))
listed_removed number u [] (log ∷ logs) m row uid at rising found = absurd (cc (let k : None ≡ Some m = at in k))
listed_removed number u (box ∷ boxes) [] m row uid at rising found = absurd (cc (let k : None ≡ Some m = at in k))
listed_removed number u (box ∷ boxes) (log ∷ logs) m row uid at rising found = by_test (box.number == number) at (λ h. listed_removed number u boxes logs m row uid h rising found)
  where
    in_log : List BoxEntry → ℕ
    in_log l = count_by (λ row. row.map_uid == uid) (rows_after l)

    by_test : (t : Bool) → cond t (Some (box_meaning log)) (meaning_numbered number boxes (map box_meaning logs)) ≡ Some m
        → (meaning_numbered number boxes (map box_meaning logs) ≡ Some m → listed_of (logs_by number (entry.R u) boxes logs) uid + bit (row.map_uid == uid) ≡ listed_of logs uid)
        → listed_of (cond t ((log ++ entry.R u ∷ []) ∷ logs) (log ∷ logs_by number (entry.R u) boxes logs)) uid + bit (row.map_uid == uid) ≡ listed_of (log ∷ logs) uid
    by_test true h rest =
        let e : Some (box_meaning log) ≡ Some m = h in
        let same : m ≡ box_meaning log = cc e in
        let here : in_log (log ++ entry.R u ∷ []) + bit (row.map_uid == uid) ≡ in_log log =
        ap (λ (rows : List LogRow). count_by (λ (row : LogRow). row.map_uid == uid) rows + bit (row.map_uid == uid)) (one_more row_rules log (entry.R u) ∙ rows_by_removed u (rows_after log))
        ∙ one_leaves u.0 uid (rows_after log) row (subst (λ (n : BoxMeaning). AllPairs RowsRise n.rows) same rising) (subst (λ (n : BoxMeaning). row_at n u.0 ≡ Some row) same found) in
        let a = sum_by-cons in_log (log ++ entry.R u ∷ []) logs in
        let b = sum_by-cons in_log log logs in
        omega (arith, a, b, here)
    by_test false h rest =
        let a = sum_by-cons in_log log (logs_by number (entry.R u) boxes logs) in
        let b = sum_by-cons in_log log logs in
        let k = rest h in
        omega (arith, a, b, k)

-- An `A`: one more.
pub listed_added : (number : ℕ) (u : Uid) (flags time size : ℕ) (k : MapUid) (guid : Guid) (words : List (List ℕ)) (boxes : List MapBox) (logs : List (List BoxEntry)) (m : BoxMeaning) (uid : ℕ) → meaning_numbered number boxes (map box_meaning logs) ≡ Some m
    → listed_of (logs_by number (entry.A u flags time size k guid words) boxes logs) uid ≡ listed_of logs uid + bit (k.0 == uid)
listed_added number u flags time size k guid words [] [] m uid at = absurd (cc (let h : None ≡ Some m = at in h))
listed_added number u flags time size k guid words [] (log ∷ logs) m uid at = absurd (cc (let h : None ≡ Some m = at in h))
listed_added number u flags time size k guid words (box ∷ boxes) [] m uid at = absurd (cc (let h : None ≡ Some m = at in h))
listed_added number u flags time size k guid words (box ∷ boxes) (log ∷ logs) m uid at = by_test (box.number == number) at (λ h. listed_added number u flags time size k guid words boxes logs m uid h)
  where
    e : BoxEntry
    e = entry.A u flags time size k guid words

    in_log : List BoxEntry → ℕ
    in_log l = count_by (λ row. row.map_uid == uid) (rows_after l)

    by_test : (t : Bool) → cond t (Some (box_meaning log)) (meaning_numbered number boxes (map box_meaning logs)) ≡ Some m
        → (meaning_numbered number boxes (map box_meaning logs) ≡ Some m → listed_of (logs_by number (entry.A u flags time size k guid words) boxes logs) uid ≡ listed_of logs uid + bit (k.0 == uid))
        → listed_of (cond t ((log ++ entry.A u flags time size k guid words ∷ []) ∷ logs) (log ∷ logs_by number (entry.A u flags time size k guid words) boxes logs)) uid ≡ listed_of (log ∷ logs) uid + bit (k.0 == uid)
    by_test true h rest =
        let row : LogRow = record { uid = u.0; flags = flags; time = time; size = size; map_uid = k.0; guid = guid.0; words = words } in
        let here : in_log (log ++ entry.A u flags time size k guid words ∷ []) ≡ in_log log + (0 + bit (k.0 == uid)) =
        ap (λ (rows : List LogRow). count_by (λ (row : LogRow). row.map_uid == uid) rows) (one_more row_rules log (entry.A u flags time size k guid words) ∙ rows_by_added u flags time size k guid words (rows_after log))
        ∙ sum_by-append (λ (row : LogRow). bit (row.map_uid == uid)) (rows_after log) (row ∷ []) in
        let a = sum_by-cons in_log (log ++ entry.A u flags time size k guid words ∷ []) logs in
        let b = sum_by-cons in_log log logs in
        omega (arith, a, b, here)
    by_test false h rest =
        let a = sum_by-cons in_log log (logs_by number (entry.A u flags time size k guid words) boxes logs) in
        let b = sum_by-cons in_log log logs in
        let r = rest h in
        omega (arith, a, b, r)

-- An `N`: as many.
pub listed_next : (number next : ℕ) (boxes : List MapBox) (logs : List (List BoxEntry)) (uid : ℕ) → listed_of (logs_by number (entry.N next) boxes logs) uid ≡ listed_of logs uid
listed_next number next boxes logs uid = listed_same number (entry.N next) boxes logs uid (λ rows. ap (count_by (λ (row : LogRow). row.map_uid == uid)) (rows_by_next next rows))

-- the rows of a mailbox rise
rows_rise : (number : ℕ) (boxes : List MapBox) (logs : List (List BoxEntry)) (m : BoxMeaning) → meaning_numbered number boxes (map box_meaning logs) ≡ Some m → AllByRecursion AreBoxEntries logs → AllPairs RowsRise m.rows
rows_rise number [] [] m at h = absurd (cc (let k : None ≡ Some m = at in k))
rows_rise number [] (log ∷ logs) m at h = absurd (cc (let k : None ≡ Some m = at in k))
rows_rise number (box ∷ boxes) [] m at h = absurd (cc (let k : None ≡ Some m = at in k))
rows_rise number (box ∷ boxes) (log ∷ logs) m at h = by_test (box.number == number) at (λ k. rows_rise number boxes logs m k h.1)
  where
    by_test : (t : Bool) → cond t (Some (box_meaning log)) (meaning_numbered number boxes (map box_meaning logs)) ≡ Some m → (meaning_numbered number boxes (map box_meaning logs) ≡ Some m → AllPairs RowsRise m.rows) → AllPairs RowsRise m.rows
    by_test true k rest =
        let e : Some (box_meaning log) ≡ Some m = k in
        let sound : IsSoundBox (box_meaning log) = box_sound log h.0.1 h.0.0 in
        let same : box_meaning log ≡ m = cc e in
        subst (λ (n : BoxMeaning). AllPairs RowsRise n.rows) same sound.rising
    by_test false k rest = rest k

-- ---- what counts are made of, with an entry of a mailbox log

removed_due : (due leak : ℕ → ℕ) (logs later : List (List BoxEntry)) (row : MapRecord) (k : ℕ) → listed_of later row.uid + bit (k == row.uid) ≡ listed_of logs row.uid → IsAccounted due leak logs row → IsAccounted (more_due 1 k due) leak later row
removed_due due leak logs later row k less a = omega (arith, a, less)

added_due : (due leak : ℕ → ℕ) (logs later : List (List BoxEntry)) (row : MapRecord) (k : MapUid) → listed_of later row.uid ≡ listed_of logs row.uid + bit (k.0 == row.uid) → 1 ≤ due k.0 → IsAccounted due leak logs row → IsAccounted (less_due (k ∷ []) due) leak later row
added_due due leak logs later row k more held a = by_test (k.0 == row.uid) refl
  where
    by_test : (t : Bool) → (k.0 == row.uid) ≡ t → row.count ≡ listed_of later row.uid + (due row.uid - bit (has_map_uid row.uid (k ∷ []))) + leak row.uid
    by_test true is =
        let e : k.0 ≡ row.uid = equal_is k.0 row.uid is in
        let some : 1 ≤ due row.uid = subst (λ (n : ℕ). 1 ≤ due n) e held in
        let b : bit (k.0 == row.uid) ≡ 1 = ap bit is in
        let h : bit (has_map_uid row.uid (k ∷ [])) ≡ 1 = ap (λ (t : Bool). bit (t || false)) is in
        omega (arith, a, more, b, h, some)
    by_test false is =
        let b : bit (k.0 == row.uid) ≡ 0 = ap bit is in
        let h : bit (has_map_uid row.uid (k ∷ [])) ≡ 0 = ap (λ (t : Bool). bit (t || false)) is in
        omega (arith, a, more, b, h)

same_due : (due leak : ℕ → ℕ) (logs later : List (List BoxEntry)) (row : MapRecord) → listed_of later row.uid ≡ listed_of logs row.uid → IsAccounted due leak logs row → IsAccounted due leak later row
same_due due leak logs later row same a = omega (arith, a, same)

removed_by_row : (due : ℕ → ℕ) (m : BoxMeaning) (u : Uid) (row : LogRow) → row_at m u.0 ≡ Some row → due_by_box m (entry.R u) due ≡ more_due 1 row.map_uid due
removed_by_row due m u row found = ap (λ (o : Option LogRow). option_map_or (λ (r : LogRow). more_due 1 r.map_uid due) o due) found

-- The counts of records are made up as before, with what the entry makes due.
pub accounted_by_box_entry : (number : ℕ) (e : BoxEntry) (boxes : List MapBox) (logs : List (List BoxEntry)) (m : BoxMeaning) (due leak : ℕ → ℕ) (rows : List MapRecord) → AllByRecursion AreBoxEntries logs
    → meaning_numbered number boxes (map box_meaning logs) ≡ Some m → BoxFits m e → HoldsAdded e due → All (IsAccounted due leak logs) rows → All (IsAccounted (due_by_box m e due) leak (logs_by number e boxes logs)) rows
accounted_by_box_entry number (entry.N n) boxes logs m due leak rows good at fits held all =
    All-weaker (IsAccounted due leak logs) (IsAccounted due leak (logs_by number (entry.N n) boxes logs)) (λ row a. same_due due leak logs (logs_by number (entry.N n) boxes logs) row (listed_next number n boxes logs row.uid) a) rows all
accounted_by_box_entry number (entry.F u f) boxes logs m due leak rows good at fits held all =
    All-weaker (IsAccounted due leak logs) (IsAccounted due leak (logs_by number (entry.F u f) boxes logs)) (λ row a. same_due due leak logs (logs_by number (entry.F u f) boxes logs) row (listed_flagged number u f boxes logs row.uid) a) rows all
accounted_by_box_entry number (entry.K u ws) boxes logs m due leak rows good at fits held all =
    All-weaker (IsAccounted due leak logs) (IsAccounted due leak (logs_by number (entry.K u ws) boxes logs)) (λ row a. same_due due leak logs (logs_by number (entry.K u ws) boxes logs) row (listed_worded number u ws boxes logs row.uid) a) rows all
accounted_by_box_entry number (entry.A u f t z k g ws) boxes logs m due leak rows good at fits held all =
    All-weaker (IsAccounted due leak logs) (IsAccounted (less_due (k ∷ []) due) leak (logs_by number (entry.A u f t z k g ws) boxes logs))
    (λ row a. added_due due leak logs (logs_by number (entry.A u f t z k g ws) boxes logs) row k (listed_added number u f t z k g ws boxes logs m row.uid at) held a) rows all
accounted_by_box_entry number (entry.R u) boxes logs m due leak rows good at fits held all =
    let listed : LogRow = fits.0 in
    subst (λ (d : ℕ → ℕ). All (IsAccounted d leak (logs_by number (entry.R u) boxes logs)) rows) (sym (removed_by_row due m u listed fits.1))
    (All-weaker (IsAccounted due leak logs) (IsAccounted (more_due 1 listed.map_uid due) leak (logs_by number (entry.R u) boxes logs))
    (λ row a. removed_due due leak logs (logs_by number (entry.R u) boxes logs) row listed.map_uid (listed_removed number u boxes logs m listed row.uid at (rows_rise number boxes logs m at good) fits.1) a) rows all)

-- ---- with an entry of the map log

raised_due : (due leak : ℕ → ℕ) (logs : List (List BoxEntry)) (k : MapUid) (row : MapRecord) → IsAccounted due leak logs row → IsAccounted (more_due 1 k.0 due) leak logs (record_changed (map_entry.U k) row)
raised_due due leak logs k row a = by_test (k.0 == row.uid) refl
  where
    by_test : (t : Bool) → (k.0 == row.uid) ≡ t → IsAccounted (more_due 1 k.0 due) leak logs (if t then record row { count = row.count + 1 } else row)
    by_test true is = let b : bit (k.0 == row.uid) ≡ 1 = ap bit is in omega (arith, a, b)
    by_test false is = let b : bit (k.0 == row.uid) ≡ 0 = ap bit is in omega (arith, a, b)

lowered_due : (due leak : ℕ → ℕ) (logs : List (List BoxEntry)) (uids : List MapUid) (row : MapRecord) → (has_map_uid row.uid uids ≡ true → 1 ≤ due row.uid) → IsAccounted due leak logs row → IsAccounted (less_due uids due) leak logs (record_changed (map_entry.D uids) row)
lowered_due due leak logs uids row some a = by_test (has_map_uid row.uid uids) refl
  where
    by_test : (t : Bool) → has_map_uid row.uid uids ≡ t → IsAccounted (less_due uids due) leak logs (if t then record row { count = row.count - 1 } else row)
    by_test true is = let s = some is in let b : bit (has_map_uid row.uid uids) ≡ 1 = ap bit is in omega (arith, a, b, s)
    by_test false is = let b : bit (has_map_uid row.uid uids) ≡ 0 = ap bit is in omega (arith, a, b)

counted_due : (due leak : ℕ → ℕ) (logs : List (List BoxEntry)) (counts : List MapCount) (row : MapRecord) → ((c : MapCount) → find (λ c. c.uid.0 == row.uid) counts ≡ Some c → c.count ≡ listed_of logs row.uid + due row.uid) → IsAccounted due leak logs row
    → IsAccounted due (leak_by (map_entry.T counts) leak) logs (record_changed (map_entry.T counts) row)
counted_due due leak logs counts row set a = by_found (find (λ (c : MapCount). c.uid.0 == row.uid) counts) refl
  where
    by_found : (o : Option MapCount) → find (λ c. c.uid.0 == row.uid) counts ≡ o → option_map_or (λ (c : MapCount). c.count) o row.count ≡ listed_of logs row.uid + due row.uid + option_map_or (λ (c : MapCount). 0) o (leak row.uid)
    by_found None is = a
    by_found (Some c) is = let s = set c is in omega (arith, s)

-- a map uid above the highest is listed nowhere
unlisted_row : (m : MapMeaning) (uid : ℕ) (row : LogRow) → IsSoundMap m → m.highest.map < uid → HasItsRecord m row → (row.map_uid == uid) ≡ false
unlisted_row m uid row s new h = no_test (row.map_uid == uid) (λ p.
    let o = found_one (λ (r : MapRecord). r.uid == row.map_uid) m.records h.0 h.1 in
    let sound : IsSoundRecord m.highest.map h.0 = All-contains (IsSoundRecord m.highest.map) m.records h.0 s.records o.0 in
    let below = sound.below in
    let e : h.0.uid ≡ row.map_uid = equal_is h.0.uid row.map_uid o.1 in
    let f : row.map_uid ≡ uid = equal_is row.map_uid uid p in
    absurd (omega (arith, below, e, f, new)))

unlisted_rows : (m : MapMeaning) (uid : ℕ) (rows : List LogRow) → IsSoundMap m → m.highest.map < uid → All (HasItsRecord m) rows → count_by (λ row. row.map_uid == uid) rows ≡ 0
unlisted_rows m uid [] s new h = refl
unlisted_rows m uid (row ∷ rows) s new h =
    let a = sum_by-cons (λ (row : LogRow). bit (row.map_uid == uid)) row rows in
    let b : bit (row.map_uid == uid) ≡ 0 = ap bit (unlisted_row m uid row s new (All-head (HasItsRecord m) row rows h)) in
    let c = unlisted_rows m uid rows s new (All-tail (HasItsRecord m) row rows h) in
    omega (arith, a, b, c)

pub unlisted_logs : (m : MapMeaning) (uid : ℕ) (logs : List (List BoxEntry)) → IsSoundMap m → m.highest.map < uid → AllByRecursion (λ log. All (HasItsRecord m) (rows_after log)) logs → listed_of logs uid ≡ 0
unlisted_logs m uid [] s new h = refl
unlisted_logs m uid (log ∷ logs) s new h =
    let a = sum_by-cons (λ (l : List BoxEntry). count_by (λ (row : LogRow). row.map_uid == uid) (rows_after l)) log logs in
    let b = unlisted_rows m uid (rows_after log) s new h.0 in
    let c = unlisted_logs m uid logs s new h.1 in
    omega (arith, a, b, c)

-- a record that stands before another is stored
stored_due : (m : MapMeaning) (due leak : ℕ → ℕ) (logs : List (List BoxEntry)) (n k : ℕ) (row : MapRecord) → m.highest.map < k → IsSoundRecord m.highest.map row → IsAccounted due leak logs row → IsAccounted (more_due n k due) leak logs row
stored_due m due leak logs n k row new sound a =
    let below = sound.below in
    let apart : (k == row.uid) ≡ false = no_test (k == row.uid) (λ p. let e = equal_is k row.uid p in absurd (omega (arith, below, new, e))) in
    let b : (if k == row.uid then n else 0) ≡ 0 = ap (λ (t : Bool). if t then n else 0) apart in
    omega (arith, a, b)

-- and that which is stored
new_due : (due leak : ℕ → ℕ) (logs : List (List BoxEntry)) (row : MapRecord) → listed_of logs row.uid ≡ 0 → due row.uid ≡ 0 → leak row.uid ≡ 0 → IsAccounted (more_due row.count row.uid due) leak logs row
new_due due leak logs row listed d l =
    let b : (if row.uid == row.uid then row.count else 0) ≡ row.count = ap (λ (t : Bool). if t then row.count else 0) (equal_yes row.uid row.uid refl) in
    omega (arith, listed, d, l, b)

made_logs : (logs : List (List BoxEntry)) (uid : ℕ) → listed_of (logs ++ [] ∷ []) uid ≡ listed_of logs uid
made_logs logs uid =
    let a = sum_by-append (λ (l : List BoxEntry). count_by (λ (row : LogRow). row.map_uid == uid) (rows_after l)) logs ([] ∷ []) in
    omega (arith, a)

-- no entry but `B` makes a log
no_logs : (logs : List (List BoxEntry)) → logs ++ [] ≡ logs
no_logs [] = refl
no_logs (log ∷ logs) = ap (λ (ls : List (List BoxEntry)). log ∷ ls) (no_logs logs)

-- the records that an entry leaves, and that which it makes
pub accounted_each : (m : MapMeaning) (e : MapEntry) (logs : List (List BoxEntry)) (due leak : ℕ → ℕ) → IsSoundMap m → AllByRecursion (λ log. All (HasItsRecord m) (rows_after log)) logs → OnlyAdds e → MapFits m e → MayChange e due leak logs
    → All (IsAccounted due leak logs) m.records → All (IsAccounted (due_by e due) (leak_by e leak) logs) (map (record_changed e) m.records ++ record_made e)
accounted_each m (map_entry.U k) logs due leak s have only fits may all =
    All-append (IsAccounted (more_due 1 k.0 due) leak logs) (map (record_changed (map_entry.U k)) m.records) []
    (all_map (IsAccounted due leak logs) (IsAccounted (more_due 1 k.0 due) leak logs) (record_changed (map_entry.U k)) (raised_due due leak logs k) m.records all) (All-nil (IsAccounted (more_due 1 k.0 due) leak logs))
accounted_each m (map_entry.D ks) logs due leak s have only fits may all =
    All-append (IsAccounted (less_due ks due) leak logs) (map (record_changed (map_entry.D ks)) m.records) []
    (all_map (IsAccounted due leak logs) (IsAccounted (less_due ks due) leak logs) (record_changed (map_entry.D ks)) (λ row a. lowered_due due leak logs ks row (may row.uid) a) m.records all) (All-nil (IsAccounted (less_due ks due) leak logs))
accounted_each m (map_entry.T cs) logs due leak s have only fits may all =
    All-append (IsAccounted due (leak_by (map_entry.T cs) leak) logs) (map (record_changed (map_entry.T cs)) m.records) []
    (all_map (IsAccounted due leak logs) (IsAccounted due (leak_by (map_entry.T cs) leak) logs) (record_changed (map_entry.T cs)) (λ row a. counted_due due leak logs cs row (may row.uid) a) m.records all)
    (All-nil (IsAccounted due (leak_by (map_entry.T cs) leak) logs))
accounted_each m (map_entry.H h) logs due leak s have only fits may all = unchanged m.records all
  where
    unchanged : (rows : List MapRecord) → All (IsAccounted due leak logs) rows → All (IsAccounted due leak logs) (map (λ row. row) rows ++ [])
    unchanged rows all = All-append (IsAccounted due leak logs) (map (λ row. row) rows) [] (all_map (IsAccounted due leak logs) (IsAccounted due leak logs) (λ row. row) (λ row a. a) rows all) (All-nil (IsAccounted due leak logs))
accounted_each m (map_entry.X k cs) logs due leak s have only fits may all = absurd only
accounted_each m (map_entry.V k n) logs due leak s have only fits may all = absurd only
accounted_each m (map_entry.E f) logs due leak s have only fits may all = unchanged m.records all
  where
    unchanged : (rows : List MapRecord) → All (IsAccounted due leak logs) rows → All (IsAccounted due leak logs) (map (λ row. row) rows ++ [])
    unchanged rows all = All-append (IsAccounted due leak logs) (map (λ row. row) rows) [] (all_map (IsAccounted due leak logs) (IsAccounted due leak logs) (λ row. row) (λ row a. a) rows all) (All-nil (IsAccounted due leak logs))
accounted_each m (map_entry.B k g n) logs due leak s have only fits may all = unchanged m.records all
  where
    unchanged : (rows : List MapRecord) → All (IsAccounted due leak logs) rows → All (IsAccounted due leak logs) (map (λ row. row) rows ++ [])
    unchanged rows all = All-append (IsAccounted due leak logs) (map (λ row. row) rows) [] (all_map (IsAccounted due leak logs) (IsAccounted due leak logs) (λ row. row) (λ row a. a) rows all) (All-nil (IsAccounted due leak logs))
accounted_each m (map_entry.S o c k f p z g is) logs due leak s have only fits may all =
    All-append (IsAccounted (more_due c k.0 due) leak logs) (map (λ row. row) m.records) (stored_row o c k f p z g is ∷ [])
    (all_map (λ row. IsSoundRecord m.highest.map row × IsAccounted due leak logs row) (IsAccounted (more_due c k.0 due) leak logs) (λ row. row) (λ row a. stored_due m due leak logs c k.0 row fits.uid_new a.0 a.1) m.records
    (λ i d lt. (s.records i d lt, all i d lt)))
    (All-cons (IsAccounted (more_due c k.0 due) leak logs) (stored_row o c k f p z g is) [] (new_due due leak logs (stored_row o c k f p z g is) (unlisted_logs m k.0 logs s fits.uid_new have) may.0 may.1) (All-nil (IsAccounted (more_due c k.0 due) leak logs)))
accounted_each m (map_entry.G k g) logs due leak s have only fits may all = absurd only
accounted_each m (map_entry.P f t ms us) logs due leak s have only fits may all = absurd only

-- the logs with those that the entry makes
pub listed_made : (e : MapEntry) (logs : List (List BoxEntry)) (uid : ℕ) → OnlyAdds e → listed_of (logs_made e logs) uid ≡ listed_of logs uid
listed_made (map_entry.U k) logs uid only = ap (λ (ls : List (List BoxEntry)). listed_of ls uid) (no_logs logs)
listed_made (map_entry.D ks) logs uid only = ap (λ (ls : List (List BoxEntry)). listed_of ls uid) (no_logs logs)
listed_made (map_entry.T cs) logs uid only = ap (λ (ls : List (List BoxEntry)). listed_of ls uid) (no_logs logs)
listed_made (map_entry.H h) logs uid only = ap (λ (ls : List (List BoxEntry)). listed_of ls uid) (no_logs logs)
listed_made (map_entry.X k cs) logs uid only = absurd only
listed_made (map_entry.V k n) logs uid only = absurd only
listed_made (map_entry.E f) logs uid only = ap (λ (ls : List (List BoxEntry)). listed_of ls uid) (no_logs logs)
listed_made (map_entry.S o c k f p z g is) logs uid only = ap (λ (ls : List (List BoxEntry)). listed_of ls uid) (no_logs logs)
listed_made (map_entry.B k g n) logs uid only = made_logs logs uid
listed_made (map_entry.G k g) logs uid only = absurd only
listed_made (map_entry.P f t ms us) logs uid only = absurd only

-- The counts of records are made up as before, with what the entry makes due, and what it lets leak.
pub accounted_by_map_entry : (store : List ℕ) (entries : List MapEntry) (e : MapEntry) (logs : List (List BoxEntry)) (due leak : ℕ → ℕ) → AreGoodLogs store entries logs → OnlyAdds e → MapFits (map_meaning store entries) e → MayChange e due leak logs
    → All (IsAccounted due leak logs) (map_meaning store entries).records → All (IsAccounted (due_by e due) (leak_by e leak) (logs_made e logs)) (map_meaning store (entries ++ e ∷ [])).records
accounted_by_map_entry store entries e logs due leak good only fits may all =
    let m : MapMeaning = map_meaning store entries in
    let sound : IsSoundMap m = map_sound store entries good.map_entries.1 good.map_entries.0 in
    subst (λ (rows : List MapRecord). All (IsAccounted (due_by e due) (leak_by e leak) (logs_made e logs)) rows) (sym (records_added store entries e only))
    (All-weaker (IsAccounted (due_by e due) (leak_by e leak) logs) (IsAccounted (due_by e due) (leak_by e leak) (logs_made e logs))
    (λ row a. same_due (due_by e due) (leak_by e leak) logs (logs_made e logs) row (listed_made e logs row.uid only) a) (map (record_changed e) m.records ++ record_made e)
    (accounted_each m e logs due leak sound good.records only fits may all))

-- What counts are made of is at least what is listed.
pub accounted_counted : (due leak : ℕ → ℕ) (logs : List (List BoxEntry)) (rows : List MapRecord) → All (IsAccounted due leak logs) rows → All (IsCounted logs) rows
accounted_counted due leak logs rows all = All-weaker (IsAccounted due leak logs) (IsCounted logs) (λ row a. omega (arith, a)) rows all

-- Counts that are set to what is listed and held anew: what was due of these records is so no more, and they leak nothing.
held_row : (due now leak : ℕ → ℕ) (logs : List (List BoxEntry)) (counts : List MapCount) (row : MapRecord) → ((c : MapCount) → find (λ c. c.uid.0 == row.uid) counts ≡ Some c → c.count ≡ listed_of logs row.uid + now row.uid)
    → (find (λ (c : MapCount). c.uid.0 == row.uid) counts ≡ None → now row.uid ≡ due row.uid) → IsAccounted due leak logs row → IsAccounted now (leak_by (map_entry.T counts) leak) logs (record_changed (map_entry.T counts) row)
held_row due now leak logs counts row set other a = by_found (find (λ (c : MapCount). c.uid.0 == row.uid) counts) refl
  where
    by_found : (o : Option MapCount) → find (λ c. c.uid.0 == row.uid) counts ≡ o → option_map_or (λ (c : MapCount). c.count) o row.count ≡ listed_of logs row.uid + now row.uid + option_map_or (λ (c : MapCount). 0) o (leak row.uid)
    by_found None is = let s = other is in omega (arith, a, s)
    by_found (Some c) is = let s = set c is in omega (arith, s)

pub held_by_counts : (store : List ℕ) (entries : List MapEntry) (counts : List MapCount) (logs : List (List BoxEntry)) (due now leak : ℕ → ℕ)
    → ((uid : ℕ) (c : MapCount) → find (λ c. c.uid.0 == uid) counts ≡ Some c → c.count ≡ listed_of logs uid + now uid) → ((uid : ℕ) → find (λ (c : MapCount). c.uid.0 == uid) counts ≡ None → now uid ≡ due uid)
    → All (IsAccounted due leak logs) (map_meaning store entries).records → All (IsAccounted now (leak_by (map_entry.T counts) leak) logs) (map_meaning store (entries ++ map_entry.T counts ∷ [])).records
held_by_counts store entries counts logs due now leak set other all =
    let m : MapMeaning = map_meaning store entries in
    subst (λ (rows : List MapRecord). All (IsAccounted now (leak_by (map_entry.T counts) leak) logs) rows) (sym (records_added store entries (map_entry.T counts) tt))
    (All-append (IsAccounted now (leak_by (map_entry.T counts) leak) logs) (map (record_changed (map_entry.T counts)) m.records) []
    (all_map (IsAccounted due leak logs) (IsAccounted now (leak_by (map_entry.T counts) leak) logs) (record_changed (map_entry.T counts)) (λ row a. held_row due now leak logs counts row (set row.uid) (other row.uid) a) m.records all)
    (All-nil (IsAccounted now (leak_by (map_entry.T counts) leak) logs)))

-- The same counts over other logs, where what is listed and what is due come to as much: a mailbox's log is switched, or made with entries.
pub accounted_switched : (due now leak : ℕ → ℕ) (logs later : List (List BoxEntry)) (rows : List MapRecord) → ((uid : ℕ) → listed_of later uid + now uid ≡ listed_of logs uid + due uid)
    → All (IsAccounted due leak logs) rows → All (IsAccounted now leak later) rows
accounted_switched due now leak logs later rows same all = All-weaker (IsAccounted due leak logs) (IsAccounted now leak later) (λ row a. let s = same row.uid in omega (arith, a, s)) rows all
