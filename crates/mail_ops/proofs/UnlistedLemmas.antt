-- Messages that no mailbox lists stay unlisted.
use Rattle.mail_ops.proofs.Common.{◌≡◌, ◌≤◌, ◌+◌, ◌==◌, ℕ, Bool, true, false, cond, not, List, [], ◌∷◌, ◌++◌, map, Some, None, refl, sym, ◌∙◌, ap, subst, arith, find, filter, count_by, bytes_eq, sum_by-cons, BoxEntry, MapUid, Uid, meanings_by, LogRow, BoxMeaning, row_at, row_changed, box_applied}
use Rattle.mail_ops.proofs.Common.{MapBox, meaning_numbered, refs_in}
use Rattle.std.proofs.lemmas.List.Sums.{sum_by-append}
use Rattle.mdbox_base.specs.declared.entries.BoxEntry.TheVariants as box_entry
use Rattle.mdbox_base.specs.declared.ids.Guid.{Guid}
use Rattle.model_meaning.proofs.AppliedLemmas.{rows_by_added, rows_by_flagged, rows_by_removed, rows_by_worded}

abbrev pub has_guid : List ℕ → LogRow → Bool
has_guid guid row = bytes_eq row.guid guid

counted : (guid : List ℕ) (r : LogRow) (rs : List LogRow) → count_by (has_guid guid) (r ∷ rs) ≡ cond (has_guid guid r) 1 0 + count_by (has_guid guid) rs
counted guid r rs = sum_by-cons (λ (x : LogRow). cond (has_guid guid x) 1 0) r rs

-- ---- an entry

-- it lists no more messages with this GUID
abbrev pub ListsNoMore : List ℕ → BoxEntry → Type 0
ListsNoMore guid e = (m : BoxMeaning) → count_by (has_guid guid) (box_applied e m).rows ≤ count_by (has_guid guid) m.rows

removed_count : (guid : List ℕ) (keep : LogRow → Bool) (rows : List LogRow) → count_by (has_guid guid) (filter keep rows) ≤ count_by (has_guid guid) rows
removed_count guid keep [] = omega arith
removed_count guid keep (r ∷ rs) = by_test (keep r) (removed_count guid keep rs)
  where
    by_test : (t : Bool) → count_by (has_guid guid) (filter keep rs) ≤ count_by (has_guid guid) rs → count_by (has_guid guid) (cond t (r ∷ filter keep rs) (filter keep rs)) ≤ count_by (has_guid guid) (r ∷ rs)
    by_test true rest = let a = counted guid r (filter keep rs) in let b = counted guid r rs in omega (arith, a, b, rest)
    by_test false rest = let b = counted guid r rs in omega (arith, b, rest)

pub removal_lists : (guid : List ℕ) (uid : Uid) → ListsNoMore guid (box_entry.R uid)
removal_lists guid uid m = subst (λ (rows : List LogRow). count_by (has_guid guid) rows ≤ count_by (has_guid guid) m.rows) (sym (rows_by_removed uid m.rows)) (removed_count guid (λ row. not (uid.0 == row.uid)) m.rows)

flag_count : (guid : List ℕ) (uid : Uid) (flags : ℕ) (rows : List LogRow) → count_by (has_guid guid) (map (row_changed (box_entry.F uid flags)) rows) ≡ count_by (has_guid guid) rows
flag_count guid uid flags [] = refl
flag_count guid uid flags (r ∷ rs) =
    counted guid (row_changed (box_entry.F uid flags) r) (map (row_changed (box_entry.F uid flags)) rs)
    ∙ (ap (λ (n : ℕ). cond (has_guid guid (row_changed (box_entry.F uid flags) r)) 1 0 + n) (flag_count guid uid flags rs)
    ∙ (ap (λ (g : List ℕ). cond (bytes_eq g guid) 1 0 + count_by (has_guid guid) rs) (same (uid.0 == r.uid)) ∙ sym (counted guid r rs)))
  where
    same : (t : Bool) → (cond t (record r { flags = flags }) r).guid ≡ r.guid
    same true = refl
    same false = refl

pub flag_lists : (guid : List ℕ) (uid : Uid) (flags : ℕ) → ListsNoMore guid (box_entry.F uid flags)
flag_lists guid uid flags m = let e = ap (λ (rows : List LogRow). count_by (has_guid guid) rows) (rows_by_flagged uid flags m.rows) ∙ flag_count guid uid flags m.rows in omega (arith, e)

words_count : (guid : List ℕ) (uid : Uid) (words : List (List ℕ)) (rows : List LogRow) → count_by (has_guid guid) (map (row_changed (box_entry.K uid words)) rows) ≡ count_by (has_guid guid) rows
words_count guid uid words [] = refl
words_count guid uid words (r ∷ rs) =
    counted guid (row_changed (box_entry.K uid words) r) (map (row_changed (box_entry.K uid words)) rs)
    ∙ (ap (λ (n : ℕ). cond (has_guid guid (row_changed (box_entry.K uid words) r)) 1 0 + n) (words_count guid uid words rs)
    ∙ (ap (λ (g : List ℕ). cond (bytes_eq g guid) 1 0 + count_by (has_guid guid) rs) (same (uid.0 == r.uid)) ∙ sym (counted guid r rs)))
  where
    same : (t : Bool) → (cond t (record r { words = words }) r).guid ≡ r.guid
    same true = refl
    same false = refl

pub words_list : (guid : List ℕ) (uid : Uid) (words : List (List ℕ)) → ListsNoMore guid (box_entry.K uid words)
words_list guid uid words m = let e = ap (λ (rows : List LogRow). count_by (has_guid guid) rows) (rows_by_worded uid words m.rows) ∙ words_count guid uid words m.rows in omega (arith, e)

pub addition_lists : (guid : List ℕ) (uid : Uid) (flags time size : ℕ) (map_uid : MapUid) (given : Guid) (words : List (List ℕ)) → bytes_eq given.0 guid ≡ false → ListsNoMore guid (box_entry.A uid flags time size map_uid given words)
addition_lists guid uid flags time size map_uid given words other m =
    let new : LogRow = record { uid = uid.0; flags = flags; time = time; size = size; map_uid = map_uid.0; guid = given.0; words = words } in
    let a : count_by (has_guid guid) (box_applied (box_entry.A uid flags time size map_uid given words) m).rows ≡ count_by (has_guid guid) (m.rows ++ new ∷ []) = ap (λ (rows : List LogRow). count_by (has_guid guid) rows) (rows_by_added uid flags time size map_uid given words m.rows) in
    let b : count_by (has_guid guid) (m.rows ++ new ∷ []) ≡ count_by (has_guid guid) m.rows + count_by (has_guid guid) (new ∷ []) = sum_by-append (λ (x : LogRow). cond (has_guid guid x) 1 0) m.rows (new ∷ []) in
    let c : count_by (has_guid guid) (new ∷ []) ≡ 0 = counted guid new [] ∙ ap (λ (t : Bool). cond t 1 0 + count_by (has_guid guid) []) other in
    omega (arith, a, b, c)

-- ---- all mailboxes

refs_more : (guid : List ℕ) (m : BoxMeaning) (ms : List BoxMeaning) → refs_in (m ∷ ms) guid ≡ count_by (has_guid guid) m.rows + refs_in ms guid
refs_more guid m ms = sum_by-cons (λ (x : BoxMeaning). count_by (has_guid guid) x.rows) m ms

pub entry_refs : (guid : List ℕ) (number : ℕ) (e : BoxEntry) (boxes : List MapBox) (meanings : List BoxMeaning) → ListsNoMore guid e → refs_in (meanings_by number e boxes meanings) guid ≤ refs_in meanings guid
entry_refs guid number e [] [] fewer = omega arith
entry_refs guid number e [] (m ∷ ms) fewer = omega arith
entry_refs guid number e (b ∷ bs) [] fewer = omega arith
entry_refs guid number e (b ∷ bs) (m ∷ ms) fewer = by_test (b.number == number) (entry_refs guid number e bs ms fewer)
  where
    by_test : (t : Bool) → refs_in (meanings_by number e bs ms) guid ≤ refs_in ms guid → refs_in (cond t (box_applied e m ∷ ms) (m ∷ meanings_by number e bs ms)) guid ≤ refs_in (m ∷ ms) guid
    by_test true rest = let a = refs_more guid (box_applied e m) ms in let c = refs_more guid m ms in let f = fewer m in omega (arith, a, c, f)
    by_test false rest = let a = refs_more guid m (meanings_by number e bs ms) in let c = refs_more guid m ms in omega (arith, a, c, rest)

-- ---- a message that is listed

row_counts : (guid : List ℕ) (uid : ℕ) (rows : List LogRow) (row : LogRow) → find (λ r. r.uid == uid) rows ≡ Some row → has_guid guid row ≡ true → 1 ≤ count_by (has_guid guid) rows
row_counts guid uid [] row there same = absurd (let k : None ≡ Some row = there in cc k)
row_counts guid uid (r ∷ rs) row there same = by_test (r.uid == uid) there (λ t. row_counts guid uid rs row t same)
  where
    by_test : (t : Bool) → cond t (Some r) (find (λ x. x.uid == uid) rs) ≡ Some row → (find (λ x. x.uid == uid) rs ≡ Some row → 1 ≤ count_by (has_guid guid) rs) → 1 ≤ count_by (has_guid guid) (r ∷ rs)
    by_test true t rest =
        let k : r ≡ row = cc t in
        let a : count_by (has_guid guid) (r ∷ rs) ≡ 1 + count_by (has_guid guid) rs = counted guid r rs ∙ ap (λ (b : Bool). cond b 1 0 + count_by (has_guid guid) rs) (ap (has_guid guid) k ∙ same) in
        omega (arith, a)
    by_test false t rest = let a = counted guid r rs in let b = rest t in omega (arith, a, b)

pub listed_counts : (guid : List ℕ) (number uid : ℕ) (boxes : List MapBox) (meanings : List BoxMeaning) (m : BoxMeaning) (row : LogRow) → meaning_numbered number boxes meanings ≡ Some m → row_at m uid ≡ Some row → has_guid guid row ≡ true → 1 ≤ refs_in meanings guid
listed_counts guid number uid (b ∷ bs) (x ∷ xs) m row numbered there same = by_test (b.number == number) numbered (λ n. listed_counts guid number uid bs xs m row n there same)
  where
    by_test : (t : Bool) → cond t (Some x) (meaning_numbered number bs xs) ≡ Some m → (meaning_numbered number bs xs ≡ Some m → 1 ≤ refs_in xs guid) → 1 ≤ refs_in (x ∷ xs) guid
    by_test true n rest =
        let k : x ≡ m = cc n in
        let c = row_counts guid uid x.rows row (subst (λ (y : BoxMeaning). row_at y uid ≡ Some row) (sym k) there) same in
        let a = refs_more guid x xs in omega (arith, a, c)
    by_test false n rest = let a = refs_more guid x xs in let c = rest n in omega (arith, a, c)
listed_counts guid number uid boxes meanings m row numbered there same = absurd (let k : None ≡ Some m = numbered in cc k)
