-- A mailbox that leaves the map: what is shown then, and how often it lists each record.
use Rattle.mail_ops.proofs.Common.{◌≡◌, ◌==◌, ◌+◌, ◌||◌, ℕ, Bool, true, false, not, cond, List, [], ◌∷◌, map, filter, Option, Some, None, refl, sym, ◌∙◌, ap, subst, arith, All, count_by, bytes_eq, eq-eqb, eqb-true, sum_by-cons, History, Faults, BoxNo, ListRow, ListedMessage, Lists, listing_row, LogRow, BoxMeaning, box_meaning}
use Rattle.mail_ops.proofs.Common.{MapBox, MapRecord, MapMeaning, map_meaning, record_at, record_of, listed_row, ShowLists, meaning_named, option_map_or, Run, HasComeTo, refs_in, IsStore, StoreValue, indexes_of, OpenBox, seen_of}
use Rattle.std.specs.Prelude.{Contains}
use Rattle.std.specs.List.{AllByRecursion, list_any}
use Rattle.std.proofs.lemmas.List.Elements.{All-head, All-tail}
use Rattle.mdbox_base.specs.declared.entries.MapCount.{MapCount}
use Rattle.mdbox_base.specs.declared.entries.BoxEntry.{BoxEntry}
use Rattle.mdbox_base.specs.declared.entries.MapEntry.TheVariants as map_entry
use Rattle.journal.specs.Events.{AreListings}
use Rattle.model_appends.specs.MapAppending.{NamesListed, beside_without}
use Rattle.model_meaning.specs.BoxMeaning.{rows_after}
use Rattle.model_meaning.specs.Sound.{IsSoundMap}
use Rattle.model_octets.proofs.SearchLemmas.{both_same, found_is, found_one, text_is, text_yes}
use Rattle.model_store.specs.Opening.{HasItsRecord}
use Rattle.model_store.proofs.OpeningSafeLemmas.{at_uid}
use Rattle.store_core.specs.Deleting.{lists_without}
use Rattle.store_core.specs.MadeLogs.{without_box}
use Rattle.mail_ops.specs.Messages.{IsBoxOf}
use Rattle.mail_ops.proofs.ChangeCheckLemmas.{ShownMailbox}
use Rattle.mail_ops.proofs.MessageLemmas.{store_is_sound}

-- ---- what is shown

-- one of the mailboxes that are shown leaves
pub shows_without : (n : ℕ) (boxes : List MapBox) (meanings : List BoxMeaning) (lists : Lists) → ShowLists boxes meanings lists → ShowLists (filter (λ box. not (n == box.number)) boxes) (beside_without n boxes meanings) (lists_without n lists)
shows_without n [] [] [] h = tt
shows_without n (b ∷ bs) (m ∷ ms) (l ∷ ls) h = by_test (n == b.number) (n == l.number) (ap (λ (k : ℕ). n == k) (sym h.0.number)) (shows_without n bs ms ls h.1)
  where
    by_test : (t s : Bool) → t ≡ s → ShowLists (filter (λ (o : MapBox). not (n == o.number)) bs) (beside_without n bs ms) (lists_without n ls)
        → ShowLists (cond (not t) (b ∷ filter (λ (o : MapBox). not (n == o.number)) bs) (filter (λ (o : MapBox). not (n == o.number)) bs)) (cond t (beside_without n bs ms) (m ∷ beside_without n bs ms)) (cond (not s) (l ∷ lists_without n ls) (lists_without n ls))
    by_test true true p rest = rest
    by_test false false p rest = (h.0, rest)
    by_test true false p rest = absurd (cc p)
    by_test false true p rest = absurd (cc p)
shows_without n boxes meanings lists h = absurd h

-- ---- logs that were made

-- none is removed where none has the number
pub without_none : (n : ℕ) (logs : List OpenBox) → list_any (λ o. o.number.0 == n) logs ≡ false → without_box n logs ≡ logs
without_none n [] none = refl
without_none n (o ∷ os) none = by_test (o.number.0 == n) none (without_none n os)
  where
    by_test : (t : Bool) → (t || list_any (λ (x : OpenBox). x.number.0 == n) os) ≡ false → (list_any (λ (x : OpenBox). x.number.0 == n) os ≡ false → without_box n os ≡ os) → cond (not t) (o ∷ without_box n os) (without_box n os) ≡ o ∷ os
    by_test true e rest = absurd (let k : true ≡ false = e in cc k)
    by_test false e rest = ap (λ (xs : List OpenBox). o ∷ xs) (rest e)

-- ---- references

-- a record that no mailbox lists is listed by none of the others
pub refs_without : (n : ℕ) (boxes : List MapBox) (meanings : List BoxMeaning) (guid : List ℕ) → refs_in meanings guid ≡ 0 → refs_in (beside_without n boxes meanings) guid ≡ 0
refs_without n [] meanings guid none = refl
refs_without n (b ∷ bs) [] guid none = refl
refs_without n (b ∷ bs) (m ∷ ms) guid none = by_test (n == b.number) (refs_without n bs ms guid (omega (arith, none, both)))
  where
    own : BoxMeaning → ℕ
    own x = count_by (λ (row : LogRow). bytes_eq row.guid guid) x.rows

    both : refs_in (m ∷ ms) guid ≡ own m + refs_in ms guid
    both = sum_by-cons (λ (x : BoxMeaning). count_by (λ (row : LogRow). bytes_eq row.guid guid) x.rows) m ms

    by_test : (t : Bool) → refs_in (beside_without n bs ms) guid ≡ 0 → refs_in (cond t (beside_without n bs ms) (m ∷ beside_without n bs ms)) guid ≡ 0
    by_test true rest = rest
    by_test false rest =
        let more : refs_in (m ∷ beside_without n bs ms) guid ≡ own m + refs_in (beside_without n bs ms) guid = sum_by-cons (λ (x : BoxMeaning). count_by (λ (row : LogRow). bytes_eq row.guid guid) x.rows) m (beside_without n bs ms) in
        omega (arith, none, both, more, rest)

-- ---- how often it lists a record

same_some : (o : Option MapRecord) (a b : MapRecord) → o ≡ Some a → o ≡ Some b → a ≡ b
same_some o a b p q = let h : Some a ≡ Some b = sym p ∙ q in cc h

of_guid : (m : MapMeaning) (row : MapRecord) (guid : List ℕ) → IsSoundMap m → Contains m.records row → row.guid ≡ guid → record_of m guid ≡ Some row
of_guid m row guid s c e =
    found_is (λ (r : MapRecord). bytes_eq r.guid guid) m.records row c (text_yes row.guid guid e)
    (λ i j d lt le p q. s.guids i j d lt le (text_is _ guid p ∙ sym (text_is _ guid q)))

-- a row of its log has a record's GUID if and only if it has its map uid
pair_is : (m : MapMeaning) (row : LogRow) (r : MapRecord) → IsSoundMap m → Contains m.records r → HasItsRecord m row → bytes_eq row.guid r.guid ≡ (row.map_uid == r.uid)
pair_is m row r s c (own, found, same) =
    let f = found_one (λ (o : MapRecord). o.uid == row.map_uid) m.records own found in
    let uid : own.uid ≡ row.map_uid = eqb-true own.uid row.map_uid f.1 in
    both_same (bytes_eq row.guid r.guid) (row.map_uid == r.uid)
    (λ p.
    let e : own ≡ r = same_some (record_of m r.guid) own r (of_guid m own r.guid s f.0 (same ∙ text_is row.guid r.guid p)) (of_guid m r r.guid s c refl) in
    eq-eqb row.map_uid r.uid (sym uid ∙ ap (λ (o : MapRecord). o.uid) e))
    (λ p.
    let e : own ≡ r = same_some (record_at m r.uid) own r (subst (λ (u : ℕ). record_at m u ≡ Some own) (eqb-true row.map_uid r.uid p) found) (at_uid m r s c) in
    text_yes row.guid r.guid (sym same ∙ ap (λ (o : MapRecord). o.guid) e))

abbrev one_for : Bool → ℕ
one_for b = cond b 1 0

rows_listed : (m : MapMeaning) (rows : List LogRow) (r : MapRecord) → IsSoundMap m → Contains m.records r → All (HasItsRecord m) rows → count_by (λ row. bytes_eq row.guid r.guid) rows ≡ count_by (λ row. row.map_uid == r.uid) rows
rows_listed m [] r s c h = refl
rows_listed m (row ∷ rows) r s c h =
    let here = ap one_for (pair_is m row r s c (All-head (HasItsRecord m) row rows h)) in
    let rest = rows_listed m rows r s c (All-tail (HasItsRecord m) row rows h) in
    let a = sum_by-cons (λ (o : LogRow). one_for (bytes_eq o.guid r.guid)) row rows in
    let b = sum_by-cons (λ (o : LogRow). one_for (o.map_uid == r.uid)) row rows in
    omega (arith, here, rest, a, b)

-- as many rows have a GUID as messages
rows_of_guid : (guid : List ℕ) (rows : List LogRow) (messages : List ListedMessage) → map listed_row rows ≡ map listing_row messages → count_by (λ row. bytes_eq row.guid guid) rows ≡ count_by (λ x. bytes_eq x.guid guid) messages
rows_of_guid guid [] [] e = refl
rows_of_guid guid [] (x ∷ xs) e = absurd (let h : [] ≡ listing_row x ∷ map listing_row xs = e in cc)
rows_of_guid guid (r ∷ rs) [] e = absurd (let h : listed_row r ∷ map listed_row rs ≡ [] = e in cc)
rows_of_guid guid (r ∷ rs) (x ∷ xs) e =
    let h : listed_row r ∷ map listed_row rs ≡ listing_row x ∷ map listing_row xs = e in
    let first : listed_row r ≡ listing_row x = cc in
    let rest : map listed_row rs ≡ map listing_row xs = cc in
    let same : r.guid ≡ x.guid = ap (λ (o : ListRow). o.guid.0) first in
    sum_by-cons (λ (o : LogRow). cond (bytes_eq o.guid guid) 1 0) r rs
    ∙ ap (λ (g : List ℕ). cond (bytes_eq g guid) 1 0 + count_by (λ (o : LogRow). bytes_eq o.guid guid) rs) same
    ∙ ap (λ (n : ℕ). cond (bytes_eq x.guid guid) 1 0 + n) (rows_of_guid guid rs xs rest)
    ∙ sym (sum_by-cons (λ (o : ListedMessage). cond (bytes_eq o.guid guid) 1 0) x xs)

-- each row of a log has its record
rows_have_records : (m : MapMeaning) (name : List ℕ) (boxes : List MapBox) (logs : List (List BoxEntry)) (b : BoxMeaning) → AllByRecursion (λ log. All (HasItsRecord m) (rows_after log)) logs → meaning_named name boxes (map box_meaning logs) ≡ Some b → All (HasItsRecord m) b.rows
rows_have_records m name (x ∷ xs) (log ∷ logs) b each is = by_test (bytes_eq x.name name) is (rows_have_records m name xs logs b each.1)
  where
    by_test : (t : Bool) → cond t (Some (box_meaning log)) (meaning_named name xs (map box_meaning logs)) ≡ Some b → (meaning_named name xs (map box_meaning logs) ≡ Some b → All (HasItsRecord m) b.rows) → All (HasItsRecord m) b.rows
    by_test true e rest = let same : box_meaning log ≡ b = cc e in subst (λ (k : BoxMeaning). All (HasItsRecord m) k.rows) same each.0
    by_test false e rest = rest e
rows_have_records m name boxes logs b each is = absurd (let k : None ≡ Some b = is in cc k)

box_rows : {D : Type 0} → (history : Option History) (store : StoreValue D) (name : List ℕ) (number : ℕ) (m : BoxMeaning) → IsStore history store → IsBoxOf name store number m → All (HasItsRecord store.map) m.rows
box_rows history store name number m s b =
    subst (λ (mm : MapMeaning). All (HasItsRecord mm) m.rows) (sym s.map_is)
    (rows_have_records (map_meaning store.map.store s.entries) name store.map.boxes s.logs m s.good.records (sym (ap (λ (ms : List BoxMeaning). meaning_named name store.map.boxes ms) s.boxes_are) ∙ b.named))

-- the counts fall by as much as it lists of each record
pub listings_are : {D : Type 0} → (pins : ℕ → ℕ) (run : Run) (name : List ℕ) (number : BoxNo) (amounts : List MapCount) (store : StoreValue D) (history : Option History) (faults : Faults) (m : BoxMeaning) (lists : Lists) → IsStore history store → HasComeTo run (seen_of pins store history faults) → IsBoxOf name store number.0 m
    → (x : ShownMailbox name number.0 lists m) → NamesListed (map_entry.X number amounts) store.map.boxes (indexes_of store.boxes) → AreListings run x.shown.mailbox amounts
listings_are pins run name number amounts store history faults m lists s come b x listed row there =
    let c : Contains store.map.records row = subst (λ (k : MapMeaning). Contains k.records row) come.come.map_is there in
    listed row.uid
    ∙ (ap (λ (o : Option BoxMeaning). option_map_or (λ k. count_by (λ r. r.map_uid == row.uid) k.rows) o 0) b.numbered
    ∙ (sym (rows_listed store.map m.rows row (store_is_sound history store s) c (box_rows history store name number.0 m s b)) ∙ rows_of_guid row.guid m.rows x.shown.mailbox.messages x.shown.rows))
