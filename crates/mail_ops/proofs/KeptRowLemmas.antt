-- The rows that an entry leaves of those that a mailbox lists: each had the record that it has.
use Rattle.mail_ops.proofs.Common.{◌≡◌, ◌<◌, ◌==◌, ℕ, Bool, true, false, cond, not, List, [], ◌∷◌, map, Option, Some, None, refl, sym, ◌∙◌, ap, arith, common_steps, nat_tests, find, filter, option_or, eqb-true, ne_eqb, BoxEntry, MapUid, Uid, LogRow, BoxMeaning, row_at, row_changed, box_applied}
use Rattle.std.proofs.lemmas.List.Folds.{find-append}
use Rattle.mdbox_base.specs.declared.entries.BoxEntry.TheVariants as entry
use Rattle.mdbox_base.specs.declared.ids.Guid.{Guid}
use Rattle.model_meaning.proofs.AppliedLemmas.{rows_by_added, rows_by_flagged, rows_by_removed, rows_by_worded}

-- the row that was found before, of one that is found behind the entry
abbrev pub WasListed : List LogRow → ℕ → LogRow → Type 0
WasListed rows uid row = (was : LogRow) × (find (λ r. r.uid == uid) rows ≡ Some was) × (was.map_uid ≡ row.map_uid)

-- behind an entry, each message with a UID below the next one was listed, and by the same record
abbrev pub KeepsRows : BoxEntry → BoxMeaning → Type 0
KeepsRows e m = (uid : ℕ) (row : LogRow) → uid < m.next → row_at (box_applied e m) uid ≡ Some row → WasListed m.rows uid row

found_same : (rows : List LogRow) (uid : ℕ) (row : LogRow) → find (λ r. r.uid == uid) rows ≡ Some row → WasListed rows uid row
found_same rows uid row there = (row, there, refl)

nothing_found : {X : Type 0} (x : X) → None ≡ Some x → ⊥
nothing_found x e = cc e

-- ---- a message is removed

-- what a filter leaves to a search whose items all pass it, or all don't
find_filtered : {X : Type 0} → (p q : X → Bool) (b : Bool) → ((x : X) → p x ≡ true → q x ≡ b) → (xs : List X) → find p (filter q xs) ≡ cond b (find p xs) None
find_filtered p q true same [] = refl
find_filtered p q false same [] = refl
find_filtered p q b same (x ∷ xs) = by_tests b (p x) refl (q x) refl (same x) (find_filtered p q b same xs)
  where
    kept : (b s : Bool) → p x ≡ s → (s ≡ true → true ≡ b) → find p (filter q xs) ≡ cond b (find p xs) None → cond s (Some x) (find p (filter q xs)) ≡ cond b (cond s (Some x) (find p xs)) None
    kept true true e t rest = refl
    kept false true e t rest = absurd (let k : true ≡ false = t refl in cc k)
    kept true false e t rest = rest
    kept false false e t rest = rest

    dropped : (b s : Bool) → p x ≡ s → (s ≡ true → false ≡ b) → find p (filter q xs) ≡ cond b (find p xs) None → find p (filter q xs) ≡ cond b (cond s (Some x) (find p xs)) None
    dropped true true e t rest = absurd (let k : false ≡ true = t refl in cc k)
    dropped false true e t rest = rest
    dropped true false e t rest = rest
    dropped false false e t rest = rest

    by_tests : (b s : Bool) → p x ≡ s → (t : Bool) → q x ≡ t → (p x ≡ true → q x ≡ b) → find p (filter q xs) ≡ cond b (find p xs) None → find p (cond t (x ∷ filter q xs) (filter q xs)) ≡ cond b (cond s (Some x) (find p xs)) None
    by_tests b s e true is same rest = ap (λ (c : Bool). cond c (Some x) (find p (filter q xs))) e ∙ kept b s e (λ k. sym is ∙ same (e ∙ k)) rest
    by_tests b s e false is same rest = dropped b s e (λ k. sym is ∙ same (e ∙ k)) rest

found_before_filter : (b : Bool) (found : Option LogRow) (row : LogRow) → cond b found None ≡ Some row → found ≡ Some row
found_before_filter b found row there = grind (arith, common_steps, nat_tests)

pub removal_keeps : (uid : Uid) (m : BoxMeaning) → KeepsRows (entry.R uid) m
removal_keeps gone m uid row below there = found_same m.rows uid row (found_before_filter (not (gone.0 == uid)) (find (λ r. r.uid == uid) m.rows) row (sym (ap (find (λ r. r.uid == uid)) (rows_by_removed gone m.rows) ∙ filtered) ∙ there))
  where
    filtered : find (λ r. r.uid == uid) (filter (λ r. not (gone.0 == r.uid)) m.rows) ≡ cond (not (gone.0 == uid)) (find (λ r. r.uid == uid) m.rows) None
    filtered = find_filtered (λ r. r.uid == uid) (λ r. not (gone.0 == r.uid)) (not (gone.0 == uid)) (λ r e. ap (λ (u : ℕ). not (gone.0 == u)) (eqb-true r.uid uid e)) m.rows

-- ---- its flags change

flagged_row : (was row : LogRow) (flags : ℕ) → Some (record was { flags = flags }) ≡ Some row → was.map_uid ≡ row.map_uid
flagged_row was row flags e = let k : record was { flags = flags } ≡ row = cc e in ap (λ (r : LogRow). r.map_uid) k

same_row : (was row : LogRow) → Some was ≡ Some row → was.map_uid ≡ row.map_uid
same_row was row e = let k : was ≡ row = cc e in ap (λ (r : LogRow). r.map_uid) k

found_flagged : (u : Uid) (flags uid : ℕ) (rows : List LogRow) (row : LogRow) → find (λ r. r.uid == uid) (map (row_changed (entry.F u flags)) rows) ≡ Some row → WasListed rows uid row
found_flagged u flags uid [] row there = absurd (nothing_found row there)
found_flagged u flags uid (r ∷ rs) row there = by_flag (u.0 == r.uid) there (λ k. found_flagged u flags uid rs row k)
  where
    later : Option LogRow
    later = find (λ x. x.uid == uid) (map (row_changed (entry.F u flags)) rs)

    by_uid : (s : Bool) (now : LogRow) → (Some now ≡ Some row → r.map_uid ≡ row.map_uid) → cond s (Some now) later ≡ Some row → (later ≡ Some row → WasListed rs uid row) → (was : LogRow) × (cond s (Some r) (find (λ x. x.uid == uid) rs) ≡ Some was) × (was.map_uid ≡ row.map_uid)
    by_uid true now same k rest = (r, refl, same k)
    by_uid false now same k rest = rest k

    by_flag : (t : Bool) → find (λ x. x.uid == uid) (cond t (record r { flags = flags }) r ∷ map (row_changed (entry.F u flags)) rs) ≡ Some row → (later ≡ Some row → WasListed rs uid row) → WasListed (r ∷ rs) uid row
    by_flag true k rest = by_uid (r.uid == uid) (record r { flags = flags }) (flagged_row r row flags) k rest
    by_flag false k rest = by_uid (r.uid == uid) r (same_row r row) k rest

pub flagging_keeps : (u : Uid) (flags : ℕ) (m : BoxMeaning) → KeepsRows (entry.F u flags) m
flagging_keeps u flags m uid row below there = found_flagged u flags uid m.rows row (sym (ap (find (λ r. r.uid == uid)) (rows_by_flagged u flags m.rows)) ∙ there)

-- ---- its keywords change

worded_row : (was row : LogRow) (words : List (List ℕ)) → Some (record was { words = words }) ≡ Some row → was.map_uid ≡ row.map_uid
worded_row was row words e = let k : record was { words = words } ≡ row = cc e in ap (λ (r : LogRow). r.map_uid) k

found_worded : (u : Uid) (words : List (List ℕ)) (uid : ℕ) (rows : List LogRow) (row : LogRow) → find (λ r. r.uid == uid) (map (row_changed (entry.K u words)) rows) ≡ Some row → WasListed rows uid row
found_worded u words uid [] row there = absurd (nothing_found row there)
found_worded u words uid (r ∷ rs) row there = by_words (u.0 == r.uid) there (λ k. found_worded u words uid rs row k)
  where
    later : Option LogRow
    later = find (λ x. x.uid == uid) (map (row_changed (entry.K u words)) rs)

    by_uid : (s : Bool) (now : LogRow) → (Some now ≡ Some row → r.map_uid ≡ row.map_uid) → cond s (Some now) later ≡ Some row → (later ≡ Some row → WasListed rs uid row) → (was : LogRow) × (cond s (Some r) (find (λ x. x.uid == uid) rs) ≡ Some was) × (was.map_uid ≡ row.map_uid)
    by_uid true now same k rest = (r, refl, same k)
    by_uid false now same k rest = rest k

    by_words : (t : Bool) → find (λ x. x.uid == uid) (cond t (record r { words = words }) r ∷ map (row_changed (entry.K u words)) rs) ≡ Some row → (later ≡ Some row → WasListed rs uid row) → WasListed (r ∷ rs) uid row
    by_words true k rest = by_uid (r.uid == uid) (record r { words = words }) (worded_row r row words) k rest
    by_words false k rest = by_uid (r.uid == uid) r (same_row r row) k rest

pub wording_keeps : (u : Uid) (words : List (List ℕ)) (m : BoxMeaning) → KeepsRows (entry.K u words) m
wording_keeps u words m uid row below there = found_worded u words uid m.rows row (sym (ap (find (λ r. r.uid == uid)) (rows_by_worded u words m.rows)) ∙ there)

-- ---- a message is added

none_behind : (t : Bool) (found : Option LogRow) (new row : LogRow) → t ≡ false → option_or found (cond t (Some new) None) ≡ Some row → found ≡ Some row
none_behind t found new row e there = grind (arith, common_steps, nat_tests)

-- it gets the next UID
pub addition_keeps : (given : Uid) (flags time size : ℕ) (map_uid : MapUid) (guid : Guid) (words : List (List ℕ)) (m : BoxMeaning) → given.0 ≡ m.next → KeepsRows (entry.A given flags time size map_uid guid words) m
addition_keeps given flags time size map_uid guid words m next uid row below there =
    found_same m.rows uid row (none_behind (given.0 == uid) (find (λ r. r.uid == uid) m.rows) new row (ne_eqb given.0 uid (λ e. omega (arith, e, next, below))) (sym (ap (find (λ r. r.uid == uid)) (rows_by_added given flags time size map_uid guid words m.rows) ∙ find-append (λ r. r.uid == uid) m.rows (new ∷ [])) ∙ there))
  where
    new : LogRow
    new = record { uid = given.0; flags = flags; time = time; size = size; map_uid = map_uid.0; guid = guid.0; words = words }
