-- What the source of a message that is added to a mailbox lists with its UID: an entry leaves no other message there.
use Rattle.mail_ops.proofs.Common.{◌≡◌, ◌≤◌, ◌<◌, ◌==◌, ℕ, Bool, true, false, cond, List, [], ◌∷◌, Option, Some, refl, sym, ◌∙◌, ap, subst, arith, option_map, eqb-true, History, Faults, BoxEntry, MapEntry, BoxNo, MapUid, Uid, meanings_by, LogRow, BoxMeaning, row_at, box_applied, MapBox, MapMeaning}
use Rattle.mail_ops.proofs.Common.{map_applied, meaning_numbered, KeepsUid, KeepsUids, StoreValue, indexes_of, MapTook, AddsRow, RaisesRow, added_copy, raising_of, BoxTook}
use Rattle.std.specs.Prelude.{max}
use Rattle.std.specs.Option.{IfSome}
use Rattle.mdbox_base.specs.declared.entries.BoxEntry.TheVariants as box_entry
use Rattle.model_meaning.specs.MapMeaning.{numbers_of}
use Rattle.store_core.specs.Value.{list_numbered}
use Rattle.mail_ops.proofs.KeptRowLemmas.{KeepsRows, WasListed, addition_keeps, flagging_keeps, removal_keeps, wording_keeps}

-- ---- by number

-- what the log of a mailbox means, with an entry more in its own log, or in that of another
own_more : (number : ℕ) (e : BoxEntry) (boxes : List MapBox) (meanings : List BoxMeaning) → meaning_numbered number boxes (meanings_by number e boxes meanings) ≡ option_map (box_applied e) (meaning_numbered number boxes meanings)
own_more number e [] meanings = refl
own_more number e (b ∷ bs) [] = refl
own_more number e (b ∷ bs) (x ∷ xs) = by_test (b.number == number) refl (own_more number e bs xs)
  where
    by_test : (t : Bool) → (b.number == number) ≡ t → meaning_numbered number bs (meanings_by number e bs xs) ≡ option_map (box_applied e) (meaning_numbered number bs xs)
        → meaning_numbered number (b ∷ bs) (cond t (box_applied e x ∷ xs) (x ∷ meanings_by number e bs xs)) ≡ option_map (box_applied e) (cond t (Some x) (meaning_numbered number bs xs))
    by_test true is rest = rw is refl
    by_test false is rest = rw is rest

other_more : (number other : ℕ) (e : BoxEntry) (boxes : List MapBox) (meanings : List BoxMeaning) → (number == other) ≡ false → meaning_numbered other boxes (meanings_by number e boxes meanings) ≡ meaning_numbered other boxes meanings
other_more number other e [] meanings apart = refl
other_more number other e (b ∷ bs) [] apart = refl
other_more number other e (b ∷ bs) (x ∷ xs) apart = by_test (b.number == number) refl (other_more number other e bs xs apart)
  where
    by_test : (t : Bool) → (b.number == number) ≡ t → meaning_numbered other bs (meanings_by number e bs xs) ≡ meaning_numbered other bs xs
        → meaning_numbered other (b ∷ bs) (cond t (box_applied e x ∷ xs) (x ∷ meanings_by number e bs xs)) ≡ meaning_numbered other (b ∷ bs) (x ∷ xs)
    by_test true is rest = let differs : (b.number == other) ≡ false = ap (λ (n : ℕ). n == other) (eqb-true b.number number is) ∙ apart in rw differs refl
    by_test false is rest = ap (λ (o : Option BoxMeaning). cond (b.number == other) (Some x) o) rest

-- what is asked of a log
abbrev Keeps : ℕ → ℕ → Option BoxMeaning → Type 0
Keeps uid held o = IfSome o (λ m. uid < m.next) × IfSome o (λ m. (row : LogRow) → row_at m uid ≡ Some row → row.map_uid ≡ held)

-- the log of the mailbox with this number has not changed
pub kept_on : {D : Type 0} → (number uid held : ℕ) (old new : StoreValue D) → old.map.highest.mailbox ≤ new.map.highest.mailbox → list_numbered new number ≡ list_numbered old number → KeepsUid number uid held old → KeepsUid number uid held new
kept_on number uid held old new rises same k =
    let s : Keeps uid held (list_numbered new number) = subst (Keeps uid held) (sym same) (k.below, k.same) in
    record { given = (let g : number ≤ old.map.highest.mailbox = k.given in omega (arith, g, rises)); below = s.0; same = s.1 }

-- ---- of any entry

pub same_highest : (m n : MapMeaning) → n ≡ m → m.highest.mailbox ≤ n.highest.mailbox
same_highest m n same = subst (λ (x : MapMeaning). m.highest.mailbox ≤ x.highest.mailbox) (sym same) (omega arith)

-- a log of a mailbox has an entry more, which leaves its messages their records
pub entry_keeps : {D : Type 0} → (number : ℕ) (e : BoxEntry) (to : BoxMeaning) (old new : StoreValue D) → new.map ≡ old.map → indexes_of new.boxes ≡ meanings_by number e old.map.boxes (indexes_of old.boxes) → list_numbered old number ≡ Some to → KeepsRows e to → KeepsUids old new
entry_keeps number e to old new map_is taken numbered rows = λ other uid held k. by_test other uid held k (number == other) refl
  where
    later : List BoxMeaning
    later = meanings_by number e old.map.boxes (indexes_of old.boxes)

    as_numbered : (other : ℕ) → list_numbered new other ≡ meaning_numbered other old.map.boxes later
    as_numbered other = ap (λ (bs : List MapBox). meaning_numbered other bs (indexes_of new.boxes)) (ap (λ (m : MapMeaning). m.boxes) map_is) ∙ ap (meaning_numbered other old.map.boxes) taken

    by_rows : (held uid : ℕ) → Keeps uid held (Some to) → Keeps uid held (Some (box_applied e to))
    by_rows held uid k =
        let below : uid < to.next = k.0 in
        (omega (arith, below), λ row there. let was : WasListed to.rows uid row = rows uid row below there in sym was.2 ∙ k.1 was.0 was.1)

    by_test : (other uid held : ℕ) → KeepsUid other uid held old → (t : Bool) → (number == other) ≡ t → KeepsUid other uid held new
    by_test other uid held k true is =
        let own : list_numbered old other ≡ Some to = ap (list_numbered old) (sym (eqb-true number other is)) ∙ numbered in
        let there : list_numbered new other ≡ Some (box_applied e to) = ap (list_numbered new) (sym (eqb-true number other is)) ∙ (as_numbered number ∙ (own_more number e old.map.boxes (indexes_of old.boxes) ∙ ap (option_map (box_applied e)) numbered)) in
        let s : Keeps uid held (list_numbered new other) = subst (Keeps uid held) (sym there) (by_rows held uid (subst (Keeps uid held) own (k.below, k.same))) in
        record { given = subst (λ (m : MapMeaning). other ≤ m.highest.mailbox) (sym map_is) k.given; below = s.0; same = s.1 }
    by_test other uid held k false is = kept_on other uid held old new (same_highest old.map new.map map_is) (as_numbered other ∙ other_more number other e old.map.boxes (indexes_of old.boxes) is) k

-- no log of a mailbox has changed
logs_same : {D : Type 0} → (old new : StoreValue D) → old.map.highest.mailbox ≤ new.map.highest.mailbox → new.map.boxes ≡ old.map.boxes → indexes_of new.boxes ≡ indexes_of old.boxes → KeepsUids old new
logs_same old new rises boxes indexes = λ number uid held k.
    kept_on number uid held old new rises (ap (λ (bs : List MapBox). meaning_numbered number bs (indexes_of new.boxes)) boxes ∙ ap (meaning_numbered number old.map.boxes) indexes) k

pub logs_keep : {D : Type 0} → (old new : StoreValue D) → new.map ≡ old.map → indexes_of new.boxes ≡ indexes_of old.boxes → KeepsUids old new
logs_keep old new map_is indexes = logs_same old new (same_highest old.map new.map map_is) (ap (λ (m : MapMeaning). m.boxes) map_is) indexes

pub same_keeps : {D : Type 0} → (old new : StoreValue D) → new ≡ old → KeepsUids old new
same_keeps old new same = subst (KeepsUids old) (sym same) (λ number uid held k. k)

-- an append to a mailbox's log that failed
pub fallen_keeps : {D : Type 0} → (source uid held : ℕ) (old new : StoreValue D) → new.map ≡ old.map → indexes_of new.boxes ≡ indexes_of old.boxes → KeepsUid source uid held old → KeepsUid source uid held new
fallen_keeps source uid held old new map_is indexes k = logs_keep old new map_is indexes source uid held k

-- ---- of what an event does

pub highest_rises : (entry : MapEntry) (m : MapMeaning) → m.highest.mailbox ≤ (map_applied entry m).highest.mailbox
highest_rises entry m = greater m.highest.mailbox (numbers_of m.store entry).mailbox
  where
    greater : (a b : ℕ) → a ≤ max a b
    greater a b = omega arith

pub took_keeps : {D : Type 0} → (e : MapEntry) (old new : StoreValue D) (before after : Option History) (began now : Faults) → MapTook e old new before after began now → KeepsUids old new
took_keeps e old new before after began now t = logs_same old new (subst (λ (m : MapMeaning). old.map.highest.mailbox ≤ m.highest.mailbox) (sym t.taken) (highest_rises e old.map)) t.appends.mailboxes t.appends.indexes

-- the message whose count was raised
pub raised_source : {D : Type 0} → (name : List ℕ) (uid : Uid) (target : List ℕ) (held : MapUid) (source : BoxNo) (old new : StoreValue D) (before after : Option History) (began now : Faults) → RaisesRow name uid target held source old new before after began now → KeepsUid source.0 uid.0 held.0 new
raised_source name uid target held source old new before after began now r = took_keeps (raising_of held) old new before after began now r.took source.0 uid.0 held.0 r.keeps

pub addition_left : {D : Type 0} → (name : List ℕ) (uid : Uid) (target : List ℕ) (held : MapUid) (source : BoxNo) (given : Uid) (old new : StoreValue D) (before after : Option History) (began now : Faults) → AddsRow name uid target held source given old new before after began now → KeepsUids old new
addition_left name uid target held source given old new before after began now r =
    entry_keeps r.number (added_copy given r.row) r.at.m old new r.took.appends.map r.took.taken r.at.to.numbered
    (addition_keeps given r.row.flags r.row.time r.row.size (record { 0 = r.row.map_uid }) (record { 0 = r.row.guid }) r.row.words r.at.m r.at.next_is)

pub removal_left : {D : Type 0} → (number : ℕ) (uid : Uid) (m : BoxMeaning) (old new : StoreValue D) (before after : Option History) (began now : Faults) → list_numbered old number ≡ Some m → BoxTook number (box_entry.R uid) old new before after began now → KeepsUids old new
removal_left number uid m old new before after began now numbered t = entry_keeps number (box_entry.R uid) m old new t.appends.map t.taken numbered (removal_keeps uid m)

pub flags_left : {D : Type 0} → (number : ℕ) (uid : Uid) (flags : ℕ) (m : BoxMeaning) (old new : StoreValue D) → new.map ≡ old.map → indexes_of new.boxes ≡ meanings_by number (box_entry.F uid flags) old.map.boxes (indexes_of old.boxes) → list_numbered old number ≡ Some m → KeepsUids old new
flags_left number uid flags m old new map_is taken numbered = entry_keeps number (box_entry.F uid flags) m old new map_is taken numbered (flagging_keeps uid flags m)

pub words_left : {D : Type 0} → (number : ℕ) (uid : Uid) (words : List (List ℕ)) (m : BoxMeaning) (old new : StoreValue D) → new.map ≡ old.map → indexes_of new.boxes ≡ meanings_by number (box_entry.K uid words) old.map.boxes (indexes_of old.boxes) → list_numbered old number ≡ Some m → KeepsUids old new
words_left number uid words m old new map_is taken numbered = entry_keeps number (box_entry.K uid words) m old new map_is taken numbered (wording_keeps uid words m)
