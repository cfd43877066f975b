-- What the calls of a copy ask and tell of a store.
use Rattle.mail_ops.proofs.Common.{◌≡◌, ◌≤◌, ◌<◌, ◌+◌, ◌==◌, ℕ, Bool, true, false, cond, List, [], ◌∷◌, map, Option, Some, None, refl, sym, ◌∙◌, ap, subst, arith, find, is_some, count_by, if◌then◌else◌, option_map_or, bytes_eq, eq-eqb, sum_by-cons, History, BoxEntry, Refusal, LogRow, BoxMeaning}
use Rattle.mail_ops.proofs.Common.{box_meaning, row_at, MapRecord, MapBox, MapMeaning, map_meaning, record_at, equal_is, meaning_named, KeepsUid, IsStore, StoreValue, list_named, number_named, room_refusal, copy_refusal, IsRowOf}
use Rattle.std.specs.List.{AllByRecursion}
use Rattle.std.specs.Option.{IfSome}
use Rattle.std.proofs.lemmas.List.Elements.{All-contains}
use Rattle.mdbox_base.specs.declared.replies.Refusal.TheVariants as refusal
use Rattle.model_meaning.specs.BoxMeaning.{rows_after}
use Rattle.model_meaning.specs.MapMeaning.{box_named, count_of}
use Rattle.model_meaning.specs.MapFits.{HasRecord}
use Rattle.model_meaning.specs.Sound.{IsSoundMap, IsSoundMapBox, IsSoundRow}
use Rattle.model_meaning.proofs.BoxSoundLemmas.{box_sound}
use Rattle.model_octets.proofs.SearchLemmas.{found_one}
use Rattle.model_store.specs.Opening.{AreBoxEntries, listed_of, IsCounted}
use Rattle.mail_ops.proofs.FlagListLemmas.{some_there}
use Rattle.mail_ops.proofs.MessageLemmas.{RecordOfRow, record_of_row, store_is_sound}

-- ---- why a message isn't copied

pub no_room_refuses : {D : Type 0} → (name : List ℕ) (uid : ℕ) (target : List ℕ) (store : StoreValue D) (from to : BoxMeaning) (row : LogRow) (why : Refusal) → list_named store name ≡ Some from → list_named store target ≡ Some to → row_at from uid ≡ Some row → room_refusal to ≡ Some why → copy_refusal name uid target store ≡ Some why
no_room_refuses name uid target store from to row why source there listed room =
    ap (λ (o : Option BoxMeaning). option_map_or (λ f. option_map_or (λ t. if is_some (row_at f uid) then room_refusal t else Some refusal.NoMessage) (list_named store target) (Some refusal.NoMailbox)) o (Some refusal.NoMailbox)) source
    ∙ (ap (λ (o : Option BoxMeaning). option_map_or (λ t. if is_some (row_at from uid) then room_refusal t else Some refusal.NoMessage) o (Some refusal.NoMailbox)) there
    ∙ (ap (λ (o : Option LogRow). if is_some o then room_refusal to else Some refusal.NoMessage) listed ∙ room))

-- ---- a row of an open store

-- a log that has the row
pub record LogOfRow (m : BoxMeaning) (row : LogRow) (logs : List (List BoxEntry)) : Type 0 where
  pub log : List BoxEntry
  pub is : box_meaning log ≡ m
  pub good : AreBoxEntries log
  pub listed : 1 ≤ listed_of logs row.map_uid

counted_once : (rows : List LogRow) (uid : ℕ) (row : LogRow) → find (λ r. r.uid == uid) rows ≡ Some row → 1 ≤ count_by (λ r. r.map_uid == row.map_uid) rows
counted_once [] uid row e = absurd (let k : None ≡ Some row = e in cc k)
counted_once (r ∷ rs) uid row e = by_test (r.uid == uid) e (λ k. counted_once rs uid row k)
  where
    more : (b : Bool) (n : ℕ) → 1 ≤ n → 1 ≤ cond b 1 0 + n
    more b n l = by_bool b
      where
        by_bool : (c : Bool) → 1 ≤ cond c 1 0 + n
        by_bool true = omega (arith, l)
        by_bool false = omega (arith, l)

    by_test : (t : Bool) → cond t (Some r) (find (λ x. x.uid == uid) rs) ≡ Some row → (find (λ x. x.uid == uid) rs ≡ Some row → 1 ≤ count_by (λ x. x.map_uid == row.map_uid) rs) → 1 ≤ count_by (λ x. x.map_uid == row.map_uid) (r ∷ rs)
    by_test true k rest =
        let f : Some r ≡ Some row = k in
        let same : r ≡ row = cc f in
        let one : (r.map_uid == row.map_uid) ≡ true = eq-eqb r.map_uid row.map_uid (ap (λ (x : LogRow). x.map_uid) same) in
        let split = sum_by-cons (λ (x : LogRow). cond (x.map_uid == row.map_uid) 1 0) r rs in
        let once : ◌≡◌ {A = ℕ} (cond (r.map_uid == row.map_uid) 1 0) 1 = ap (λ (b : Bool). cond b 1 0) one in
        omega (arith, split, once)
    by_test false k rest = let later = rest k in let split = sum_by-cons (λ (x : LogRow). cond (x.map_uid == row.map_uid) 1 0) r rs in let m = more (r.map_uid == row.map_uid) (count_by (λ x. x.map_uid == row.map_uid) rs) later in omega (arith, split, m)

log_of_row : (name : List ℕ) (uid : ℕ) (boxes : List MapBox) (logs : List (List BoxEntry)) (m : BoxMeaning) (row : LogRow) → AllByRecursion AreBoxEntries logs → meaning_named name boxes (map box_meaning logs) ≡ Some m → row_at m uid ≡ Some row → LogOfRow m row logs
log_of_row name uid (b ∷ bs) (log ∷ logs) m row each is found = by_test (bytes_eq b.name name) is (λ e. log_of_row name uid bs logs m row each.1 e found)
  where
    split : listed_of (log ∷ logs) row.map_uid ≡ count_by (λ r. r.map_uid == row.map_uid) (rows_after log) + listed_of logs row.map_uid
    split = sum_by-cons (λ (entries : List BoxEntry). count_by (λ r. r.map_uid == row.map_uid) (rows_after entries)) log logs

    by_test : (t : Bool) → cond t (Some (box_meaning log)) (meaning_named name bs (map box_meaning logs)) ≡ Some m → (meaning_named name bs (map box_meaning logs) ≡ Some m → LogOfRow m row logs) → LogOfRow m row (log ∷ logs)
    by_test true e rest =
        let f : Some (box_meaning log) ≡ Some m = e in
        let same : box_meaning log ≡ m = cc f in
        let one : 1 ≤ count_by (λ r. r.map_uid == row.map_uid) (rows_after log) = counted_once (rows_after log) uid row (ap (λ (k : BoxMeaning). row_at k uid) same ∙ found) in
        record { log = log; is = same; good = each.0; listed = omega (arith, split, one) }
    by_test false e rest = let r = rest e in record { log = r.log; is = r.is; good = r.good; listed = (let l = r.listed in omega (arith, split, l)) }
log_of_row name uid boxes logs m row each is found = absurd (let k : None ≡ Some m = is in cc k)

pub store_log : {D : Type 0} → (history : Option History) (store : StoreValue D) (name : List ℕ) (uid number : ℕ) (row : LogRow) → (s : IsStore history store) → (at : IsRowOf name uid store number row) → LogOfRow at.m row s.logs
store_log history store name uid number row s at = log_of_row name uid store.map.boxes s.logs at.m row s.good.box_entries (sym (ap (λ (ms : List BoxMeaning). meaning_named name store.map.boxes ms) s.boxes_are) ∙ at.box.named) at.listed

-- its numbers are in range
pub row_sound : {D : Type 0} → (history : Option History) (store : StoreValue D) (name : List ℕ) (uid number : ℕ) (row : LogRow) → IsStore history store → (at : IsRowOf name uid store number row) → IsSoundRow at.m.next row
row_sound history store name uid number row s at =
    let l = store_log history store name uid number row s at in
    let b = box_sound l.log l.good.1 l.good.0 in
    subst (λ (n : ℕ). IsSoundRow n row) (ap (λ (m : BoxMeaning). m.next) l.is)
    (All-contains (IsSoundRow (box_meaning l.log).next) (rows_after l.log) row b.rows (found_one (λ (r : LogRow). r.uid == uid) (rows_after l.log) row (ap (λ (k : BoxMeaning). row_at k uid) l.is ∙ at.listed)).0)

-- its record counts it
pub row_counted : {D : Type 0} → (history : Option History) (store : StoreValue D) (name : List ℕ) (uid number : ℕ) (row : LogRow) → IsStore history store → IsRowOf name uid store number row → (k : RecordOfRow store.map row) → 1 ≤ k.entry.count
row_counted history store name uid number row s at k =
    let l = store_log history store name uid number row s at in
    let there : record_at (map_meaning store.map.store s.entries) row.map_uid ≡ Some k.entry = ap (λ (m : MapMeaning). record_at m row.map_uid) (sym s.map_is) ∙ k.found in
    let counted : listed_of s.logs k.entry.uid ≤ k.entry.count = All-contains (IsCounted s.logs) (map_meaning store.map.store s.entries).records k.entry s.good.counts (found_one (λ (r : MapRecord). r.uid == row.map_uid) (map_meaning store.map.store s.entries).records k.entry there).0 in
    let listed : 1 ≤ listed_of s.logs k.entry.uid = subst (λ (u : ℕ). 1 ≤ listed_of s.logs u) (sym k.uid_is) l.listed in
    omega (arith, counted, listed)

-- ---- its count can rise

pub raise_fits : {D : Type 0} → (history : Option History) (store : StoreValue D) (name : List ℕ) (uid number : ℕ) (row : LogRow) → IsStore history store → IsRowOf name uid store number row → count_of store.map row.guid < 65535 → HasRecord store.map row.map_uid (λ r. (1 ≤ r.count) × (r.count ≤ 65534))
raise_fits history store name uid number row s at few =
    let k = record_of_row history store name uid number row s at in
    let same : count_of store.map row.guid ≡ k.entry.count = ap (λ (o : Option MapRecord). option_map_or (λ r. r.count) o 0) (k.by_guid row.guid refl) in
    (k.entry, k.found, (row_counted history store name uid number row s at k, omega (arith, same, few)))

-- ---- the row that is held

some_row : (a b : LogRow) → Some a ≡ Some b → a ≡ b
some_row a b e = cc e

-- a number that a name names is one
pub source_some : {D : Type 0} → (history : Option History) (store : StoreValue D) (name : List ℕ) (number : ℕ) → IsStore history store → number_named store.map name ≡ Some number → 1 ≤ number
source_some history store name number s is =
    let b = some_there (λ (box : MapBox). box.number) (box_named store.map name) number (sym is) in
    let low = (All-contains (IsSoundMapBox store.map.highest.mailbox) store.map.boxes b.0 (store_is_sound history store s).boxes (found_one (λ (box : MapBox). bytes_eq box.name name) store.map.boxes b.0 b.1).0).number.low in
    let same : number ≡ b.0.number = b.2 in
    omega (arith, low, same)

-- and was given
number_given : (m : MapMeaning) (name : List ℕ) (number : ℕ) → IsSoundMap m → number_named m name ≡ Some number → number ≤ m.highest.mailbox
number_given m name number s is =
    let b = some_there (λ (box : MapBox). box.number) (box_named m name) number (sym is) in
    let below = (All-contains (IsSoundMapBox m.highest.mailbox) m.boxes b.0 s.boxes (found_one (λ (box : MapBox). bytes_eq box.name name) m.boxes b.0 b.1).0).below in
    let same : number ≡ b.0.number = b.2 in
    omega (arith, below, same)

pub keeps_row : {D : Type 0} → (history : Option History) (store : StoreValue D) (name : List ℕ) (uid number held : ℕ) (row : LogRow) → IsStore history store → IsRowOf name uid store number row → held ≡ row.map_uid → KeepsUid number uid held store
keeps_row history store name uid number held row s at holds = record {
  given = number_given store.map name number (store_is_sound history store s) at.box.number_is;
  below = subst (λ (o : Option BoxMeaning). IfSome o (λ m. uid < m.next)) (sym at.box.numbered) (
      let sound = (row_sound history store name uid number row s at).below in
      let same = equal_is row.uid uid (found_one (λ (r : LogRow). r.uid == uid) at.m.rows row at.listed).1 in
      omega (arith, sound, same)
      );
  same = subst (λ (o : Option BoxMeaning). IfSome o (λ m. (r : LogRow) → row_at m uid ≡ Some r → r.map_uid ≡ held)) (sym at.box.numbered) (λ other there. ap (λ (r : LogRow). r.map_uid) (some_row other row (sym there ∙ at.listed)) ∙ sym holds);
}

pub held_row : {D : Type 0} → (store : StoreValue D) (name : List ℕ) (uid number source held : ℕ) (row : LogRow) → KeepsUid source uid held store → (at : IsRowOf name uid store number row) → number ≡ source → held ≡ row.map_uid
held_row store name uid number source held row keeps at from =
    let k : KeepsUid number uid held store = subst (λ (n : ℕ). KeepsUid n uid held store) (sym from) keeps in
    let same : (r : LogRow) → row_at at.m uid ≡ Some r → r.map_uid ≡ held = subst (λ (o : Option BoxMeaning). IfSome o (λ m. (r : LogRow) → row_at m uid ≡ Some r → r.map_uid ≡ held)) at.box.numbered k.same in
    sym (same row at.listed)
