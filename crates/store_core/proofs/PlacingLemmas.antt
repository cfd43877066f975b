-- The mailbox at the place that was found, and what is due with the entry.
use Rattle.store_core.proofs.Common.{◌≡◌, ◌≢◌, ◌<◌, ◌≤◌, ◌+◌, ◌-◌, ◌^◌, ◌==◌, ℕ, zero, suc, Bool, true, false, cond, List, [], ◌∷◌, map, length, slice_get, slice_index_or, slice_set, Option, Some, None, All, refl, sym, ◌∙◌, ap, subst, arith, AllPairs, Contains, count_by, sum_by, ◌||◌, option_map}
use Rattle.store_core.proofs.Common.{option_map_or, slice_get-get_or, ne_eqb, eq-eqb, All-head, All-tail, All-contains, History, MapUid, BoxEntry, box_text, BoxInRange, found_one, LogRow, BoxMeaning, row_made, rows_after, box_meaning, box_applied, MapRecord, MapBox, MapMeaning, map_meaning}
use Rattle.store_core.proofs.Common.{record_at, has_map_uid, equal_is, meaning_numbered, HasItsRecord, listed_of, bit, due_by_box, logs_by, meanings_by, pairs_head, pairs_tail, Reads, due_change_of, change_beside, dues_by, number_beside, due_at, listed_at, leak_at, StoreValue, indexes_of, BoxNo}
use Rattle.store_core.proofs.Common.{list_numbered, entry_room, AreBoxLogs, CoverDues, IsStore, HasEntryRoom, OpenBox}
use Rattle.std.proofs.lemmas.List.{get_or_default, set-get_or}
use Rattle.mdbox_base.specs.declared.entries.BoxEntry.TheVariants as entry
use Rattle.model_meaning.specs.BoxMeaning.{row_at, BoxFits}
use Rattle.model_meaning.proofs.BoxSoundLemmas.{box_sound}
use Rattle.model_store.specs.Opening.{AreBoxEntries}
use Rattle.model_appends.specs.Amounts.{more_due, HoldsAdded}
use Rattle.model_appends.proofs.AmountLemmas.{listed_removed, listed_added, listed_next}
use Rattle.model_appends.proofs.AppendOpenLemmas.{listed_flagged, listed_worded, meanings_more}
use Rattle.store_core.specs.Append.{FitsBox}
use Rattle.store_core.specs.declared.due.DueChange.{DueChange}
use Rattle.store_core.specs.declared.due.DueChange.TheVariants as change
use Rattle.store_core.proofs.DueLemmas.{dues_each, listed_meant}
use Rattle.store_core.proofs.DueChangeLemmas.{HasRemoved, due_is, as_many, number_few, raised_number}
use Rattle.store_core.proofs.PickingLemmas.{Rising, Picked, above_first, indexes_set, room_at, rooms_set}
use Rattle.store_core.proofs.BoxAppendLemmas.{Placed, covered, dues_of, store_sound, own_box}
use Rattle.store_core.proofs.ReplacedLogLemmas.{found_set}
use Rattle.store_core.specs.Value.{log_count_of}

some_same : {X : Type 0} → (o : Option X) (a b : X) → o ≡ Some a → o ≡ Some b → a ≡ b
some_same o a b p q = let h : Some a ≡ Some b = sym p ∙ q in cc h

-- ---- the place

pub number_at : (boxes : List OpenBox) (k : ℕ) (d : OpenBox) (number : ℕ) → k < length boxes → option_map (λ b. b.number.0) (slice_get boxes k) ≡ Some number → (slice_index_or boxes k d).number.0 ≡ number
number_at boxes k d number below is = let e : Some (slice_index_or boxes k d).number.0 ≡ Some number = sym (ap (option_map (λ (b : OpenBox). b.number.0)) (slice_get-get_or boxes k d below)) ∙ is in cc e

-- the mailboxes rise, so it is the one that a look-up finds
first_numbered : (id : List ℕ) (k : ℕ) (d : OpenBox) (mailboxes : List MapBox) (boxes : List OpenBox) → AllPairs (λ a b. a.number < b.number) mailboxes → AreBoxLogs id mailboxes boxes → k < length boxes
    → meaning_numbered (slice_index_or boxes k d).number.0 mailboxes (indexes_of boxes) ≡ Some (slice_index_or boxes k d).index.meaning
first_numbered id k d [] [] rising a below = absurd (omega (arith, below))
first_numbered id k d [] (b ∷ bs) rising a below = absurd a
first_numbered id k d (m ∷ ms) [] rising a below = absurd a
first_numbered id zero d (m ∷ ms) (b ∷ bs) rising a below = ap (λ (t : Bool). cond t (Some b.index.meaning) (meaning_numbered b.number.0 ms (indexes_of bs))) (eq-eqb m.number b.number.0 (sym a.0))
first_numbered id (suc k) d (m ∷ ms) (b ∷ bs) rising a below =
    let less : m.number < (slice_index_or bs k d).number.0 = above_first id k d m ms bs (pairs_head Rising m ms rising) a.3 (omega (arith, below)) in
    ap (λ (t : Bool). cond t (Some b.index.meaning) (meaning_numbered (slice_index_or bs k d).number.0 ms (indexes_of bs))) (ne_eqb m.number (slice_index_or bs k d).number.0 (λ e. absurd (omega (arith, less, e))))
    ∙ first_numbered id k d ms bs (pairs_tail Rising m ms rising) a.3 (omega (arith, below))

placed_at : {D : Type 0} → (h : Option History) (v : StoreValue D) (k : ℕ) (d : OpenBox) (number : ℕ) (e : BoxEntry) → IsStore h v → v.stopped ≡ false → k < length v.boxes → (slice_index_or v.boxes k d).number.0 ≡ number → BoxInRange e → FitsBox number e v → HoldsAdded e (dues_of v)
    → All (HasItsRecord v.map) (row_made e) → Placed h v k (slice_index_or v.boxes k d) number e
placed_at h v k d number e s running below is in_range fits held made =
    let b : OpenBox = slice_index_or v.boxes k d in
    let at : list_numbered v number ≡ Some b.index.meaning = ap (λ (n : ℕ). meaning_numbered n v.map.boxes (indexes_of v.boxes)) (sym is) ∙ first_numbered v.map.store k d v.map.boxes v.boxes (store_sound h v s).boxes_rising s.box_logs below in
    record {
      store = s;
      running = running;
      below = below;
      default = d;
      here = refl;
      number_is = is;
      in_range = in_range;
      at = at;
      fits = subst (λ (m : BoxMeaning). BoxFits m e) (some_same (list_numbered v number) fits.0 b.index.meaning fits.1 at) fits.2;
      held = held;
      made = made;
    }

-- of a value that is known under two names
pub placed : {D : Type 0} → (h : Option History) (v w : StoreValue D) (found : List OpenBox) (k : ℕ) (b : OpenBox) (number : ℕ) (e : BoxEntry) → IsStore h v → v ≡ w → found ≡ v.boxes → w.stopped ≡ false → BoxInRange e → FitsBox number e w → HoldsAdded e (dues_of w) → All (HasItsRecord w.map) (row_made e)
    → (k < length found) × (option_map (λ b. b.number.0) (slice_get found k) ≡ Some number) → b ≡ slice_index_or v.boxes k b → Placed h v k b number e
placed h v w found k b number e s same same_found running in_range fits held made at is =
    let below : k < length v.boxes = subst (λ (bs : List OpenBox). k < length bs) same_found at.0 in
    let number_is : (slice_index_or v.boxes k b).number.0 ≡ number = number_at v.boxes k b number below (subst (λ (bs : List OpenBox). option_map (λ (o : OpenBox). o.number.0) (slice_get bs k) ≡ Some number) same_found at.1) in
    subst (λ (y : OpenBox). Placed h v k y number e) (sym is)
    (placed_at h v k b number e s (ap (λ (x : StoreValue _). x.stopped) same ∙ running) below number_is in_range (subst (λ (x : StoreValue _). FitsBox number e x) (sym same) fits) (subst (λ (x : StoreValue _). HoldsAdded e (dues_of x)) (sym same) held)
    (subst (λ (x : StoreValue _). All (HasItsRecord x.map) (row_made e)) (sym same) made))

-- there is such a mailbox
none_numbered : (number : ℕ) (id : List ℕ) (mailboxes : List MapBox) (boxes : List OpenBox) → AreBoxLogs id mailboxes boxes → All (λ (b : OpenBox). b.number.0 ≢ number) boxes → meaning_numbered number mailboxes (indexes_of boxes) ≡ None
none_numbered number id [] [] a none = refl
none_numbered number id [] (b ∷ bs) a none = absurd a
none_numbered number id (m ∷ ms) [] a none = absurd a
none_numbered number id (m ∷ ms) (b ∷ bs) a none =
    ap (λ (t : Bool). cond t (Some b.index.meaning) (meaning_numbered number ms (indexes_of bs))) (ne_eqb m.number number (λ e. All-head (λ (o : OpenBox). o.number.0 ≢ number) b bs none (a.0 ∙ e)))
    ∙ none_numbered number id ms bs a.3 (All-tail (λ (o : OpenBox). o.number.0 ≢ number) b bs none)

pub must_be : {D : Type 0} → (h : Option History) (v w : StoreValue D) (found : List OpenBox) (number : ℕ) (e : BoxEntry) → IsStore h v → v ≡ w → found ≡ v.boxes → FitsBox number e w → All (λ (b : OpenBox). b.number.0 ≢ number) found → ⊥
must_be h v w found number e s same same_found fits none =
    let f : FitsBox number e v = subst (λ (x : StoreValue _). FitsBox number e x) (sym same) fits in
    let no = none_numbered number v.map.store v.map.boxes v.boxes s.box_logs (subst (λ (bs : List OpenBox). All (λ (b : OpenBox). b.number.0 ≢ number) bs) same_found none) in
    let w : Some f.0 ≡ None = sym f.1 ∙ no in
    cc w

-- ---- its log

pub read_there : {D : Type 0} → (h : Option History) (v : StoreValue D) (k : ℕ) (b : OpenBox) (number : ℕ) (e : BoxEntry) → Placed h v k b number e → (texts : List (List ℕ)) × Reads b.log texts h
read_there h v k b number e p = let q = own_box h v k b number e p in (map box_text q.log, q.reads)

pub room_there : {D : Type 0} → (h : Option History) (v : StoreValue D) (k : ℕ) (b : OpenBox) (number : ℕ) (e : BoxEntry) → Placed h v k b number e → HasEntryRoom v → entry_room ≤ b.log.room
room_there h v k b number e p room = subst (λ (y : OpenBox). entry_room ≤ y.log.room) (sym p.here) (room_at entry_room k p.default v.boxes p.below room.box_logs)

pub room_stays : {D : Type 0} → (h : Option History) (v w : StoreValue D) (k : ℕ) (b x : OpenBox) (number : ℕ) (e : BoxEntry) → Placed h v k b number e → HasEntryRoom v → b.log.room ≤ x.log.room → w.map_log ≡ v.map_log → w.boxes ≡ slice_set v.boxes k x → HasEntryRoom w
room_stays h v w k b x number e p room more map_log boxes = record {
  map_log = subst (λ (l : _). entry_room ≤ l.room) (sym map_log) room.map_log;
  box_logs = subst (λ (bs : List OpenBox). All (λ (o : OpenBox). entry_room ≤ o.log.room) bs) (sym boxes) (rooms_set entry_room k p.default x v.boxes p.below room.box_logs (subst (λ (o : OpenBox). o.log.room ≤ x.log.room) p.here more));
}

-- what the logs mean afterwards
pub taken_there : {D : Type 0} → (h : Option History) (v : StoreValue D) (k : ℕ) (b x : OpenBox) (number : ℕ) (e : BoxEntry) → Placed h v k b number e → x.index.meaning ≡ box_applied e b.index.meaning → indexes_of (slice_set v.boxes k x) ≡ meanings_by number e v.map.boxes (indexes_of v.boxes)
taken_there h v k b x number e p index =
    indexes_set v.map.store k p.default x e v.map.boxes v.boxes (store_sound h v p.store).boxes_rising p.store.box_logs p.below (index ∙ ap (λ (y : OpenBox). box_applied e y.index.meaning) p.here)
    ∙ ap (λ (n : ℕ). meanings_by n e v.map.boxes (indexes_of v.boxes)) (ap (λ (y : OpenBox). y.number.0) (sym p.here) ∙ p.number_is)

-- how many entries its log has
pub counted_there : {D : Type 0} → (h : Option History) (v : StoreValue D) (k : ℕ) (b x : OpenBox) (number : ℕ) (e : BoxEntry) → Placed h v k b number e → x.number ≡ b.number → x.log.count ≡ b.log.count + 1 → log_count_of number (slice_set v.boxes k x) ≡ log_count_of number v.boxes + 1
counted_there h v k b x number e p same counted =
    let count : OpenBox → ℕ = λ o. o.log.count in
    let found : (y : OpenBox) → y.number.0 ≡ number → log_count_of number (slice_set v.boxes k y) ≡ y.log.count = λ y is.
    ap (λ (o : Option OpenBox). option_map_or count o 0)
    (found_set v.map.store number k p.default y v.map.boxes v.boxes (store_sound h v p.store).boxes_rising p.store.box_logs p.below (ap (λ (o : OpenBox). o.number.0) (sym p.here) ∙ p.number_is) is) in
    let now = found x (ap (λ (n : BoxNo). n.0) same ∙ p.number_is) in
    let then : log_count_of number v.boxes ≡ b.log.count = ap (log_count_of number) (sym (ap (slice_set v.boxes k) p.here ∙ set-get_or v.boxes k p.default)) ∙ found b p.number_is in
    omega (arith, now, then, counted)

-- ---- what is due

-- the record of a message that is removed is there
removed_there : {D : Type 0} → (h : Option History) (v : StoreValue D) (k : ℕ) (b : OpenBox) (number : ℕ) (e : BoxEntry) → Placed h v k b number e → HasRemoved b.index.meaning e v.map.records
removed_there h v k b number (entry.N n) p uid is none = absurd (cc (let c : change.Stays ≡ change.Rises uid = is in c))
removed_there h v k b number (entry.F u f) p uid is none = absurd (cc (let c : change.Stays ≡ change.Rises uid = is in c))
removed_there h v k b number (entry.K u w) p uid is none = absurd (cc (let c : change.Stays ≡ change.Rises uid = is in c))
removed_there h v k b number (entry.A u f t z m g w) p uid is none = absurd (cc (let c : change.Falls m ≡ change.Rises uid = is in c))
removed_there h v k b number (entry.R u) p uid is none =
    let q = own_box h v k b number (entry.R u) p in
    let row : LogRow = p.fits.0 in
    let found : row_at b.index.meaning u.0 ≡ Some row = p.fits.1 in
    let change_is : change.Rises (record { 0 = row.map_uid }) ≡ change.Rises uid = sym (ap (λ (o : Option LogRow). option_map_or (λ (r : LogRow). change.Rises (record { 0 = r.map_uid })) o change.Stays) found) ∙ is in
    let uid_is : record { 0 = row.map_uid } ≡ uid = cc change_is in
    let among : Contains (rows_after q.log) row = (found_one (λ (r : LogRow). r.uid == u.0) (rows_after q.log) row (ap (λ (m : BoxMeaning). row_at m u.0) (sym q.index) ∙ found)).0 in
    let n : MapMeaning = map_meaning v.map.store p.store.entries in
    let its : HasItsRecord n row = All-contains (HasItsRecord n) (rows_after q.log) row (q.records n p.store.good.records) among in
    let there : record_at v.map uid.0 ≡ Some its.0 = ap (λ (m : MapMeaning). record_at m uid.0) p.store.map_is ∙ ap (λ (k : MapUid). record_at n k.0) (sym uid_is) ∙ its.1 in
    let no : Some its.0 ≡ None = sym there ∙ none in
    cc no

pub due_there : {D : Type 0} → (h : Option History) (v : StoreValue D) (k : ℕ) (b : OpenBox) (number : ℕ) (e : BoxEntry) (m : BoxMeaning) (uid : ℕ) → Placed h v k b number e → list_numbered v number ≡ Some m
    → number_beside uid v.map.records (dues_by (due_change_of b.index.meaning e) v.map.records v.dues) ≡ due_by_box m e (dues_of v) uid
due_there h v k b number e m uid p at =
    due_is b.index.meaning e v.map.records v.dues uid (dues_each p.store.logs v.map.records v.dues p.store.counts) (removed_there h v k b number e p)
    ∙ ap (λ (x : BoxMeaning). due_by_box x e (dues_of v) uid) (some_same (list_numbered v number) b.index.meaning m p.at at)

pub size_there : {D : Type 0} → (h : Option History) (v : StoreValue D) (k : ℕ) (b : OpenBox) (number : ℕ) (e : BoxEntry) → Placed h v k b number e → length v.dues ≡ length v.map.records
size_there h v k b number e p = as_many v.map.records v.dues (dues_each p.store.logs v.map.records v.dues p.store.counts)

-- listed and due together are as many as before
balance : (number : ℕ) (e : BoxEntry) (boxes : List MapBox) (logs : List (List BoxEntry)) (log : List BoxEntry) (due : ℕ → ℕ) (uid : ℕ) → meaning_numbered number boxes (map box_meaning logs) ≡ Some (box_meaning log) → AllPairs (λ (a b : LogRow). a.uid < b.uid) (rows_after log) → BoxFits (box_meaning log) e → HoldsAdded e due
    → listed_of (logs_by number e boxes logs) uid + due_by_box (box_meaning log) e due uid ≡ listed_of logs uid + due uid
balance number (entry.N n) boxes logs log due uid at rising fits held = ap (λ (k : ℕ). k + due uid) (listed_next number n boxes logs uid)
balance number (entry.F u f) boxes logs log due uid at rising fits held = ap (λ (k : ℕ). k + due uid) (listed_flagged number u f boxes logs uid)
balance number (entry.K u w) boxes logs log due uid at rising fits held = ap (λ (k : ℕ). k + due uid) (listed_worded number u w boxes logs uid)
balance number (entry.A u f t z k g w) boxes logs log due uid at rising fits held = by_test (k.0 == uid) refl
  where
    more : listed_of (logs_by number (entry.A u f t z k g w) boxes logs) uid ≡ listed_of logs uid + bit (k.0 == uid)
    more = listed_added number u f t z k g w boxes logs (box_meaning log) uid at

    by_test : (yes_no : Bool) → (k.0 == uid) ≡ yes_no → listed_of (logs_by number (entry.A u f t z k g w) boxes logs) uid + (due uid - bit (has_map_uid uid (k ∷ []))) ≡ listed_of logs uid + due uid
    by_test true is =
        let same : k.0 ≡ uid = equal_is k.0 uid is in
        let some : 1 ≤ due uid = subst (λ (n : ℕ). 1 ≤ due n) same held in
        let b : bit (k.0 == uid) ≡ 1 = ap bit is in
        let h : bit (has_map_uid uid (k ∷ [])) ≡ 1 = ap (λ (t : Bool). bit (t || false)) is in
        omega (arith, more, b, h, some)
    by_test false is =
        let b : bit (k.0 == uid) ≡ 0 = ap bit is in
        let h : bit (has_map_uid uid (k ∷ [])) ≡ 0 = ap (λ (t : Bool). bit (t || false)) is in
        omega (arith, more, b, h)
balance number (entry.R u) boxes logs log due uid at rising fits held =
    let row : LogRow = fits.0 in
    let less : listed_of (logs_by number (entry.R u) boxes logs) uid + bit (row.map_uid == uid) ≡ listed_of logs uid = listed_removed number u boxes logs (box_meaning log) row uid at rising fits.1 in
    let due_is : due_by_box (box_meaning log) (entry.R u) due uid ≡ due uid + bit (row.map_uid == uid) = ap (λ (o : Option LogRow). option_map_or (λ (r : LogRow). more_due 1 r.map_uid due) o due uid) fits.1 in
    omega (arith, less, due_is)

abbrev in_meanings : ℕ → List BoxMeaning → ℕ
in_meanings uid meanings = sum_by (λ m. count_by (λ row. row.map_uid == uid) m.rows) meanings

-- so the leak stays
pub leak_there : {D : Type 0} → (h : Option History) (v : StoreValue D) (k : ℕ) (b : OpenBox) (number : ℕ) (e : BoxEntry) (meanings : List BoxMeaning) (ds : List ℕ) (uid : ℕ) → Placed h v k b number e → meanings ≡ meanings_by number e v.map.boxes (indexes_of v.boxes)
    → ds ≡ dues_by (due_change_of b.index.meaning e) v.map.records v.dues
    → number_beside uid v.map.records (map (λ row. row.count) v.map.records) - (sum_by (λ m. count_by (λ row. row.map_uid == uid) m.rows) meanings + number_beside uid v.map.records ds) ≡ leak_at uid v
leak_there h v k b number e meanings ds uid p meant due =
    let s = p.store in
    let n : MapMeaning = map_meaning v.map.store s.entries in
    let q : Picked h v.map.store n.boxes s.logs b = own_box h v k b number e p in
    let later : List (List BoxEntry) = logs_by number e n.boxes s.logs in
    let means : meanings ≡ map box_meaning later =
    meant ∙ ap (λ (m : MapMeaning). meanings_by number e m.boxes (indexes_of v.boxes)) s.map_is ∙ ap (meanings_by number e n.boxes) s.boxes_are ∙ sym (meanings_more number e n.boxes s.logs) in
    let listed_now : in_meanings uid meanings ≡ listed_of later uid = ap (in_meanings uid) means ∙ listed_meant uid later in
    let listed_then : listed_at uid v ≡ listed_of s.logs uid = ap (in_meanings uid) s.boxes_are ∙ listed_meant uid s.logs in
    let due_now : number_beside uid v.map.records ds ≡ due_by_box (box_meaning q.log) e (dues_of v) uid =
    ap (number_beside uid v.map.records) due ∙ due_there h v k b number e b.index.meaning uid p p.at ∙ ap (λ (m : BoxMeaning). due_by_box m e (dues_of v) uid) q.index in
    let at : meaning_numbered number n.boxes (map box_meaning s.logs) ≡ Some (box_meaning q.log) =
    ap (λ (m : MapMeaning). meaning_numbered number m.boxes (map box_meaning s.logs)) (sym s.map_is) ∙ ap (meaning_numbered number v.map.boxes) (sym s.boxes_are) ∙ p.at ∙ ap Some q.index in
    let own : AreBoxEntries q.log = q.good s.good.box_entries in
    let same : listed_of later uid + due_by_box (box_meaning q.log) e (dues_of v) uid ≡ listed_of s.logs uid + due_at uid v =
    balance number e n.boxes s.logs q.log (dues_of v) uid at (box_sound q.log own.1 own.0).rising (subst (λ (m : BoxMeaning). BoxFits m e) q.index p.fits) p.held in
    let total : in_meanings uid meanings + number_beside uid v.map.records ds ≡ listed_at uid v + due_at uid v = omega (arith, listed_now, listed_then, due_now, same) in
    ap (λ (t : ℕ). number_beside uid v.map.records (map (λ (row : MapRecord). row.count) v.map.records) - t) total

-- what is due of a record is far below the type's end
pub due_room : {D : Type 0} → (h : Option History) (v : StoreValue D) (k : ℕ) (b : OpenBox) (number : ℕ) (e : BoxEntry) (uid : MapUid) → Placed h v k b number e → due_change_of b.index.meaning e ≡ change.Rises uid → number_beside uid.0 v.map.records v.dues + 1 < 2 ^ 32
due_room h v k b number e uid p is =
    let s = p.store in
    let later : List (List BoxEntry) = logs_by number e (map_meaning v.map.store s.entries).boxes s.logs in
    let covers : CoverDues later v.map.records (change_beside uid.0 (λ n. n + 1) v.map.records v.dues) =
    subst (λ (c : DueChange). CoverDues later v.map.records (dues_by c v.map.records v.dues)) is (covered h v number b.index.meaning e (dues_by (due_change_of b.index.meaning e) v.map.records v.dues) s p.at p.fits p.held refl) in
    let few : number_beside uid.0 v.map.records (change_beside uid.0 (λ n. n + 1) v.map.records v.dues) ≤ 65535 = number_few later v.map.highest.map uid.0 v.map.records (change_beside uid.0 (λ n. n + 1) v.map.records v.dues) covers (store_sound h v s).records in
    let more = raised_number uid.0 v.map.records v.dues (dues_each s.logs v.map.records v.dues s.counts) (removed_there h v k b number e p uid is) in
    omega (arith, few, more)

-- ---- by what the code has at hand

pub fits_there : {D : Type 0} → (h : Option History) (v : StoreValue D) (k : ℕ) (b : OpenBox) (number : ℕ) (e : BoxEntry) → Placed h v k b number e → BoxFits b.index.meaning e
fits_there h v k b number e p = p.fits

pub place_below : (boxes found : List OpenBox) (k number : ℕ) → found ≡ boxes → (k < length found) × (option_map (λ b. b.number.0) (slice_get found k) ≡ Some number) → k < length boxes
place_below boxes found k number same at = subst (λ (bs : List OpenBox). k < length bs) same at.0

same_box : (boxes : List OpenBox) (k : ℕ) (a b : OpenBox) → k < length boxes → a ≡ slice_index_or boxes k a → b ≡ slice_index_or boxes k b → a ≡ b
same_box boxes k a b below is also = is ∙ get_or_default boxes k a b below ∙ sym also

pub how_is : (boxes : List OpenBox) (k : ℕ) (a b : OpenBox) (e : BoxEntry) (how : DueChange) → how ≡ due_change_of a.index.meaning e → k < length boxes → a ≡ slice_index_or boxes k a → b ≡ slice_index_or boxes k b → due_change_of b.index.meaning e ≡ how
how_is boxes k a b e how is below there also = ap (λ (o : OpenBox). due_change_of o.index.meaning e) (sym (same_box boxes k a b below there also)) ∙ sym is

pub dues_are_by : (rows : List MapRecord) (old new : List ℕ) (boxes : List OpenBox) (k : ℕ) (a b : OpenBox) (e : BoxEntry) (how : DueChange) → new ≡ dues_by how rows old → how ≡ due_change_of a.index.meaning e → k < length boxes → a ≡ slice_index_or boxes k a → b ≡ slice_index_or boxes k b
    → new ≡ dues_by (due_change_of b.index.meaning e) rows old
dues_are_by rows old new boxes k a b e how are is below there also = are ∙ ap (λ (w : DueChange). dues_by w rows old) (sym (how_is boxes k a b e how is below there also))
