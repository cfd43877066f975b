-- A store that deletes a mailbox or gives it another name, by what the calls have at hand.
use Rattle.store_core.proofs.Common.{◌≡◌, ◌≢◌, ◌<◌, ◌≤◌, ◌+◌, ◌-◌, ◌==◌, ℕ, Bool, true, false, not, cond, List, [], ◌∷◌, length, map, filter, count_by, sum_by, slice_index_or, Option, Some, None, All, AllPairs, refl, sym, ◌∙◌, ap, subst, arith, inl, inr, cases_eq, list_any, ◌⊎◌, if◌then◌else◌, All-filter, All-head, All-tail, All-nil, All-cons, equal_is, pairs_head, pairs_tail, box_meaning}
use Rattle.store_core.proofs.Common.{History, SameButFor, FileName, LogState, BoxNo, Highest, MapEntry, BoxMeaning, LogRow, MapFits, MapBox, MapMeaning, MapRecord, map_applied, record_changed, head_of, listed_of, meaning_numbered, number_beside, due_at, leak_at, listed_at, HaveOtherNumbers, IsMadeLog, IsUnnamed, KeepsMadeLogs}
use Rattle.store_core.proofs.Common.{◌++◌, MapInRange, IsSameLog, Reads, map_text, IsStore, HasEntryRoom, StoreValue, indexes_of, list_numbered, entry_room, OpenBox, without_box, AreBoxLogs}
use Rattle.std.specs.Option.{IfSome}
use Rattle.std.proofs.lemmas.List.Kept.{AllPairs-cons}
use Rattle.disk_model.specs.declared.name.FileName.TheVariants as file
use Rattle.mdbox_base.specs.Words.{IsName}
use Rattle.mdbox_base.specs.declared.entries.MapCount.{MapCount}
use Rattle.mdbox_base.specs.declared.entries.MapEntry.TheVariants as entry
use Rattle.model_appends.specs.MapAppending.{beside_without}
use Rattle.model_logs.specs.declared.log_head.LogKind.TheVariants as kind
use Rattle.model_meaning.specs.BoxMeaning.{row_at}
use Rattle.model_meaning.specs.MapMeaning.{box_changed, count_given}
use Rattle.model_meaning.proofs.AppliedLemmas.{boxes_by_deleted, boxes_by_renamed, records_by_deleted}
use Rattle.model_octets.proofs.PairLemmas.{all_map, pairs_nil}
use Rattle.store_core.specs.Beside.{in_rows}
use Rattle.store_core.specs.Deleting.{AreAmounts, AreAmountsOf, IsDeletionOf}
use Rattle.store_core.specs.Keeping.{KeepsUids}
use Rattle.store_core.specs.MadeLogs.{KeepsGone}
use Rattle.store_core.proofs.BoxAppendLemmas.{store_sound}
use Rattle.store_core.proofs.ChangingLemmas.{Changing, store_changed}
use Rattle.store_core.proofs.DeletingLemmas.{are_amounts, deleting, few_listed, listed_falls}
use Rattle.store_core.proofs.DueLemmas.{listed_meant}
use Rattle.store_core.proofs.LeavingBoxLemmas.{beside_map, boxes_beside, numbered_gone, numbered_renamed, numbered_without}
use Rattle.store_core.proofs.MadeLogLemmas.{IsHeldBy, apart_from, held_beside}
use Rattle.store_core.proofs.MapAppendLemmas.{listed_there, prepared, prepared_store}
use Rattle.store_core.proofs.MapDueLemmas.{beside_changed}
use Rattle.store_core.proofs.RenamingLemmas.{renaming}

-- ---- the store in which memory was made

amounts_seen : {D : Type 0} → (v : StoreValue D) (log : LogState) (mailbox : BoxNo) (amounts : List MapCount) → AreAmounts mailbox amounts v → AreAmounts mailbox amounts (prepared v log v.map v.dues)
amounts_seen v log mailbox amounts a = record { in_range = a.in_range; fits = a.fits; listed = a.listed }

pub amounts_there : {D : Type 0} → (h : Option History) (v now : StoreValue D) (mailbox : BoxNo) (m : BoxMeaning) (amounts : List MapCount) → IsStore h v → v ≡ now → list_numbered now mailbox.0 ≡ Some m → length m.rows ≤ 1000000 → AreAmountsOf (map (λ row. row.map_uid) m.rows) amounts → AreAmounts mailbox amounts v
amounts_there h v now mailbox m amounts s is at short a = are_amounts h v mailbox m amounts s (ap (λ (x : StoreValue _). list_numbered x mailbox.0) is ∙ at) short a

pub can_delete : {D : Type 0} → (h : Option History) (v now : StoreValue D) (log : LogState) (mailbox : BoxNo) (amounts : List MapCount) → IsStore h v → v ≡ now → now.stopped ≡ false → log ≡ record v.map_log { room = log.room } → AreAmounts mailbox amounts v
    → Changing h (prepared v log v.map v.dues) (entry.X mailbox amounts) (without_box mailbox.0 v.boxes)
can_delete h v now log mailbox amounts s is running same a =
    deleting h (prepared v log v.map v.dues) mailbox amounts (prepared_store h v log v.map v.dues s same refl refl) (ap (λ (x : StoreValue _). x.stopped) is ∙ running) (amounts_seen v log mailbox amounts a)

pub can_rename : {D : Type 0} → (h : Option History) (v now : StoreValue D) (log : LogState) (mailbox : BoxNo) (name : List ℕ) → IsStore h v → v ≡ now → now.stopped ≡ false → log ≡ record v.map_log { room = log.room } → IsName name → MapFits now.map (entry.V mailbox name)
    → Changing h (prepared v log v.map v.dues) (entry.V mailbox name) v.boxes
can_rename h v now log mailbox name s is running same named fits =
    renaming h (prepared v log v.map v.dues) mailbox name (prepared_store h v log v.map v.dues s same refl refl) (ap (λ (x : StoreValue _). x.stopped) is ∙ running) named (subst (λ (x : StoreValue _). MapFits x.map (entry.V mailbox name)) (sym is) fits)

-- ---- what the store keeps

-- where the entry is known under another name
pub store_after_change : {D : Type 0} → (old new : Option History) (v : StoreValue D) (disk : D) (ready log : LogState) (e given : MapEntry) (m : MapMeaning) (boxes now : List OpenBox) → IsStore old v → Changing old (prepared v ready v.map v.dues) e boxes → IsSameLog ready log → SameButFor ready.name old new
    → ((texts : List (List ℕ)) → Reads ready texts old → Reads log (texts ++ map_text given ∷ []) new) → given ≡ e → m ≡ map_applied e v.map → now ≡ boxes
    → IsStore new (record v { disk = disk; map_log = log; map = m; boxes = now })
store_after_change old new v disk ready log e given m boxes now s c same others added is applied left =
    subst (λ (x : MapMeaning). IsStore new (record v { disk = disk; map_log = log; map = x; boxes = now })) (sym applied)
    (subst (λ (bs : List OpenBox). IsStore new (record v { disk = disk; map_log = log; map = map_applied e v.map; boxes = bs })) (sym left)
    (store_changed old new (prepared v ready v.map v.dues) disk e boxes log c same others (subst (λ (x : MapEntry). (texts : List (List ℕ)) → Reads ready texts old → Reads log (texts ++ map_text x ∷ []) new) is added)))

-- the logs that were made aren't named by the map still
pub made_after_change : {D : Type 0} → (generation : ℕ) (old new : Option History) (v w : StoreValue D) (name : FileName) → KeepsMadeLogs old v → v.stopped ≡ false → name ≡ file.Map generation → SameButFor name old new → w.made ≡ v.made → w.map.store ≡ v.map.store → w.drawn ≡ v.drawn
    → ((n : ℕ) → IsUnnamed n v.map → IsUnnamed n w.map) → KeepsMadeLogs new w
made_after_change generation old new v w name k runs is others made store drawn unnamed = record {
  are_made = subst (λ (bs : List OpenBox). All (IsMadeLog w.map w.drawn) bs) (sym made) (λ i d lt.
      let o : OpenBox = slice_index_or v.made i d in
      let l : IsMadeLog v.map v.drawn o = k.are_made i d lt in
      record {
        is_number = l.is_number;
        was_drawn = let a = l.was_drawn in let e : w.drawn.mailbox ≡ v.drawn.mailbox = ap (λ (x : Highest). x.mailbox) drawn in omega (arith, a, e);
        unnamed = unnamed o.number.0 l.unnamed;
        name = l.name;
        head = subst (λ (id : List ℕ). o.log.head ≡ head_of id kind.Box o.number.0 1) (sym store) l.head;
        empty = l.empty;
        room = l.room;
      });
  apart = subst (λ (bs : List OpenBox). AllPairs HaveOtherNumbers bs) (sym made) k.apart;
  held = λ _. subst (λ (bs : List OpenBox). All (IsHeldBy new) bs) (sym made)
      (held_beside name old new v.made others (apart_from v.map v.drawn name v.made (λ number q. absurd (let p : file.Box number 1 ≡ file.Map generation = q ∙ is in cc p)) k.are_made) (k.held runs));
}

pub room_deleted : {D : Type 0} → (n : ℕ) (v w : StoreValue D) (log : LogState) → HasEntryRoom v → v.map_log.room ≤ log.room → w.map_log.room ≡ log.room → w.boxes ≡ without_box n v.boxes → HasEntryRoom w
room_deleted n v w log room more same boxes = record {
  map_log = let a : entry_room ≤ v.map_log.room = room.map_log in omega (arith, a, more, same);
  box_logs = subst (λ (bs : List OpenBox). All (λ (o : OpenBox). entry_room ≤ o.log.room) bs) (sym boxes) (All-filter (λ (o : OpenBox). not (o.number.0 == n)) (λ (o : OpenBox). entry_room ≤ o.log.room) v.boxes room.box_logs);
}

-- the logs of mailboxes have numbers of their own
pub boxes_apart : {D : Type 0} → (h : Option History) (v : StoreValue D) → IsStore h v → AllPairs HaveOtherNumbers v.boxes
boxes_apart h v s = by_boxes v.map.boxes v.boxes s.box_logs (store_sound h v s).boxes_rising
  where
    above : (m : MapBox) (b : OpenBox) (ms : List MapBox) (bs : List OpenBox) → b.number.0 ≡ m.number → AreBoxLogs v.map.store ms bs → All (λ (o : MapBox). m.number < o.number) ms → All (HaveOtherNumbers b) bs
    above m b [] [] is a up = All-nil (HaveOtherNumbers b)
    above m b [] (o ∷ os) is a up = absurd a
    above m b (n ∷ ns) [] is a up = absurd a
    above m b (n ∷ ns) (o ∷ os) is a up =
        let less : m.number < n.number = All-head (λ (x : MapBox). m.number < x.number) n ns up in
        let same : o.number.0 ≡ n.number = a.0 in
        All-cons (HaveOtherNumbers b) o os (λ e. absurd (omega (arith, less, same, is, e))) (above m b ns os is a.3 (All-tail (λ (x : MapBox). m.number < x.number) n ns up))

    by_boxes : (ms : List MapBox) (bs : List OpenBox) → AreBoxLogs v.map.store ms bs → AllPairs (λ a b. a.number < b.number) ms → AllPairs HaveOtherNumbers bs
    by_boxes [] [] a rise = pairs_nil HaveOtherNumbers
    by_boxes [] (o ∷ os) a rise = absurd a
    by_boxes (n ∷ ns) [] a rise = absurd a
    by_boxes (n ∷ ns) (o ∷ os) a rise = AllPairs-cons HaveOtherNumbers o os (above n o ns os a.0 a.3 (pairs_head (λ (x y : MapBox). x.number < y.number) n ns rise)) (by_boxes ns os a.3 (pairs_tail (λ (x y : MapBox). x.number < y.number) n ns rise))

-- ---- numbers that no mailbox has

pub unnamed_deleted : (mailbox : BoxNo) (amounts : List MapCount) (m : MapMeaning) (n : ℕ) → IsUnnamed n m → IsUnnamed n (map_applied (entry.X mailbox amounts) m)
unnamed_deleted mailbox amounts m n unnamed =
    subst (λ (bs : List MapBox). All (λ (box : MapBox). box.number ≢ n) bs) (sym (boxes_by_deleted mailbox amounts m.boxes)) (All-filter (λ (box : MapBox). not (mailbox.0 == box.number)) (λ (box : MapBox). box.number ≢ n) m.boxes unnamed)

still_apart : (mailbox : BoxNo) (name : List ℕ) (n : ℕ) (box : MapBox) → box.number ≢ n → (box_changed (entry.V mailbox name) box).number ≢ n
still_apart mailbox name n box apart = by_test (mailbox.0 == box.number)
  where
    by_test : (t : Bool) → (if t then record box { name = name } else box).number ≢ n
    by_test true = apart
    by_test false = apart

pub unnamed_renamed : (mailbox : BoxNo) (name : List ℕ) (m : MapMeaning) (n : ℕ) → IsUnnamed n m → IsUnnamed n (map_applied (entry.V mailbox name) m)
unnamed_renamed mailbox name m n unnamed =
    subst (λ (bs : List MapBox). All (λ (box : MapBox). box.number ≢ n) bs) (sym (boxes_by_renamed mailbox name m.boxes))
    (all_map (λ (box : MapBox). box.number ≢ n) (λ (box : MapBox). box.number ≢ n) (box_changed (entry.V mailbox name)) (λ box apart. still_apart mailbox name n box apart) m.boxes unnamed)

gone_after : {D : Type 0} → (old new : StoreValue D) → ((n : ℕ) → IsUnnamed n old.map → IsUnnamed n new.map) → old.map.highest.mailbox ≤ new.map.highest.mailbox → new.made ≡ old.made → KeepsGone old new
gone_after old new unnamed higher made = λ n g. record {
  given = let below = g.given in omega (arith, below, higher);
  unnamed = unnamed n g.unnamed;
  unmade = ap (list_any (λ (o : OpenBox). o.number.0 == n)) made ∙ g.unmade;
}

-- the highest number doesn't fall
higher_with : (e : MapEntry) (m n : MapMeaning) → n ≡ map_applied e m → m.highest.mailbox ≤ n.highest.mailbox
higher_with e m n is = let same : n.highest.mailbox ≡ (map_applied e m).highest.mailbox = ap (λ (k : MapMeaning). k.highest.mailbox) is in omega (arith, same)

pub gone_deleted : {D : Type 0} → (mailbox : BoxNo) (amounts : List MapCount) (old new : StoreValue D) → new.map ≡ map_applied (entry.X mailbox amounts) old.map → new.made ≡ old.made → KeepsGone old new
gone_deleted mailbox amounts old new is made = gone_after old new (λ n unnamed. subst (IsUnnamed n) (sym is) (unnamed_deleted mailbox amounts old.map n unnamed)) (higher_with (entry.X mailbox amounts) old.map new.map is) made

pub gone_renamed : {D : Type 0} → (mailbox : BoxNo) (name : List ℕ) (old new : StoreValue D) → new.map ≡ map_applied (entry.V mailbox name) old.map → new.made ≡ old.made → KeepsGone old new
gone_renamed mailbox name old new is made = gone_after old new (λ n unnamed. subst (IsUnnamed n) (sym is) (unnamed_renamed mailbox name old.map n unnamed)) (higher_with (entry.V mailbox name) old.map new.map is) made

pub gone_untaken : {D : Type 0} → (old new : StoreValue D) → new.map ≡ old.map → new.made ≡ old.made → KeepsGone old new
gone_untaken old new is made = gone_after old new (λ n unnamed. subst (IsUnnamed n) (sym is) unnamed) (let same : new.map.highest.mailbox ≡ old.map.highest.mailbox = ap (λ (k : MapMeaning). k.highest.mailbox) is in omega (arith, same)) made

-- ---- UIDs that others have taken from

-- each number names what it did, or nothing any more
uids_after : {D : Type 0} → (old new : StoreValue D) → ((n : ℕ) → (list_numbered new n ≡ list_numbered old n) ⊎ (list_numbered new n ≡ None)) → old.map.highest.mailbox ≤ new.map.highest.mailbox → KeepsUids old new
uids_after old new listed higher = λ n uid held k. record {
  given = let below = k.given in omega (arith, below, higher);
  below = by_list n (λ m. uid < m.next) k.below;
  same = by_list n (λ m. (row : LogRow) → row_at m uid ≡ Some row → row.map_uid ≡ held) k.same;
}
  where
    by_list : (n : ℕ) (P : BoxMeaning → Type 0) → IfSome (list_numbered old n) P → IfSome (list_numbered new n) P
    by_list n P h = elim (listed n) [
      | inl same ↦ subst (λ (o : Option BoxMeaning). IfSome o P) (sym same) h
      | inr none ↦ subst (λ (o : Option BoxMeaning). IfSome o P) (sym none) tt
    ]

pub uids_deleted : {D : Type 0} → (mailbox : BoxNo) (amounts : List MapCount) (old new : StoreValue D) → new.map ≡ map_applied (entry.X mailbox amounts) old.map → indexes_of new.boxes ≡ beside_without mailbox.0 old.map.boxes (indexes_of old.boxes) → KeepsUids old new
uids_deleted mailbox amounts old new is indexes = uids_after old new listed (higher_with (entry.X mailbox amounts) old.map new.map is)
  where
    lists : (n : ℕ) → list_numbered new n ≡ meaning_numbered n (filter (λ box. not (mailbox.0 == box.number)) old.map.boxes) (beside_without mailbox.0 old.map.boxes (indexes_of old.boxes))
    lists n = ap (λ (m : MapMeaning). meaning_numbered n m.boxes (indexes_of new.boxes)) is ∙ ap (λ (bs : List MapBox). meaning_numbered n bs (indexes_of new.boxes)) (boxes_by_deleted mailbox amounts old.map.boxes)
        ∙ ap (meaning_numbered n (filter (λ (box : MapBox). not (mailbox.0 == box.number)) old.map.boxes)) indexes

    listed : (n : ℕ) → (list_numbered new n ≡ list_numbered old n) ⊎ (list_numbered new n ≡ None)
    listed n = elim (cases_eq n mailbox.0) [
      | inl same ↦ inr (lists n ∙ ap (λ (k : ℕ). meaning_numbered k (filter (λ (box : MapBox). not (mailbox.0 == box.number)) old.map.boxes) (beside_without mailbox.0 old.map.boxes (indexes_of old.boxes))) same ∙ numbered_gone mailbox.0 old.map.boxes (indexes_of old.boxes))
      | inr apart ↦ inl (lists n ∙ numbered_without mailbox.0 n old.map.boxes (indexes_of old.boxes) apart)
    ]

pub uids_renamed : {D : Type 0} → (mailbox : BoxNo) (name : List ℕ) (old new : StoreValue D) → new.map ≡ map_applied (entry.V mailbox name) old.map → new.boxes ≡ old.boxes → KeepsUids old new
uids_renamed mailbox name old new is boxes = uids_after old new
    (λ n. inl (ap (λ (bs : List OpenBox). meaning_numbered n new.map.boxes (indexes_of bs)) boxes ∙ ap (λ (m : MapMeaning). meaning_numbered n m.boxes (indexes_of old.boxes)) is
    ∙ ap (λ (bs : List MapBox). meaning_numbered n bs (indexes_of old.boxes)) (boxes_by_renamed mailbox name old.map.boxes) ∙ numbered_renamed mailbox name n old.map.boxes (indexes_of old.boxes))) (higher_with (entry.V mailbox name) old.map new.map is)

pub uids_untaken : {D : Type 0} → (old new : StoreValue D) → new.map ≡ old.map → new.boxes ≡ old.boxes → KeepsUids old new
uids_untaken old new is boxes = uids_after old new
    (λ n. inl (ap (λ (bs : List OpenBox). meaning_numbered n new.map.boxes (indexes_of bs)) boxes ∙ ap (λ (m : MapMeaning). meaning_numbered n m.boxes (indexes_of old.boxes)) is))
    (let same : new.map.highest.mailbox ≡ old.map.highest.mailbox = ap (λ (k : MapMeaning). k.highest.mailbox) is in omega (arith, same))

-- ---- what is due, and what leaks

pub indexes_deleted : {D : Type 0} → (h : Option History) (n : ℕ) (v : StoreValue D) (boxes : List OpenBox) → IsStore h v → boxes ≡ without_box n v.boxes → indexes_of boxes ≡ beside_without n v.map.boxes (indexes_of v.boxes)
indexes_deleted h n v boxes s is = ap indexes_of (is ∙ boxes_beside n v.map.store v.map.boxes v.boxes s.box_logs) ∙ sym (beside_map (λ (o : OpenBox). o.index.meaning) n v.map.boxes v.boxes)

pub due_deleted : {D : Type 0} → (mailbox : BoxNo) (amounts : List MapCount) (uid : ℕ) (v w : StoreValue D) → w.map ≡ map_applied (entry.X mailbox amounts) v.map → w.dues ≡ v.dues → due_at uid w ≡ due_at uid v
due_deleted mailbox amounts uid v w is dues =
    ap (λ (m : MapMeaning). number_beside uid m.records w.dues) is ∙ ap (number_beside uid (map_applied (entry.X mailbox amounts) v.map).records) dues ∙ ap (λ (rows : List MapRecord). number_beside uid rows v.dues) (records_by_deleted mailbox amounts v.map.records)
    ∙ beside_changed (record_changed (entry.X mailbox amounts)) (λ r. record { uid = refl; origin = refl; file = refl; offset = refl; size = refl; guid = refl; instances = refl }) uid v.map.records v.dues

-- the count falls by the amount
count_falls : (mailbox : BoxNo) (amounts : List MapCount) (uid : ℕ) (rows : List MapRecord) → number_beside uid (map (record_changed (entry.X mailbox amounts)) rows) (map (λ row. row.count) (map (record_changed (entry.X mailbox amounts)) rows)) ≡ number_beside uid rows (map (λ row. row.count) rows) - count_given uid amounts 0
count_falls mailbox amounts uid [] = omega arith
count_falls mailbox amounts uid (r ∷ rs) = by_test (r.uid == uid) refl (count_falls mailbox amounts uid rs)
  where
    by_test : (t : Bool) → (r.uid == uid) ≡ t → number_beside uid (map (record_changed (entry.X mailbox amounts)) rs) (map (λ row. row.count) (map (record_changed (entry.X mailbox amounts)) rs)) ≡ number_beside uid rs (map (λ row. row.count) rs) - count_given uid amounts 0
        → cond t (r.count - count_given r.uid amounts 0) (number_beside uid (map (record_changed (entry.X mailbox amounts)) rs) (map (λ row. row.count) (map (record_changed (entry.X mailbox amounts)) rs))) ≡ cond t r.count (number_beside uid rs (map (λ row. row.count) rs)) - count_given uid amounts 0
    by_test true e rest = ap (λ (k : ℕ). r.count - count_given k amounts 0) (equal_is r.uid uid e)
    by_test false e rest = rest

pub leak_deleted : {D : Type 0} → (h : Option History) (mailbox : BoxNo) (amounts : List MapCount) (uid : ℕ) (v w : StoreValue D) → (s : IsStore h v) → AreAmounts mailbox amounts v → w.map ≡ map_applied (entry.X mailbox amounts) v.map → w.dues ≡ v.dues
    → indexes_of w.boxes ≡ beside_without mailbox.0 v.map.boxes (indexes_of v.boxes) → leak_at uid w ≡ leak_at uid v
leak_deleted h mailbox amounts uid v w s a is dues indexes =
    let e : MapEntry = entry.X mailbox amounts in
    let due : due_at uid w ≡ due_at uid v = due_deleted mailbox amounts uid v w is dues in
    let count : number_beside uid w.map.records (map (λ row. row.count) w.map.records) ≡ number_beside uid v.map.records (map (λ row. row.count) v.map.records) - count_given uid amounts 0 =
    ap (λ (m : MapMeaning). number_beside uid m.records (map (λ (row : MapRecord). row.count) m.records)) is
    ∙ ap (λ (rows : List MapRecord). number_beside uid rows (map (λ (row : MapRecord). row.count) rows)) (records_by_deleted mailbox amounts v.map.records) ∙ count_falls mailbox amounts uid v.map.records in
    let now : listed_at uid w ≡ listed_of (beside_without mailbox.0 v.map.boxes s.logs) uid =
    ap (λ (ms : List BoxMeaning). sum_by (λ (m : BoxMeaning). count_by (λ row. row.map_uid == uid) m.rows) ms) (indexes ∙ ap (beside_without mailbox.0 v.map.boxes) s.boxes_are ∙ beside_map box_meaning mailbox.0 v.map.boxes s.logs)
    ∙ listed_meant uid (beside_without mailbox.0 v.map.boxes s.logs) in
    let before : listed_at uid v ≡ listed_of s.logs uid = listed_there h v s uid in
    let falls = listed_falls h v mailbox amounts uid s a in
    omega (arith, due, count, now, before, falls)

-- the records and the listings stay
pub leak_renamed : (uid : ℕ) (rows old_rows : List MapRecord) (dues old_dues : List ℕ) (boxes old_boxes : List OpenBox) → rows ≡ old_rows → dues ≡ old_dues → boxes ≡ old_boxes
    → number_beside uid rows (map (λ row. row.count) rows) - (sum_by (λ (m : BoxMeaning). count_by (λ row. row.map_uid == uid) m.rows) (indexes_of boxes) + number_beside uid rows dues)
    ≡ number_beside uid old_rows (map (λ row. row.count) old_rows) - (sum_by (λ (m : BoxMeaning). count_by (λ row. row.map_uid == uid) m.rows) (indexes_of old_boxes) + number_beside uid old_rows old_dues)
leak_renamed uid rows old_rows dues old_dues boxes old_boxes records due same =
    ap (λ (bs : List OpenBox). number_beside uid rows (map (λ (row : MapRecord). row.count) rows) - (sum_by (λ (m : BoxMeaning). count_by (λ row. row.map_uid == uid) m.rows) (indexes_of bs) + number_beside uid rows dues)) same
    ∙ ap (λ (rs : List MapRecord). number_beside uid rs (map (λ (row : MapRecord). row.count) rs) - (sum_by (λ (m : BoxMeaning). count_by (λ row. row.map_uid == uid) m.rows) (indexes_of old_boxes) + number_beside uid rs dues)) records
    ∙ ap (λ (ds : List ℕ). number_beside uid old_rows (map (λ (row : MapRecord). row.count) old_rows) - (sum_by (λ (m : BoxMeaning). count_by (λ row. row.map_uid == uid) m.rows) (indexes_of old_boxes) + number_beside uid old_rows ds)) due

-- ---- the deletion that a call has at hand

-- its amounts are those of the mailbox, and it can be appended
pub record Deletes {D : Type 0} (h : Option History) (v : StoreValue D) (log : LogState) (mailbox : BoxNo) (e : MapEntry) : Type 0 where
  pub amounts : List MapCount
  pub is : e ≡ entry.X mailbox amounts
  pub are : AreAmounts mailbox amounts v
  pub can : Changing h (prepared v log v.map v.dues) (entry.X mailbox amounts) (without_box mailbox.0 v.boxes)

pub deletion_there : {D : Type 0} → (h : Option History) (v now : StoreValue D) (log : LogState) (mailbox : BoxNo) (m : BoxMeaning) (e : MapEntry) → IsStore h v → v ≡ now → now.stopped ≡ false → log ≡ record v.map_log { room = log.room } → list_numbered now mailbox.0 ≡ Some m → length m.rows ≤ 1000000
    → IsDeletionOf mailbox m.rows e → Deletes h v log mailbox e
deletion_there h v now log mailbox m e s is running same at short d =
    let are = amounts_there h v now mailbox m d.0 s is at short d.2 in
    record { amounts = d.0; is = d.1; are = are; can = can_delete h v now log mailbox d.0 s is running same are }

-- what the call asks for its entry's octets
pub range_there : {D : Type 0} → (h : Option History) (v now : StoreValue D) (mailbox : BoxNo) (m : BoxMeaning) → IsStore h v → v ≡ now → list_numbered now mailbox.0 ≡ Some m → length m.rows ≤ 1000000
    → (amounts : List MapCount) → AreAmountsOf (map (λ row. row.map_uid) m.rows) amounts → MapInRange (entry.X mailbox amounts)
range_there h v now mailbox m s is at short amounts a = (amounts_there h v now mailbox m amounts s is at short a).in_range

pub few_there : {D : Type 0} → (h : Option History) (v now : StoreValue D) (n : ℕ) (m : BoxMeaning) → IsStore h v → v ≡ now → list_numbered now n ≡ Some m → (uid : ℕ) → in_rows uid m.rows ≤ 65535
few_there h v now n m s is at uid = few_listed h v n m uid s (ap (λ (x : StoreValue _). list_numbered x n) is ∙ at)

-- the same of the store as the caller sees it
pub amounts_as : {D : Type 0} → (v now : StoreValue D) (mailbox : BoxNo) (amounts : List MapCount) → v ≡ now → AreAmounts mailbox amounts v → AreAmounts mailbox amounts now
amounts_as v now mailbox amounts is a = subst (λ (x : StoreValue _). AreAmounts mailbox amounts x) is a
