-- Logs that are good, and files that open, where a mailbox is deleted or renamed.
use Rattle.model_appends.proofs.Common.{◌≡◌, ◌+◌, ◌==◌, ℕ, Bool, true, false, not, cond, List, [], ◌∷◌, ◌++◌, length, map, filter, flat_map, find, Option, Some, None, All, Contains, ◌≤◌, refl, AllByRecursion, bytes_eq, sym, ◌∙◌, ap, arith, subst, All-contains, All-weaker, Files, BoxNo, MapCount}
use Rattle.model_appends.proofs.Common.{BoxEntry, InstRow, MapEntry, Lists, refs_of, map_text, MapInRange, only_changes, boxes_by_deleted, boxes_by_renamed, each_more, map_fit_more, map_more, map_sound, IsSoundMap, LogRow, box_meaning, rows_after, MapFits, MapRecord, MapBox, MapMeaning, map_meaning}
use Rattle.model_appends.proofs.Common.{record_at, record_of, count_of, record_changed, record_rules, box_changed, rows_by, all_map, found_one, text_is, at_uid, count_is, AreGoodLogs, AreBoxEntries, HasItsRecord, PassBoxes, IsCounted, Opens, listed_of, LiesInFile, IsThereWhole, AreMailboxes}
use Rattle.model_appends.proofs.Common.{StandsBy, SameBut, HasOneMore}
use Rattle.std.specs.Prelude.{suc}
use Rattle.disk_model.specs.declared.name.FileName.TheVariants as file
use Rattle.mdbox_base.specs.declared.entries.MapEntry.TheVariants as entry
use Rattle.model_meaning.specs.MapMeaning.{count_given}
use Rattle.model_store.proofs.OpeningSafeLemmas.{counted, listed_are_refs, passed_by, unlisted}
use Rattle.model_store.specs.Opening.{PassesBox}
use Rattle.model_appends.specs.MapAppending.{ChangesMailbox, NamesListed, beside_changed, beside_without, lists_changed}
use Rattle.model_appends.proofs.AppendFileLemmas.{SameButCount, SameStored, count_itself, map_stored}
use Rattle.model_appends.proofs.AppendMapLemmas.{find_changed, map_log_more}
use Rattle.model_appends.proofs.AppendBoxLemmas.{box_log_as}
use Rattle.model_appends.proofs.DeletedMailboxLemmas.{listed_split}
use Rattle.model_appends.proofs.AppendSafeLemmas.{regions_as, instances_as}
use Rattle.model_appends.proofs.AppendSafeMapLemmas.{lies_same, mailboxes_without, named_same, renamed_refs}

-- ---- records

changed_count : (e : MapEntry) → ChangesMailbox e → (row : MapRecord) → SameButCount row (record_changed e row)
changed_count (entry.X k cs) c row = record { uid = refl; origin = refl; file = refl; offset = refl; size = refl; guid = refl; instances = refl }
changed_count (entry.V k n) c row = count_itself row
changed_count (entry.H h) c row = absurd c
changed_count (entry.B k g n) c row = absurd c
changed_count (entry.G k g) c row = absurd c
changed_count (entry.S o k u f a z g is) c row = absurd c
changed_count (entry.U u) c row = absurd c
changed_count (entry.D us) c row = absurd c
changed_count (entry.T cs) c row = absurd c
changed_count (entry.P f t ms us) c row = absurd c
changed_count (entry.E f) c row = absurd c

changed_records : (e : MapEntry) → ChangesMailbox e → (rows : List MapRecord) → rows_by record_rules e rows ≡ map (record_changed e) rows
changed_records (entry.X k cs) c rows = only_changes (record_changed (entry.X k cs)) rows
changed_records (entry.V k n) c rows = only_changes (record_changed (entry.V k n)) rows
changed_records (entry.H h) c rows = absurd c
changed_records (entry.B k g n) c rows = absurd c
changed_records (entry.G k g) c rows = absurd c
changed_records (entry.S o k u f a z g is) c rows = absurd c
changed_records (entry.U u) c rows = absurd c
changed_records (entry.D us) c rows = absurd c
changed_records (entry.T cs) c rows = absurd c
changed_records (entry.P f t ms us) c rows = absurd c
changed_records (entry.E f) c rows = absurd c

records_are : (store : List ℕ) (entries : List MapEntry) (e : MapEntry) → ChangesMailbox e → (map_meaning store (entries ++ e ∷ [])).records ≡ map (record_changed e) (map_meaning store entries).records
records_are store entries e c = ap (λ (n : MapMeaning). n.records) (map_more store entries e) ∙ changed_records e c (map_meaning store entries).records

-- a row has its record still
still_there : (store : List ℕ) (entries : List MapEntry) (e : MapEntry) → ChangesMailbox e → (row : LogRow) → HasItsRecord (map_meaning store entries) row → HasItsRecord (map_meaning store (entries ++ e ∷ [])) row
still_there store entries e c row h = (
  record_changed e h.0,
  ap (find (λ (r : MapRecord). r.uid == row.map_uid)) (records_are store entries e c) ∙ find_changed (record_changed e) (changed_count e c) row.map_uid (map_meaning store entries).records h.0 h.1,
  (changed_count e c h.0).guid ∙ h.2,
)

-- ---- what stands beside the mailboxes

by_weaker : {X : Type 0} → (P Q : X → Type 0) → ((x : X) → P x → Q x) → (xs : List X) → AllByRecursion P xs → AllByRecursion Q xs
by_weaker P Q f [] h = tt
by_weaker P Q f (x ∷ xs) h = (f x h.0, by_weaker P Q f xs h.1)

by_beside : {X : Type 0} → (P : X → Type 0) (k : ℕ) (boxes : List MapBox) (xs : List X) → AllByRecursion P xs → AllByRecursion P (beside_without k boxes xs)
by_beside P k [] [] h = tt
by_beside P k [] (x ∷ xs) h = tt
by_beside P k (b ∷ boxes) [] h = tt
by_beside P k (b ∷ boxes) (x ∷ xs) h = by_test (k == b.number) (by_beside P k boxes xs h.1)
  where
    by_test : (t : Bool) → AllByRecursion P (beside_without k boxes xs) → AllByRecursion P (cond t (beside_without k boxes xs) (x ∷ beside_without k boxes xs))
    by_test true rest = rest
    by_test false rest = (h.0, rest)

length_beside : {X : Type 0} → (k : ℕ) (boxes : List MapBox) (xs : List X) → length xs ≡ length boxes → length (beside_without k boxes xs) ≡ length (filter (λ (b : MapBox). not (k == b.number)) boxes)
length_beside k [] [] l = refl
length_beside k [] (x ∷ xs) l = refl
length_beside k (b ∷ boxes) [] l = absurd (omega (arith, l))
length_beside k (b ∷ boxes) (x ∷ xs) l = by_test (k == b.number) (length_beside k boxes xs (omega (arith, l)))
  where
    by_test : (t : Bool) → length (beside_without k boxes xs) ≡ length (filter (λ (c : MapBox). not (k == c.number)) boxes)
        → length (cond t (beside_without k boxes xs) (x ∷ beside_without k boxes xs)) ≡ length (cond (not t) (b ∷ filter (λ (c : MapBox). not (k == c.number)) boxes) (filter (λ (c : MapBox). not (k == c.number)) boxes))
    by_test true rest = rest
    by_test false rest = ap suc rest

length_map : {X Y : Type 0} → (f : X → Y) (xs : List X) → length (map f xs) ≡ length xs
length_map f [] = refl
length_map f (x ∷ xs) = ap suc (length_map f xs)

-- ---- good logs

good_with : (store : List ℕ) (entries : List MapEntry) (logs later : List (List BoxEntry)) (e : MapEntry) → AreGoodLogs store entries logs → ChangesMailbox e → MapInRange e → MapFits (map_meaning store entries) e
    → ((P : List BoxEntry → Type 0) → AllByRecursion P logs → AllByRecursion P later) → length later ≡ length (map_meaning store (entries ++ e ∷ [])).boxes
    → All (IsCounted later) (map_meaning store (entries ++ e ∷ [])).records → AreGoodLogs store (entries ++ e ∷ []) later
good_with store entries logs later e h c in_range fits keep one counts =
    let m : MapMeaning = map_meaning store entries in
    let n : MapMeaning = map_meaning store (entries ++ e ∷ []) in
    record {
      map_entries = (each_more MapInRange entries e h.map_entries.0 in_range, map_fit_more store [] entries e h.map_entries.1 fits);
      box_entries = keep AreBoxEntries h.box_entries;
      one_each = one;
      records = keep (λ log. All (HasItsRecord n) (rows_after log)) (by_weaker (λ log. All (HasItsRecord m) (rows_after log)) (λ log. All (HasItsRecord n) (rows_after log))
          (λ log k. All-weaker (HasItsRecord m) (HasItsRecord n) (still_there store entries e c) (rows_after log) k) logs h.records);
      counts = counts;
    }

-- Good logs are good where a mailbox is deleted or renamed, if the counts are enough.
pub good_by_change : (store : List ℕ) (entries : List MapEntry) (logs : List (List BoxEntry)) (e : MapEntry) → AreGoodLogs store entries logs → ChangesMailbox e → MapInRange e → MapFits (map_meaning store entries) e
    → All (IsCounted (beside_changed e (map_meaning store entries).boxes logs)) (map_meaning store (entries ++ e ∷ [])).records → AreGoodLogs store (entries ++ e ∷ []) (beside_changed e (map_meaning store entries).boxes logs)
good_by_change store entries logs (entry.X k cs) h c in_range fits counts =
    good_with store entries logs (beside_without k.0 (map_meaning store entries).boxes logs) (entry.X k cs) h c in_range fits (λ P all. by_beside P k.0 (map_meaning store entries).boxes logs all)
    (length_beside k.0 (map_meaning store entries).boxes logs h.one_each ∙ ap length (sym (ap (λ (n : MapMeaning). n.boxes) (map_more store entries (entry.X k cs)) ∙ boxes_by_deleted k cs (map_meaning store entries).boxes))) counts
good_by_change store entries logs (entry.V k n) h c in_range fits counts =
    good_with store entries logs logs (entry.V k n) h c in_range fits (λ P all. all)
    (h.one_each ∙ sym (length_map (box_changed (entry.V k n)) (map_meaning store entries).boxes) ∙ ap length (sym (ap (λ (m : MapMeaning). m.boxes) (map_more store entries (entry.V k n)) ∙ boxes_by_renamed k n (map_meaning store entries).boxes))) counts
good_by_change store entries logs (entry.H a) h c in_range fits counts = absurd c
good_by_change store entries logs (entry.B k g n) h c in_range fits counts = absurd c
good_by_change store entries logs (entry.G k g) h c in_range fits counts = absurd c
good_by_change store entries logs (entry.S o k u f a z g is) h c in_range fits counts = absurd c
good_by_change store entries logs (entry.U u) h c in_range fits counts = absurd c
good_by_change store entries logs (entry.D us) h c in_range fits counts = absurd c
good_by_change store entries logs (entry.T cs) h c in_range fits counts = absurd c
good_by_change store entries logs (entry.P f t ms us) h c in_range fits counts = absurd c
good_by_change store entries logs (entry.E f) h c in_range fits counts = absurd c

-- ---- files that open

passes_still : (a b : Files) (store : List ℕ) (entries : List MapEntry) (e : MapEntry) (g : ℕ) (boxes : List MapBox) (logs : List (List BoxEntry)) → ChangesMailbox e → SameBut (file.Map g) a b
    → PassBoxes a (map_meaning store entries) boxes logs → PassBoxes b (map_meaning store (entries ++ e ∷ [])) boxes logs
passes_still a b store entries e g [] [] c s h = tt
passes_still a b store entries e g [] (log ∷ logs) c s h = absurd h
passes_still a b store entries e g (box ∷ boxes) [] c s h = absurd h
passes_still a b store entries e g (box ∷ boxes) (log ∷ logs) c s h = (
  record {
    log = box_log_as a b store box log (s (file.Box box.number box.generation) (λ p. absurd (cc p))) h.0.log;
    records = All-weaker (HasItsRecord (map_meaning store entries)) (HasItsRecord (map_meaning store (entries ++ e ∷ []))) (still_there store entries e c) (rows_after log) h.0.records;
  },
  passes_still a b store entries e g boxes logs c s h.1,
)

passes_without : (b : Files) (n : MapMeaning) (k : ℕ) (boxes : List MapBox) (logs : List (List BoxEntry)) → PassBoxes b n boxes logs → PassBoxes b n (filter (λ (box : MapBox). not (k == box.number)) boxes) (beside_without k boxes logs)
passes_without b n k [] [] h = tt
passes_without b n k [] (log ∷ logs) h = absurd h
passes_without b n k (box ∷ boxes) [] h = absurd h
passes_without b n k (box ∷ boxes) (log ∷ logs) h = by_test (k == box.number) (passes_without b n k boxes logs h.1)
  where
    by_test : (t : Bool) → PassBoxes b n (filter (λ (c : MapBox). not (k == c.number)) boxes) (beside_without k boxes logs)
        → PassBoxes b n (cond (not t) (box ∷ filter (λ (c : MapBox). not (k == c.number)) boxes) (filter (λ (c : MapBox). not (k == c.number)) boxes)) (cond t (beside_without k boxes logs) (log ∷ beside_without k boxes logs))
    by_test true rest = rest
    by_test false rest = (h.0, rest)

passes_renamed : (b : Files) (n : MapMeaning) (k : BoxNo) (name : List ℕ) (boxes : List MapBox) (logs : List (List BoxEntry)) → PassBoxes b n boxes logs → PassBoxes b n (map (box_changed (entry.V k name)) boxes) logs
passes_renamed b n k name [] [] h = tt
passes_renamed b n k name [] (log ∷ logs) h = absurd h
passes_renamed b n k name (box ∷ boxes) [] h = absurd h
passes_renamed b n k name (box ∷ boxes) (log ∷ logs) h = (one (k.0 == box.number), passes_renamed b n k name boxes logs h.1)
  where
    one : (t : Bool) → PassesBox b n (cond t (record box { name = name }) box) log
    one true = record { log = record { log = h.0.log.log; in_range = h.0.log.in_range; fit = h.0.log.fit }; records = h.0.records }
    one false = h.0

opens_with : (a b : Files) (store : List ℕ) (entries : List MapEntry) (logs later : List (List BoxEntry)) (e : MapEntry) → (o : Opens a store entries logs) → ChangesMailbox e → MapInRange e → MapFits (map_meaning store entries) e
    → All (IsCounted later) (map_meaning store (entries ++ e ∷ [])).records → SameBut (file.Map o.passed.map_log.generation) a b
    → HasOneMore (map_text e) (a (file.Map o.passed.map_log.generation)) (b (file.Map o.passed.map_log.generation))
    → PassBoxes b (map_meaning store (entries ++ e ∷ [])) (map_meaning store (entries ++ e ∷ [])).boxes later → Opens b store (entries ++ e ∷ []) later
opens_with a b store entries logs later e o c in_range fits counts same more boxes =
    let m : MapMeaning = map_meaning store entries in
    let n : MapMeaning = map_meaning store (entries ++ e ∷ []) in
    let stored : SameStored a b = map_stored o.passed.map_log.generation a b same in
    let records : n.records ≡ map (record_changed e) m.records = records_are store entries e c in
    record {
      passed = record { map_log = map_log_more a b store entries e o.passed.map_log in_range fits same more; boxes = boxes };
      counts = counts;
      regions = subst (λ (rows : List MapRecord). All (LiesInFile b) rows) (sym records)
          (all_map (LiesInFile a) (LiesInFile b) (record_changed e) (λ row h. regions_as a b (record_changed e row) stored (lies_same a row (record_changed e row) (changed_count e c row) h)) m.records o.regions);
      instances = subst (λ (is : List InstRow). All (IsThereWhole b) is) (sym (ap (flat_map (λ (r : MapRecord). r.instances)) records ∙ named_same (record_changed e) (changed_count e c) m.records))
          (All-weaker (IsThereWhole a) (IsThereWhole b) (λ inst h. instances_as a b inst stored h) (flat_map (λ (r : MapRecord). r.instances) m.records) o.instances);
    }

-- Files that open, with the entry more in the map log and all else the same, open, if the counts are enough.
pub opens_by_change : (a b : Files) (store : List ℕ) (entries : List MapEntry) (logs : List (List BoxEntry)) (e : MapEntry) → (o : Opens a store entries logs) → ChangesMailbox e → MapInRange e → MapFits (map_meaning store entries) e
    → All (IsCounted (beside_changed e (map_meaning store entries).boxes logs)) (map_meaning store (entries ++ e ∷ [])).records → SameBut (file.Map o.passed.map_log.generation) a b
    → HasOneMore (map_text e) (a (file.Map o.passed.map_log.generation)) (b (file.Map o.passed.map_log.generation)) → Opens b store (entries ++ e ∷ []) (beside_changed e (map_meaning store entries).boxes logs)
opens_by_change a b store entries logs (entry.X k cs) o c in_range fits counts same more =
    let e : MapEntry = entry.X k cs in
    let m : MapMeaning = map_meaning store entries in
    opens_with a b store entries logs (beside_without k.0 m.boxes logs) e o c in_range fits counts same more
    (subst (λ (bs : List MapBox). PassBoxes b (map_meaning store (entries ++ e ∷ [])) bs (beside_without k.0 m.boxes logs)) (sym (ap (λ (n : MapMeaning). n.boxes) (map_more store entries e) ∙ boxes_by_deleted k cs m.boxes))
    (passes_without b (map_meaning store (entries ++ e ∷ [])) k.0 m.boxes logs (passes_still a b store entries e o.passed.map_log.generation m.boxes logs c same o.passed.boxes)))
opens_by_change a b store entries logs (entry.V k name) o c in_range fits counts same more =
    let e : MapEntry = entry.V k name in
    let m : MapMeaning = map_meaning store entries in
    opens_with a b store entries logs logs e o c in_range fits counts same more
    (subst (λ (bs : List MapBox). PassBoxes b (map_meaning store (entries ++ e ∷ [])) bs logs) (sym (ap (λ (n : MapMeaning). n.boxes) (map_more store entries e) ∙ boxes_by_renamed k name m.boxes))
    (passes_renamed b (map_meaning store (entries ++ e ∷ [])) k name m.boxes logs (passes_still a b store entries e o.passed.map_log.generation m.boxes logs c same o.passed.boxes)))
opens_by_change a b store entries logs (entry.H h) o c in_range fits counts same more = absurd c
opens_by_change a b store entries logs (entry.B k g n) o c in_range fits counts same more = absurd c
opens_by_change a b store entries logs (entry.G k g) o c in_range fits counts same more = absurd c
opens_by_change a b store entries logs (entry.S i k u f x z g is) o c in_range fits counts same more = absurd c
opens_by_change a b store entries logs (entry.U u) o c in_range fits counts same more = absurd c
opens_by_change a b store entries logs (entry.D us) o c in_range fits counts same more = absurd c
opens_by_change a b store entries logs (entry.T cs) o c in_range fits counts same more = absurd c
opens_by_change a b store entries logs (entry.P f t ms us) o c in_range fits counts same more = absurd c
opens_by_change a b store entries logs (entry.E f) o c in_range fits counts same more = absurd c

-- ---- references

counts_with : (files : Files) (store : List ℕ) (entries : List MapEntry) (later : List (List BoxEntry)) (lists new : Lists) (e : MapEntry) → StandsBy files store entries lists → ChangesMailbox e → AreGoodLogs store (entries ++ e ∷ []) later
    → ((row : MapRecord) → Contains (map_meaning store entries).records row → listed_of later row.uid ≡ refs_of new row.guid) → ((guid : List ℕ) → record_of (map_meaning store entries) guid ≡ None → refs_of new guid ≡ 0)
    → (guid : List ℕ) → refs_of new guid ≤ count_of (map_meaning store (entries ++ e ∷ [])) guid
counts_with files store entries later lists new e s c good listed none guid = by_found (record_of m guid) refl
  where
    m : MapMeaning
    m = map_meaning store entries

    n : MapMeaning
    n = map_meaning store (entries ++ e ∷ [])

    by_found : (found : Option MapRecord) → record_of m guid ≡ found → refs_of new guid ≤ count_of n guid
    by_found None is = let z = none guid is in omega (arith, z)
    by_found (Some r) is =
        let one = found_one (λ (x : MapRecord). bytes_eq x.guid guid) m.records r is in
        let guid_is : r.guid ≡ guid = text_is r.guid guid one.1 in
        let old : IsSoundMap m = map_sound store entries s.map_log.fit s.map_log.in_range in
        let sound : IsSoundMap n = map_sound store (entries ++ e ∷ []) good.map_entries.1 good.map_entries.0 in
        let row : MapRecord = record_changed e r in
        let same : SameButCount r row = changed_count e c r in
        let found : record_at n r.uid ≡ Some row = ap (find (λ (x : MapRecord). x.uid == r.uid)) (records_are store entries e c) ∙ find_changed (record_changed e) (changed_count e c) r.uid m.records r (at_uid m r old one.0) in
        let there : Contains n.records row = (found_one (λ (x : MapRecord). x.uid == r.uid) n.records row found).0 in
        let enough : listed_of later row.uid ≤ row.count = All-contains (IsCounted later) n.records row good.counts there in
        let refs : listed_of later row.uid ≡ refs_of new guid = ap (listed_of later) same.uid ∙ listed r one.0 ∙ ap (refs_of new) guid_is in
        let count : count_of n guid ≡ row.count = ap (count_of n) (sym (same.guid ∙ guid_is)) ∙ count_is n row sound there in
        omega (arith, refs, count, enough)

-- Counts that are at least what the logs list that are left are at least the references of the lists that are left.
pub counts_by_change : (files : Files) (store : List ℕ) (entries : List MapEntry) (logs : List (List BoxEntry)) (lists : Lists) (e : MapEntry) → Opens files store entries logs → StandsBy files store entries lists → ChangesMailbox e
    → AreGoodLogs store (entries ++ e ∷ []) (beside_changed e (map_meaning store entries).boxes logs) → (guid : List ℕ) → refs_of (lists_changed e lists) guid ≤ count_of (map_meaning store (entries ++ e ∷ [])) guid
counts_by_change files store entries logs lists (entry.X k cs) o s c good =
    let m : MapMeaning = map_meaning store entries in
    let boxes : List MapBox = filter (λ (box : MapBox). not (k.0 == box.number)) m.boxes in
    let new : Lists = lists_changed (entry.X k cs) lists in
    let left : AreMailboxes files m boxes new = mailboxes_without files m k.0 m.boxes lists s.mailboxes in
    counts_with files store entries (beside_without k.0 m.boxes logs) lists new (entry.X k cs) s c good
    (λ row there. counted files m boxes (beside_without k.0 m.boxes logs) new row (map_sound store entries s.map_log.fit s.map_log.in_range) there (passed_by files m boxes (beside_without k.0 m.boxes logs) new (passes_without files m k.0 m.boxes logs o.passed.boxes) left))
    (λ guid none. unlisted files m guid boxes new none left)
counts_by_change files store entries logs lists (entry.V k name) o s c good =
    let m : MapMeaning = map_meaning store entries in
    counts_with files store entries logs lists (lists_changed (entry.V k name) lists) (entry.V k name) s c good
    (λ row there. listed_are_refs files store entries logs lists row o s there ∙ sym (renamed_refs k.0 name row.guid lists))
    (λ guid none. renamed_refs k.0 name guid lists ∙ unlisted files m guid m.boxes lists none s.mailboxes)
counts_by_change files store entries logs lists (entry.H h) o s c good = absurd c
counts_by_change files store entries logs lists (entry.B k g n) o s c good = absurd c
counts_by_change files store entries logs lists (entry.G k g) o s c good = absurd c
counts_by_change files store entries logs lists (entry.S i k u f x z g is) o s c good = absurd c
counts_by_change files store entries logs lists (entry.U u) o s c good = absurd c
counts_by_change files store entries logs lists (entry.D us) o s c good = absurd c
counts_by_change files store entries logs lists (entry.T cs) o s c good = absurd c
counts_by_change files store entries logs lists (entry.P f t ms us) o s c good = absurd c
counts_by_change files store entries logs lists (entry.E f) o s c good = absurd c

-- A deletion takes the references of a record by the amount that it gives, and a new name none.
pub refs_by_deletion : (files : Files) (store : List ℕ) (entries : List MapEntry) (logs : List (List BoxEntry)) (lists : Lists) (k : BoxNo) (amounts : List MapCount) (row : MapRecord) → Opens files store entries logs → StandsBy files store entries lists
    → AreGoodLogs store entries logs → NamesListed (entry.X k amounts) (map_meaning store entries).boxes (map box_meaning logs) → Contains (map_meaning store entries).records row
    → refs_of (lists_changed (entry.X k amounts) lists) row.guid + count_given row.uid amounts 0 ≡ refs_of lists row.guid
refs_by_deletion files store entries logs lists k amounts row o s good names there =
    let m : MapMeaning = map_meaning store entries in
    let sound : IsSoundMap m = map_sound store entries s.map_log.fit s.map_log.in_range in
    let boxes : List MapBox = filter (λ (box : MapBox). not (k.0 == box.number)) m.boxes in
    let new : Lists = lists_changed (entry.X k amounts) lists in
    let before : listed_of logs row.uid ≡ refs_of lists row.guid = listed_are_refs files store entries logs lists row o s there in
    let now : listed_of (beside_without k.0 m.boxes logs) row.uid ≡ refs_of new row.guid =
    counted files m boxes (beside_without k.0 m.boxes logs) new row sound there (passed_by files m boxes (beside_without k.0 m.boxes logs) new (passes_without files m k.0 m.boxes logs o.passed.boxes) (mailboxes_without files m k.0 m.boxes lists s.mailboxes)) in
    let split = listed_split k.0 row.uid m.boxes logs good.one_each sound.boxes_rising in
    let amount = names row.uid in
    omega (arith, before, now, split, amount)

pub refs_by_name : (mailbox : BoxNo) (name : List ℕ) (lists : Lists) (guid : List ℕ) → refs_of (lists_changed (entry.V mailbox name) lists) guid ≡ refs_of lists guid
refs_by_name mailbox name lists guid = renamed_refs mailbox.0 name guid lists
