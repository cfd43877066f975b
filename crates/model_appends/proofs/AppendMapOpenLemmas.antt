-- Files open with one entry more in the map log, and good logs are good with it.
use Rattle.model_appends.proofs.Common.{◌≡◌, ◌==◌, ◌+◌, ℕ, false, not, List, [], ◌∷◌, ◌++◌, length, map, filter, find, flat_map, Some, All, refl, AllByRecursion, sym, ◌∙◌, subst, ap, All-nil, All-append, All-weaker, All-head, All-tail, Files, InstRow, BoxEntry, MapEntry, map_text, MapInRange}
use Rattle.model_appends.proofs.Common.{each_more, map_fit_more, map_more, LogRow, rows_after, MapFits, MapRecord, MapBox, MapMeaning, map_meaning, record_rules, record_changed, record_made, box_made, record_at, rows_by, all_map, AreGoodLogs, AreBoxEntries, HasItsRecord, PassBoxes, IsCounted, Opens}
use Rattle.model_appends.proofs.Common.{LiesInFile, IsThereWhole, HasBox, HasOneMore, SameBut, OnlyAdds, logs_made}
use Rattle.std.proofs.Common.{suc, length-append}
use Rattle.std.proofs.lemmas.List.Concat.{flat_map-append}
use Rattle.disk_model.specs.declared.name.FileName.TheVariants as file
use Rattle.mdbox_base.specs.declared.entries.MapEntry.TheVariants as entry
use Rattle.model_meaning.specs.MapMeaning.{box_rules, named_instances}
use Rattle.model_appends.proofs.AppendBoxLemmas.{box_log_as}
use Rattle.model_appends.proofs.AppendFileLemmas.{SameButCount, SameStored, count_itself, map_stored}
use Rattle.model_appends.proofs.AppendMapLemmas.{find_changed, find_first, map_log_more}
use Rattle.model_appends.proofs.AppendSafeLemmas.{regions_as, instances_as}
use Rattle.model_appends.proofs.AppendSafeMapLemmas.{same_but_count, named_same, lies_same}

-- ---- what an entry that only adds leaves of records and mailboxes

kept_whole : {R : Type 0} → (rows : List R) → filter (λ row. not false) rows ≡ rows
kept_whole [] = refl
kept_whole (row ∷ rows) = ap (λ (rs : _). row ∷ rs) (kept_whole rows)

pub same_record : (e : MapEntry) → OnlyAdds e → (row : MapRecord) → SameButCount row (record_changed e row)
same_record (entry.U u) o row = same_but_count (entry.U u) tt row
same_record (entry.D us) o row = same_but_count (entry.D us) tt row
same_record (entry.T cs) o row = same_but_count (entry.T cs) tt row
same_record (entry.H h) o row = count_itself row
same_record (entry.E f) o row = count_itself row
same_record (entry.X m cs) o row = absurd o
same_record (entry.V m n) o row = absurd o
same_record (entry.B k g n) o row = count_itself row
same_record (entry.S a c u f p z g is) o row = count_itself row
same_record (entry.G k g) o row = absurd o
same_record (entry.P f t ms us) o row = absurd o

records_applied : (e : MapEntry) → OnlyAdds e → (rows : List MapRecord) → rows_by record_rules e rows ≡ map (record_changed e) rows ++ record_made e
records_applied (entry.U u) o rows = ap (λ (rs : List MapRecord). map (record_changed (entry.U u)) rs ++ []) (kept_whole rows)
records_applied (entry.D us) o rows = ap (λ (rs : List MapRecord). map (record_changed (entry.D us)) rs ++ []) (kept_whole rows)
records_applied (entry.T cs) o rows = ap (λ (rs : List MapRecord). map (record_changed (entry.T cs)) rs ++ []) (kept_whole rows)
records_applied (entry.H h) o rows = ap (λ (rs : List MapRecord). map (record_changed (entry.H h)) rs ++ []) (kept_whole rows)
records_applied (entry.X m cs) o rows = absurd o
records_applied (entry.V m n) o rows = absurd o
records_applied (entry.E f) o rows = ap (λ (rs : List MapRecord). map (record_changed (entry.E f)) rs ++ []) (kept_whole rows)
records_applied (entry.B k g n) o rows = ap (λ (rs : List MapRecord). map (record_changed (entry.B k g n)) rs ++ []) (kept_whole rows)
records_applied (entry.S a c u f p z g is) o rows = ap (λ (rs : List MapRecord). map (record_changed (entry.S a c u f p z g is)) rs ++ record_made (entry.S a c u f p z g is)) (kept_whole rows)
records_applied (entry.G k g) o rows = absurd o
records_applied (entry.P f t ms us) o rows = absurd o

unchanged : {R : Type 0} → (rows : List R) → map (λ row. row) rows ≡ rows
unchanged [] = refl
unchanged (row ∷ rows) = ap (λ (rs : _). row ∷ rs) (unchanged rows)

all_stay : {R : Type 0} → (rows made : List R) → map (λ row. row) (filter (λ row. not false) rows) ++ made ≡ rows ++ made
all_stay rows made = ap (λ (rs : _). rs ++ made) (unchanged (filter (λ row. not false) rows) ∙ kept_whole rows)

boxes_applied : (e : MapEntry) → OnlyAdds e → (boxes : List MapBox) → rows_by box_rules e boxes ≡ boxes ++ box_made e
boxes_applied (entry.U u) o boxes = all_stay boxes []
boxes_applied (entry.D us) o boxes = all_stay boxes []
boxes_applied (entry.T cs) o boxes = all_stay boxes []
boxes_applied (entry.H h) o boxes = all_stay boxes []
boxes_applied (entry.E f) o boxes = all_stay boxes []
boxes_applied (entry.X m cs) o boxes = absurd o
boxes_applied (entry.V m n) o boxes = absurd o
boxes_applied (entry.B k g n) o boxes = all_stay boxes (box_made (entry.B k g n))
boxes_applied (entry.S a c u f p z g is) o boxes = all_stay boxes []
boxes_applied (entry.G k g) o boxes = absurd o
boxes_applied (entry.P f t ms us) o boxes = absurd o

pub records_added : (store : List ℕ) (entries : List MapEntry) (e : MapEntry) → OnlyAdds e → (map_meaning store (entries ++ e ∷ [])).records ≡ map (record_changed e) (map_meaning store entries).records ++ record_made e
records_added store entries e only = ap (λ (n : MapMeaning). n.records) (map_more store entries e) ∙ records_applied e only (map_meaning store entries).records

pub boxes_added : (store : List ℕ) (entries : List MapEntry) (e : MapEntry) → OnlyAdds e → (map_meaning store (entries ++ e ∷ [])).boxes ≡ (map_meaning store entries).boxes ++ box_made e
boxes_added store entries e only = ap (λ (n : MapMeaning). n.boxes) (map_more store entries e) ∙ boxes_applied e only (map_meaning store entries).boxes

-- a record is still found, the same but for its count
pub found_added : (store : List ℕ) (entries : List MapEntry) (e : MapEntry) → OnlyAdds e → (uid : ℕ) (row : MapRecord) → record_at (map_meaning store entries) uid ≡ Some row → record_at (map_meaning store (entries ++ e ∷ [])) uid ≡ Some (record_changed e row)
found_added store entries e only uid row h =
    ap (find (λ (r : MapRecord). r.uid == uid)) (records_added store entries e only)
    ∙ find_first (λ (r : MapRecord). r.uid == uid) (map (record_changed e) (map_meaning store entries).records) (record_made e) (record_changed e row)
    (find_changed (record_changed e) (same_record e only) uid (map_meaning store entries).records row h)

has_still : (store : List ℕ) (entries : List MapEntry) (e : MapEntry) → OnlyAdds e → (row : LogRow) → HasItsRecord (map_meaning store entries) row → HasItsRecord (map_meaning store (entries ++ e ∷ [])) row
has_still store entries e only row h = (record_changed e h.0, found_added store entries e only row.map_uid h.0 h.1, (same_record e only h.0).guid ∙ h.2)

-- ---- good logs

by_append : {X : Type 0} → (P : X → Type 0) (xs ys : List X) → AllByRecursion P xs → AllByRecursion P ys → AllByRecursion P (xs ++ ys)
by_append P [] ys h k = k
by_append P (x ∷ xs) ys h k = (h.0, by_append P xs ys h.1 k)

by_weaker : {X : Type 0} → (P Q : X → Type 0) → ((x : X) → P x → Q x) → (xs : List X) → AllByRecursion P xs → AllByRecursion Q xs
by_weaker P Q f [] h = tt
by_weaker P Q f (x ∷ xs) h = (f x h.0, by_weaker P Q f xs h.1)

-- of the logs of made mailboxes
of_made : (P : List BoxEntry → Type 0) → P [] → (boxes : List MapBox) → AllByRecursion P (map (λ box. []) boxes)
of_made P h [] = tt
of_made P h (box ∷ boxes) = (h, of_made P h boxes)

length_made : (boxes : List MapBox) → length (map (λ box. let log : List BoxEntry = [] in log) boxes) ≡ length boxes
length_made [] = refl
length_made (box ∷ boxes) = ap suc (length_made boxes)

-- Good logs are good with an entry that fits and only adds, where the counts are enough.
pub good_by_map_entry : (store : List ℕ) (entries : List MapEntry) (logs : List (List BoxEntry)) (e : MapEntry) → AreGoodLogs store entries logs → OnlyAdds e → MapInRange e → MapFits (map_meaning store entries) e
    → All (IsCounted (logs_made e logs)) (map_meaning store (entries ++ e ∷ [])).records → AreGoodLogs store (entries ++ e ∷ []) (logs_made e logs)
good_by_map_entry store entries logs e h only in_range fits counts =
    let m : MapMeaning = map_meaning store entries in
    let n : MapMeaning = map_meaning store (entries ++ e ∷ []) in
    record {
      map_entries = (each_more MapInRange entries e h.map_entries.0 in_range, map_fit_more store [] entries e h.map_entries.1 fits);
      box_entries = by_append AreBoxEntries logs (map (λ box. []) (box_made e)) h.box_entries (of_made AreBoxEntries (tt, tt) (box_made e));
      one_each =
          length-append logs (map (λ box. []) (box_made e)) ∙ added _ _ _ _ h.one_each (length_made (box_made e)) ∙ sym (length-append m.boxes (box_made e)) ∙ ap length (sym (boxes_added store entries e only));
      records = by_append (λ log. All (HasItsRecord n) (rows_after log)) logs (map (λ box. []) (box_made e))
          (by_weaker (λ log. All (HasItsRecord m) (rows_after log)) (λ log. All (HasItsRecord n) (rows_after log))
          (λ log k. All-weaker (HasItsRecord m) (HasItsRecord n) (has_still store entries e only) (rows_after log) k) logs h.records)
          (of_made (λ log. All (HasItsRecord n) (rows_after log)) (All-nil (HasItsRecord n)) (box_made e));
      counts = counts;
    }
  where
    added : (a b c d : ℕ) → a ≡ c → b ≡ d → a + b ≡ c + d
    added a b c d p q = cc (p, q)

-- ---- files that open

passes_still : (a b : Files) (store : List ℕ) (entries : List MapEntry) (e : MapEntry) (g : ℕ) (boxes : List MapBox) (logs : List (List BoxEntry)) → OnlyAdds e → SameBut (file.Map g) a b
    → PassBoxes a (map_meaning store entries) boxes logs → PassBoxes b (map_meaning store (entries ++ e ∷ [])) boxes logs
passes_still a b store entries e g [] [] only s h = tt
passes_still a b store entries e g [] (log ∷ logs) only s h = absurd h
passes_still a b store entries e g (box ∷ boxes) [] only s h = absurd h
passes_still a b store entries e g (box ∷ boxes) (log ∷ logs) only s h = (
  record {
    log = box_log_as a b store box log (s (file.Box box.number box.generation) (λ p. absurd (cc p))) h.0.log;
    records = All-weaker (HasItsRecord (map_meaning store entries)) (HasItsRecord (map_meaning store (entries ++ e ∷ []))) (has_still store entries e only) (rows_after log) h.0.records;
  },
  passes_still a b store entries e g boxes logs only s h.1,
)

passes_made : (a b : Files) (n : MapMeaning) (g : ℕ) (boxes : List MapBox) → SameBut (file.Map g) a b → All (λ box. HasBox a n.store box []) boxes → PassBoxes b n boxes (map (λ box. []) boxes)
passes_made a b n g [] s h = tt
passes_made a b n g (box ∷ boxes) s h = (
  record {
    log = box_log_as a b n.store box [] (s (file.Box box.number box.generation) (λ p. absurd (cc p))) (All-head (λ (o : MapBox). HasBox a n.store o []) box boxes h);
    records = All-nil (HasItsRecord n);
  },
  passes_made a b n g boxes s (All-tail (λ (o : MapBox). HasBox a n.store o []) box boxes h),
)

passes_append : (b : Files) (n : MapMeaning) (boxes more : List MapBox) (logs later : List (List BoxEntry)) → PassBoxes b n boxes logs → PassBoxes b n more later → PassBoxes b n (boxes ++ more) (logs ++ later)
passes_append b n [] more [] later h k = k
passes_append b n [] more (log ∷ logs) later h k = absurd h
passes_append b n (box ∷ boxes) more [] later h k = absurd h
passes_append b n (box ∷ boxes) more (log ∷ logs) later h k = (h.0, passes_append b n boxes more logs later h.1 k)

all_instances : (P : InstRow → Type 0) (rows : List MapRecord) → All (λ row. All P row.instances) rows → All P (flat_map (λ row. row.instances) rows)
all_instances P [] h = All-nil P
all_instances P (row ∷ rows) h =
    All-append P row.instances (flat_map (λ (r : MapRecord). r.instances) rows) (All-head (λ (r : MapRecord). All P r.instances) row rows h) (all_instances P rows (All-tail (λ (r : MapRecord). All P r.instances) row rows h))

-- Files that open, with an entry more in the map log and all else the same, open: the entry only adds, what it adds is there,
-- and the counts are enough.
pub opens_by_map_entry : (a b : Files) (store : List ℕ) (entries : List MapEntry) (logs : List (List BoxEntry)) (e : MapEntry) → (o : Opens a store entries logs) → OnlyAdds e → MapInRange e → MapFits (map_meaning store entries) e
    → All (LiesInFile a) (record_made e) → All (λ row. All (IsThereWhole a) row.instances) (record_made e) → All (λ box. HasBox a store box []) (box_made e)
    → All (IsCounted (logs_made e logs)) (map_meaning store (entries ++ e ∷ [])).records → SameBut (file.Map o.passed.map_log.generation) a b
    → HasOneMore (map_text e) (a (file.Map o.passed.map_log.generation)) (b (file.Map o.passed.map_log.generation)) → Opens b store (entries ++ e ∷ []) (logs_made e logs)
opens_by_map_entry a b store entries logs e o only in_range fits lies there made counts same more =
    let m : MapMeaning = map_meaning store entries in
    let n : MapMeaning = map_meaning store (entries ++ e ∷ []) in
    let g : ℕ = o.passed.map_log.generation in
    let stored : SameStored a b = map_stored g a b same in
    let records : n.records ≡ map (record_changed e) m.records ++ record_made e = records_added store entries e only in
    record {
      passed = record {
        map_log = map_log_more a b store entries e o.passed.map_log in_range fits same more;
        boxes = subst (λ (boxes : List MapBox). PassBoxes b n boxes (logs_made e logs)) (sym (boxes_added store entries e only))
            (passes_append b n m.boxes (box_made e) logs (map (λ box. []) (box_made e)) (passes_still a b store entries e g m.boxes logs only same o.passed.boxes) (passes_made a b n g (box_made e) same made));
      };
      counts = counts;
      regions = subst (λ (rows : List MapRecord). All (LiesInFile b) rows) (sym records) (All-append (LiesInFile b) (map (record_changed e) m.records) (record_made e)
          (all_map (LiesInFile a) (LiesInFile b) (record_changed e) (λ row h. regions_as a b (record_changed e row) stored (lies_same a row (record_changed e row) (same_record e only row) h)) m.records o.regions)
          (All-weaker (LiesInFile a) (LiesInFile b) (λ row r. regions_as a b row stored r) (record_made e) lies));
      instances = subst (λ (is : List InstRow). All (IsThereWhole b) is)
          (sym (ap (flat_map (λ (r : MapRecord). r.instances)) records ∙ flat_map-append (λ (r : MapRecord). r.instances) (map (record_changed e) m.records) (record_made e)
          ∙ ap (λ (is : List InstRow). is ++ flat_map (λ (r : MapRecord). r.instances) (record_made e)) (named_same (record_changed e) (same_record e only) m.records)))
          (All-append (IsThereWhole b) (named_instances m) (flat_map (λ (r : MapRecord). r.instances) (record_made e))
          (All-weaker (IsThereWhole a) (IsThereWhole b) (λ inst r. instances_as a b inst stored r) (named_instances m) o.instances)
          (All-weaker (IsThereWhole a) (IsThereWhole b) (λ inst r. instances_as a b inst stored r) (flat_map (λ (r : MapRecord). r.instances) (record_made e)) (all_instances (IsThereWhole a) (record_made e) there)));
    }
