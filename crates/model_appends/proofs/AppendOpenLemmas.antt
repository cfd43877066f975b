-- Files open with one entry more in the log of a mailbox.
use Rattle.model_appends.proofs.Common.{◌≡◌, ◌≢◌, ◌+◌, ◌==◌, ℕ, true, false, cond, Bool, if◌then◌else◌, List, [], ◌∷◌, ◌++◌, length, map, Some, All, count_by, sum_by, AllPairs, Contains, ◌<◌, refl, AllByRecursion, sym, ◌∙◌, subst, ap, arith, inl, inr, false≢true, All-append, All-weaker, All-head}
use Rattle.model_appends.proofs.Common.{All-tail, All-contains, sum_by-cons, Files, Uid, MapEntry, BoxEntry, one_more, LogRow, BoxMeaning, row_made, row_rules, rows_after, box_meaning, BoxFits, MapBox, MapMeaning, map_meaning, box_text, BoxInRange, each_more, equal_is, equal_yes, IsSoundMap}
use Rattle.model_appends.proofs.Common.{map_sound, HasBox, LiesInFile, IsThereWhole, meaning_numbered, AreBoxEntries, HasItsRecord, PassBoxes, listed_of, IsCounted, Opens, AreGoodLogs, only_changes, rows_by, pairs_head, pairs_tail, SameBut, HasOneMore, logs_by}
use Rattle.std.proofs.Common.{suc}
use Rattle.disk_model.specs.declared.name.FileName.TheVariants as file
use Rattle.mdbox_base.specs.declared.entries.BoxEntry.TheVariants as entry
use Rattle.model_meaning.specs.BoxMeaning.{row_changed, box_applied}
use Rattle.model_meaning.proofs.BoxLemmas.{box_more}
use Rattle.model_meaning.proofs.FitLemmas.{box_fit_more}
use Rattle.model_octets.proofs.SearchLemmas.{among}
use Rattle.model_meaning.proofs.KeptRowLemmas.{kept_all}
use Rattle.model_appends.specs.Appending.{FitsIn, meanings_by}
use Rattle.model_appends.proofs.AppendFileLemmas.{SameStored, box_stored}
use Rattle.model_appends.proofs.AppendBoxLemmas.{box_log_more, box_log_as, map_as, other_box}
use Rattle.model_appends.proofs.AppendSafeLemmas.{regions_as, instances_as}

-- what the logs mean with the entry
pub meanings_more : (number : ℕ) (e : BoxEntry) (boxes : List MapBox) (logs : List (List BoxEntry)) → map box_meaning (logs_by number e boxes logs) ≡ meanings_by number e boxes (map box_meaning logs)
meanings_more number e [] [] = refl
meanings_more number e [] (log ∷ logs) = refl
meanings_more number e (box ∷ boxes) [] = refl
meanings_more number e (box ∷ boxes) (log ∷ logs) = by_test (box.number == number) (meanings_more number e boxes logs)
  where
    by_test : (t : Bool) → map box_meaning (logs_by number e boxes logs) ≡ meanings_by number e boxes (map box_meaning logs)
        → map box_meaning (cond t ((log ++ e ∷ []) ∷ logs) (log ∷ logs_by number e boxes logs)) ≡ cond t (box_applied e (box_meaning log) ∷ map box_meaning logs) (box_meaning log ∷ meanings_by number e boxes (map box_meaning logs))
    by_test true rest = ap (λ (m : BoxMeaning). m ∷ map box_meaning logs) (box_more log e)
    by_test false rest = ap (λ (ms : List BoxMeaning). box_meaning log ∷ ms) rest

-- what holds of each log, and of one with the entry
each_by : (P : List BoxEntry → Type 0) (number : ℕ) (e : BoxEntry) (boxes : List MapBox) (logs : List (List BoxEntry)) → ((log : List BoxEntry) → BoxFits (box_meaning log) e → P log → P (log ++ e ∷ [])) → FitsIn number e boxes logs
    → AllByRecursion P logs → AllByRecursion P (logs_by number e boxes logs)
each_by P number e [] [] f fits h = tt
each_by P number e [] (log ∷ logs) f fits h = h
each_by P number e (box ∷ boxes) [] f fits h = tt
each_by P number e (box ∷ boxes) (log ∷ logs) f fits h = by_test (box.number == number) fits (λ k. each_by P number e boxes logs f k h.1)
  where
    by_test : (t : Bool) → ((m : BoxMeaning) × (cond t (Some (box_meaning log)) (meaning_numbered number boxes (map box_meaning logs)) ≡ Some m) × BoxFits m e) → (FitsIn number e boxes logs → AllByRecursion P (logs_by number e boxes logs))
        → AllByRecursion P (cond t ((log ++ e ∷ []) ∷ logs) (log ∷ logs_by number e boxes logs))
    by_test true k rest = let is : Some (box_meaning log) ≡ Some k.0 = k.1 in (f log (subst (λ (m : BoxMeaning). BoxFits m e) (cc is) k.2) h.0, h.1)
    by_test false k rest = (h.0, rest (k.0, k.1, k.2))

pub length_by : (number : ℕ) (e : BoxEntry) (boxes : List MapBox) (logs : List (List BoxEntry)) → length (logs_by number e boxes logs) ≡ length logs
length_by number e [] [] = refl
length_by number e [] (log ∷ logs) = refl
length_by number e (box ∷ boxes) [] = refl
length_by number e (box ∷ boxes) (log ∷ logs) = by_test (box.number == number) (length_by number e boxes logs)
  where
    by_test : (t : Bool) → length (logs_by number e boxes logs) ≡ length logs → length (cond t ((log ++ e ∷ []) ∷ logs) (log ∷ logs_by number e boxes logs)) ≡ suc (length logs)
    by_test true rest = refl
    by_test false rest = ap suc rest

pub box_more_good : (e : BoxEntry) → BoxInRange e → (log : List BoxEntry) → BoxFits (box_meaning log) e → AreBoxEntries log → AreBoxEntries (log ++ e ∷ [])
box_more_good e in_range log fits h = (each_more BoxInRange log e h.0 in_range, box_fit_more [] log e h.1 fits)

itself_has : (m : MapMeaning) (e : BoxEntry) (row : LogRow) → HasItsRecord m row → HasItsRecord m (row_changed e row)
itself_has m (entry.N n) row h = h
itself_has m (entry.A u f t z k g ws) row h = h
itself_has m (entry.F u f) row h = by_test (u.0 == row.uid)
  where
    by_test : (t : Bool) → HasItsRecord m (if t then record row { flags = f } else row)
    by_test true = h
    by_test false = h
itself_has m (entry.K u ws) row h = by_test (u.0 == row.uid)
  where
    by_test : (t : Bool) → HasItsRecord m (if t then record row { words = ws } else row)
    by_test true = h
    by_test false = h
itself_has m (entry.R u) row h = h

pub rows_have : (m : MapMeaning) (e : BoxEntry) → All (HasItsRecord m) (row_made e) → (log : List BoxEntry) → BoxFits (box_meaning log) e → All (HasItsRecord m) (rows_after log) → All (HasItsRecord m) (rows_after (log ++ e ∷ []))
rows_have m e made log fits h =
    subst (λ (rows : List LogRow). All (HasItsRecord m) rows) (sym (one_more row_rules log e))
    (All-append (HasItsRecord m) _ (row_made e) (kept_all row_rules e (rows_after log) (HasItsRecord m) (HasItsRecord m) (λ row k. itself_has m e row k) h) made)

-- Good logs are good with an entry that fits, where its message has a record and the counts are enough.
pub good_by_box_entry : (store : List ℕ) (entries : List MapEntry) (logs : List (List BoxEntry)) (number : ℕ) (e : BoxEntry) → AreGoodLogs store entries logs → BoxInRange e → FitsIn number e (map_meaning store entries).boxes logs
    → All (HasItsRecord (map_meaning store entries)) (row_made e) → All (IsCounted (logs_by number e (map_meaning store entries).boxes logs)) (map_meaning store entries).records
    → AreGoodLogs store entries (logs_by number e (map_meaning store entries).boxes logs)
good_by_box_entry store entries logs number e h in_range fits made counts =
    let m : MapMeaning = map_meaning store entries in
    record {
      map_entries = h.map_entries;
      box_entries = each_by AreBoxEntries number e m.boxes logs (box_more_good e in_range) fits h.box_entries;
      one_each = length_by number e m.boxes logs ∙ h.one_each;
      records = each_by (λ log. All (HasItsRecord m) (rows_after log)) number e m.boxes logs (rows_have m e made) fits h.records;
      counts = counts;
    }

-- ---- files that open

abbrev Rising : MapBox → MapBox → Type 0
Rising x y = x.number < y.number

passes_as : (a b : Files) (m : MapMeaning) (k g : ℕ) (boxes : List MapBox) (logs : List (List BoxEntry)) → SameBut (file.Box k g) a b → All (λ (box : MapBox). box.number ≢ k) boxes → PassBoxes a m boxes logs → PassBoxes b m boxes logs
passes_as a b m k g [] [] s apart h = tt
passes_as a b m k g [] (log ∷ logs) s apart h = absurd h
passes_as a b m k g (box ∷ boxes) [] s apart h = absurd h
passes_as a b m k g (box ∷ boxes) (log ∷ logs) s apart h = (
  record { log = box_log_as a b m.store box log (s (file.Box box.number box.generation) (other_box k g box.number box.generation (All-head (λ (o : MapBox). o.number ≢ k) box boxes apart))) h.0.log; records = h.0.records },
  passes_as a b m k g boxes logs s (All-tail (λ (o : MapBox). o.number ≢ k) box boxes apart) h.1,
)

passes_more : (a b : Files) (m : MapMeaning) (box : MapBox) (e : BoxEntry) (boxes : List MapBox) (logs : List (List BoxEntry)) → SameBut (file.Box box.number box.generation) a b → BoxInRange e → All (HasItsRecord m) (row_made e)
    → HasOneMore (box_text e) (a (file.Box box.number box.generation)) (b (file.Box box.number box.generation)) → AllPairs Rising boxes → Contains boxes box → FitsIn box.number e boxes logs → PassBoxes a m boxes logs
    → PassBoxes b m boxes (logs_by box.number e boxes logs)
passes_more a b m box e [] [] s in_range made more rising there fits h = tt
passes_more a b m box e [] (log ∷ logs) s in_range made more rising there fits h = absurd h
passes_more a b m box e (y ∷ boxes) [] s in_range made more rising there fits h = absurd h
passes_more a b m box e (y ∷ boxes) (log ∷ logs) s in_range made more rising there fits h =
    by_test (y.number == box.number) refl fits (λ c k. passes_more a b m box e boxes logs s in_range made more (pairs_tail Rising y boxes rising) c k h.1)
  where
    above : All (Rising y) boxes
    above = pairs_head Rising y boxes rising

    by_test : (t : Bool) → (y.number == box.number) ≡ t → ((n : BoxMeaning) × (cond t (Some (box_meaning log)) (meaning_numbered box.number boxes (map box_meaning logs)) ≡ Some n) × BoxFits n e)
        → (Contains boxes box → FitsIn box.number e boxes logs → PassBoxes b m boxes (logs_by box.number e boxes logs)) → PassBoxes b m (y ∷ boxes) (cond t ((log ++ e ∷ []) ∷ logs) (log ∷ logs_by box.number e boxes logs))
    by_test true is k rest =
        let number : y.number ≡ box.number = equal_is y.number box.number is in
        let same : y ≡ box = elim (among y boxes box there) [ inl p ↦ p | inr c ↦ let less : y.number < box.number = All-contains (Rising y) boxes box above c in absurd (omega (arith, less, number)) ] in
        let found : Some (box_meaning log) ≡ Some k.0 = k.1 in
        let fits : BoxFits (box_meaning log) e = subst (λ (n : BoxMeaning). BoxFits n e) (cc found) k.2 in (
          record {
            log = subst (λ (o : MapBox). HasBox b m.store o (log ++ e ∷ [])) (sym same) (box_log_more a b m.store box log e (subst (λ (o : MapBox). HasBox a m.store o log) same h.0.log) in_range fits more);
            records = rows_have m e made log fits h.0.records;
          },
          passes_as a b m box.number box.generation boxes logs s (All-weaker (Rising y) (λ (o : MapBox). o.number ≢ box.number) (λ o less p. absurd (omega (arith, less, number, p))) boxes above) h.1,
        )
    by_test false is k rest =
        let apart : y.number ≢ box.number = λ p. false≢true (sym is ∙ equal_yes y.number box.number p) in
        let later : Contains boxes box = elim (among y boxes box there) [ inl p ↦ absurd (apart (ap (λ (o : MapBox). o.number) p)) | inr c ↦ c ] in
        (record { log = box_log_as a b m.store y log (s (file.Box y.number y.generation) (other_box box.number box.generation y.number y.generation apart)) h.0.log; records = h.0.records }, rest later (k.0, k.1, k.2))

-- the log of a mailbox for which the entry is
log_found : (a : Files) (m : MapMeaning) (box : MapBox) (e : BoxEntry) (boxes : List MapBox) (logs : List (List BoxEntry)) → AllPairs Rising boxes → Contains boxes box → FitsIn box.number e boxes logs → PassBoxes a m boxes logs
    → (log : List BoxEntry) × HasBox a m.store box log × BoxFits (box_meaning log) e
log_found a m box e [] [] rising there fits h = absurd (omega (arith, there.1))
log_found a m box e [] (log ∷ logs) rising there fits h = absurd h
log_found a m box e (y ∷ boxes) [] rising there fits h = absurd h
log_found a m box e (y ∷ boxes) (log ∷ logs) rising there fits h = by_test (y.number == box.number) refl fits (λ c k. log_found a m box e boxes logs (pairs_tail Rising y boxes rising) c k h.1)
  where
    by_test : (t : Bool) → (y.number == box.number) ≡ t → ((n : BoxMeaning) × (cond t (Some (box_meaning log)) (meaning_numbered box.number boxes (map box_meaning logs)) ≡ Some n) × BoxFits n e)
        → (Contains boxes box → FitsIn box.number e boxes logs → (log : List BoxEntry) × HasBox a m.store box log × BoxFits (box_meaning log) e) → (log : List BoxEntry) × HasBox a m.store box log × BoxFits (box_meaning log) e
    by_test true is k rest =
        let number : y.number ≡ box.number = equal_is y.number box.number is in
        let same : y ≡ box = elim (among y boxes box there) [ inl p ↦ p | inr c ↦ let less : y.number < box.number = All-contains (Rising y) boxes box (pairs_head Rising y boxes rising) c in absurd (omega (arith, less, number)) ] in
        let found : Some (box_meaning log) ≡ Some k.0 = k.1 in
        (log, subst (λ (o : MapBox). HasBox a m.store o log) same h.0.log, subst (λ (n : BoxMeaning). BoxFits n e) (cc found) k.2)
    by_test false is k rest =
        let apart : y.number ≢ box.number = λ p. false≢true (sym is ∙ equal_yes y.number box.number p) in
        let later : Contains boxes box = elim (among y boxes box there) [ inl p ↦ absurd (apart (ap (λ (o : MapBox). o.number) p)) | inr c ↦ c ] in
        rest later (k.0, k.1, k.2)

pub log_there : (files : Files) (store : List ℕ) (entries : List MapEntry) (logs : List (List BoxEntry)) (box : MapBox) (e : BoxEntry) → Opens files store entries logs → Contains (map_meaning store entries).boxes box
    → FitsIn box.number e (map_meaning store entries).boxes logs → (log : List BoxEntry) × HasBox files store box log × BoxFits (box_meaning log) e
log_there files store entries logs box e o there fits =
    let m : MapMeaning = map_meaning store entries in
    let sound : IsSoundMap m = map_sound store entries o.passed.map_log.fit o.passed.map_log.in_range in
    log_found files m box e m.boxes logs sound.boxes_rising there fits o.passed.boxes

-- Files that open, with the entry in the log of a mailbox and all else the same, open.
pub opens_by_box_entry : (a b : Files) (store : List ℕ) (entries : List MapEntry) (logs : List (List BoxEntry)) (box : MapBox) (e : BoxEntry) → Opens a store entries logs → Contains (map_meaning store entries).boxes box → BoxInRange e
    → FitsIn box.number e (map_meaning store entries).boxes logs → All (HasItsRecord (map_meaning store entries)) (row_made e)
    → All (IsCounted (logs_by box.number e (map_meaning store entries).boxes logs)) (map_meaning store entries).records → SameBut (file.Box box.number box.generation) a b
    → HasOneMore (box_text e) (a (file.Box box.number box.generation)) (b (file.Box box.number box.generation)) → Opens b store entries (logs_by box.number e (map_meaning store entries).boxes logs)
opens_by_box_entry a b store entries logs box e o there in_range fits made counts same more =
    let m : MapMeaning = map_meaning store entries in
    let sound : IsSoundMap m = map_sound store entries o.passed.map_log.fit o.passed.map_log.in_range in
    let stored : SameStored a b = box_stored box.number box.generation a b same in
    record {
      passed = record {
        map_log = map_as a b store entries box.number box.generation same o.passed.map_log;
        boxes = passes_more a b m box e m.boxes logs same in_range made more sound.boxes_rising there fits o.passed.boxes;
      };
      counts = counts;
      regions = All-weaker (LiesInFile a) (LiesInFile b) (λ row r. regions_as a b row stored r) m.records o.regions;
      instances = All-weaker (IsThereWhole a) (IsThereWhole b) (λ inst r. instances_as a b inst stored r) _ o.instances;
    }

-- ---- entries that change no count

-- An entry behind which each log lists as many messages with this map uid.
pub listed_same : (number : ℕ) (e : BoxEntry) (boxes : List MapBox) (logs : List (List BoxEntry)) (uid : ℕ) → ((rows : List LogRow) → count_by (λ row. row.map_uid == uid) (rows_by row_rules e rows) ≡ count_by (λ row. row.map_uid == uid) rows)
    → listed_of (logs_by number e boxes logs) uid ≡ listed_of logs uid
listed_same number e [] [] uid same = refl
listed_same number e [] (log ∷ logs) uid same = refl
listed_same number e (box ∷ boxes) [] uid same = refl
listed_same number e (box ∷ boxes) (log ∷ logs) uid same = by_test (box.number == number) (listed_same number e boxes logs uid same)
  where
    in_log : List BoxEntry → ℕ
    in_log l = count_by (λ row. row.map_uid == uid) (rows_after l)

    here : in_log (log ++ e ∷ []) ≡ in_log log
    here = ap (count_by (λ (row : LogRow). row.map_uid == uid)) (one_more row_rules log e) ∙ same (rows_after log)

    by_test : (t : Bool) → listed_of (logs_by number e boxes logs) uid ≡ listed_of logs uid → listed_of (cond t ((log ++ e ∷ []) ∷ logs) (log ∷ logs_by number e boxes logs)) uid ≡ listed_of (log ∷ logs) uid
    by_test true rest = sum_by-cons in_log (log ++ e ∷ []) logs ∙ ap (λ (n : ℕ). n + sum_by in_log logs) here ∙ sym (sum_by-cons in_log log logs)
    by_test false rest = sum_by-cons in_log log (logs_by number e boxes logs) ∙ ap (λ (n : ℕ). in_log log + n) rest ∙ sym (sum_by-cons in_log log logs)

-- one that changes rows and keeps their map uids
rows_changed_count : (uid : ℕ) (e : BoxEntry) (rows : List LogRow) → ((row : LogRow) → (row_changed e row).map_uid ≡ row.map_uid) → count_by (λ row. row.map_uid == uid) (map (row_changed e) rows) ≡ count_by (λ row. row.map_uid == uid) rows
rows_changed_count uid e [] same = refl
rows_changed_count uid e (row ∷ rows) same =
    sum_by-cons (λ (o : LogRow). cond (o.map_uid == uid) 1 0) (row_changed e row) (map (row_changed e) rows)
    ∙ added _ _ _ _ (ap (λ (n : ℕ). cond (n == uid) 1 0) (same row)) (rows_changed_count uid e rows same) ∙ sym (sum_by-cons (λ (o : LogRow). cond (o.map_uid == uid) 1 0) row rows)
  where
    added : (a b c d : ℕ) → a ≡ b → c ≡ d → a + c ≡ b + d
    added a b c d p q = cc (p, q)

either_map_uid : (t : Bool) (row other : LogRow) → other.map_uid ≡ row.map_uid → (if t then other else row).map_uid ≡ row.map_uid
either_map_uid true row other same = same
either_map_uid false row other same = refl

pub listed_flagged : (number : ℕ) (u : Uid) (flags : ℕ) (boxes : List MapBox) (logs : List (List BoxEntry)) (uid : ℕ) → listed_of (logs_by number (entry.F u flags) boxes logs) uid ≡ listed_of logs uid
listed_flagged number u flags boxes logs uid =
    listed_same number (entry.F u flags) boxes logs uid (λ rows. ap (count_by (λ (row : LogRow). row.map_uid == uid)) (only_changes (row_changed (entry.F u flags)) rows)
    ∙ rows_changed_count uid (entry.F u flags) rows (λ row. either_map_uid (u.0 == row.uid) row (record row { flags = flags }) refl))

pub listed_worded : (number : ℕ) (u : Uid) (words : List (List ℕ)) (boxes : List MapBox) (logs : List (List BoxEntry)) (uid : ℕ) → listed_of (logs_by number (entry.K u words) boxes logs) uid ≡ listed_of logs uid
listed_worded number u words boxes logs uid =
    listed_same number (entry.K u words) boxes logs uid (λ rows. ap (count_by (λ (row : LogRow). row.map_uid == uid)) (only_changes (row_changed (entry.K u words)) rows)
    ∙ rows_changed_count uid (entry.K u words) rows (λ row. either_map_uid (u.0 == row.uid) row (record row { words = words }) refl))
