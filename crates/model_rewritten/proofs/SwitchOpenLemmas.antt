-- Logs that are good, and files that open, with a new generation of a mailbox's log.
use Rattle.std.specs.Prelude.{◌≡◌, ◌<◌, ◌≤◌, ◌+◌, ◌==◌, ℕ, suc, max, Bool, true, false, if◌then◌else◌, List, [], ◌∷◌, ◌++◌, length, map, flat_map, find, count_by, Some, All, AllPairs, refl}
use Rattle.std.specs.List.{AllByRecursion}
use Rattle.std.proofs.Common.{sym, ◌∙◌, ap, arith, subst}
use Rattle.std.proofs.lemmas.List.{length-map}
use Rattle.std.proofs.lemmas.List.Elements.{All-contains, All-head, All-tail, All-weaker}
use Rattle.std.proofs.lemmas.List.Sums.{sum_by-cons}
use Rattle.disk_model.specs.Disk.{Files}
use Rattle.disk_model.specs.declared.name.FileName.TheVariants as file
use Rattle.mdbox_base.specs.declared.entries.BoxEntry.{BoxEntry}
use Rattle.mdbox_base.specs.declared.entries.Highest.{Highest}
use Rattle.mdbox_base.specs.declared.entries.MapEntry.{MapEntry}
use Rattle.mdbox_base.specs.declared.entries.MapEntry.TheVariants as entry
use Rattle.mdbox_base.specs.declared.ids.BoxNo.{BoxNo}
use Rattle.model_logs.specs.Entries.{map_text, MapInRange}
use Rattle.model_meaning.proofs.FitLemmas.{each_more, map_fit_more}
use Rattle.model_meaning.proofs.MapLemmas.{map_more}
use Rattle.model_meaning.proofs.MapPlaceLemmas.{equal_is, equal_yes}
use Rattle.model_meaning.proofs.MapSoundLemmas.{map_sound, box_number, box_name}
use Rattle.model_meaning.specs.BoxMeaning.{LogRow, BoxMeaning, rows_after, box_meaning}
use Rattle.model_meaning.specs.MapFits.{MapFits}
use Rattle.model_meaning.specs.MapMeaning.{MapRecord, MapBox, MapMeaning, map_meaning, box_changed, box_at, higher, numbers_of, named_instances}
use Rattle.model_meaning.specs.SameMeaning.{MeansSame}
use Rattle.model_meaning.specs.Sound.{IsSoundMapBox, IsSoundMap}
use Rattle.model_octets.proofs.PairLemmas.{IsOnly, pairs_head, pairs_tail}
use Rattle.model_octets.proofs.SearchLemmas.{found_one}
use Rattle.model_store.specs.GoodLogs.{AreGoodLogs}
use Rattle.model_store.specs.Listing.{meaning_numbered}
use Rattle.model_store.specs.Opening.{AreMapEntries, AreBoxEntries, HasItsRecord, PassesBox, PassBoxes, IsCounted, Opens, listed_of}
use Rattle.model_store.specs.Safe.{LiesInFile, IsThereWhole}
use Rattle.model_store.specs.Stands.{HasBox}
use Rattle.model_appends.specs.Amounts.{IsAccounted}
use Rattle.model_appends.specs.Appending.{SameBut, HasOneMore}
use Rattle.model_appends.proofs.AmountLemmas.{accounted_switched}
use Rattle.model_appends.proofs.AppendBoxLemmas.{box_log_as}
use Rattle.model_appends.proofs.AppendFileLemmas.{SameStored, map_stored}
use Rattle.model_appends.proofs.AppendMapLemmas.{map_log_more}
use Rattle.model_appends.proofs.AppendSafeLemmas.{regions_as, instances_as}
use Rattle.model_rewritten.specs.Switched.{log_switched}
use Rattle.model_rewritten.proofs.SwitchLemmas.{records_with, boxes_with, only_box}

abbrev pub Rising : MapBox → MapBox → Type 0
Rising a b = a.number < b.number

pub turned : (m n : ℕ) (t : Bool) → (m == n) ≡ t → (n == m) ≡ t
turned m n true e = equal_yes n m (sym (equal_is m n e))
turned m n false e = by_test (n == m) refl
  where
    by_test : (t : Bool) → (n == m) ≡ t → t ≡ false
    by_test true f = sym (equal_yes m n (sym (equal_is n m f))) ∙ e
    by_test false f = refl

-- ---- the logs, one of which is another

-- no later mailbox has the number of this one
pub untouched : (k : ℕ) (log : List BoxEntry) (b : MapBox) (boxes : List MapBox) (logs : List (List BoxEntry)) → All (Rising b) boxes → b.number ≡ k → log_switched k log boxes logs ≡ logs
untouched k log b [] [] above is = refl
untouched k log b [] (old ∷ logs) above is = refl
untouched k log b (c ∷ boxes) [] above is = refl
untouched k log b (c ∷ boxes) (old ∷ logs) above is =
    let less : b.number < c.number = All-head (Rising b) c boxes above in
    ap (λ (one : List BoxEntry). one ∷ log_switched k log boxes logs) (by_test (k == c.number) refl less) ∙ ap (λ (ls : List (List BoxEntry)). old ∷ ls) (untouched k log b boxes logs (All-tail (Rising b) c boxes above) is)
  where
    by_test : (t : Bool) → (k == c.number) ≡ t → b.number < c.number → (if t then log else old) ≡ old
    by_test true e less = let same = equal_is k c.number e in absurd (omega (arith, same, less, is))
    by_test false e less = refl

by_switched : (P : List BoxEntry → Type 0) (k : ℕ) (log : List BoxEntry) (boxes : List MapBox) (logs : List (List BoxEntry)) → P log → AllByRecursion P logs → AllByRecursion P (log_switched k log boxes logs)
by_switched P k log [] [] p all = tt
by_switched P k log [] (old ∷ logs) p all = all
by_switched P k log (b ∷ boxes) [] p all = tt
by_switched P k log (b ∷ boxes) (old ∷ logs) p all = (one (k == b.number), by_switched P k log boxes logs p all.1)
  where
    one : (t : Bool) → P (if t then log else old)
    one true = p
    one false = all.0

length_switched : (k : ℕ) (log : List BoxEntry) (boxes : List MapBox) (logs : List (List BoxEntry)) → length (log_switched k log boxes logs) ≡ length logs
length_switched k log [] [] = refl
length_switched k log [] (old ∷ logs) = refl
length_switched k log (b ∷ boxes) [] = refl
length_switched k log (b ∷ boxes) (old ∷ logs) = ap suc (length_switched k log boxes logs)

-- ---- what is listed

abbrev in_rows : ℕ → List LogRow → ℕ
in_rows uid rows = count_by (λ row. row.map_uid == uid) rows

abbrev in_log : ℕ → List BoxEntry → ℕ
in_log uid log = in_rows uid (rows_after log)

listed_by : (k uid : ℕ) (log : List BoxEntry) (m : BoxMeaning) (boxes : List MapBox) (logs : List (List BoxEntry)) → AllPairs Rising boxes → meaning_numbered k boxes (map box_meaning logs) ≡ Some m
    → listed_of (log_switched k log boxes logs) uid + in_rows uid m.rows ≡ listed_of logs uid + in_log uid log
listed_by k uid log m [] [] rising found = absurd (cc found)
listed_by k uid log m [] (old ∷ logs) rising found = absurd (cc found)
listed_by k uid log m (b ∷ boxes) [] rising found = absurd (cc found)
listed_by k uid log m (b ∷ boxes) (old ∷ logs) rising found = by_test (b.number == k) refl found (λ f. listed_by k uid log m boxes logs (pairs_tail Rising b boxes rising) f)
  where
    whole : listed_of (old ∷ logs) uid ≡ in_log uid old + listed_of logs uid
    whole = sum_by-cons (in_log uid) old logs

    with_one : (one : List BoxEntry) → listed_of (one ∷ log_switched k log boxes logs) uid ≡ in_log uid one + listed_of (log_switched k log boxes logs) uid
    with_one one = sum_by-cons (in_log uid) one (log_switched k log boxes logs)

    here : (t : Bool) → (b.number == k) ≡ t → listed_of (log_switched k log (b ∷ boxes) (old ∷ logs)) uid ≡ in_log uid (if t then log else old) + listed_of (log_switched k log boxes logs) uid
    here t e = ap (λ (s : Bool). listed_of ((if s then log else old) ∷ log_switched k log boxes logs) uid) (turned b.number k t e) ∙ with_one (if t then log else old)

    by_test : (t : Bool) → (b.number == k) ≡ t → (if t then Some (box_meaning old) else meaning_numbered k boxes (map box_meaning logs)) ≡ Some m
        → (meaning_numbered k boxes (map box_meaning logs) ≡ Some m → listed_of (log_switched k log boxes logs) uid + in_rows uid m.rows ≡ listed_of logs uid + in_log uid log)
        → listed_of (log_switched k log (b ∷ boxes) (old ∷ logs)) uid + in_rows uid m.rows ≡ listed_of (old ∷ logs) uid + in_log uid log
    by_test true e found later =
        let is : box_meaning old ≡ m = cc found in
        let rows = ap (λ (o : BoxMeaning). in_rows uid o.rows) is in
        let rest = ap (λ (ls : List (List BoxEntry)). listed_of ls uid) (untouched k log b boxes logs (pairs_head Rising b boxes rising) (equal_is b.number k e)) in
        let h = here true e in
        omega (arith, h, rows, rest, whole)
    by_test false e found later =
        let rest = later found in
        let h = here false e in
        omega (arith, h, rest, whole)

-- a log that means the same leaves all meanings as they are
meanings_by_same : (k : ℕ) (log : List BoxEntry) (boxes : List MapBox) (logs : List (List BoxEntry)) → AllPairs Rising boxes → meaning_numbered k boxes (map box_meaning logs) ≡ Some (box_meaning log)
    → map box_meaning (log_switched k log boxes logs) ≡ map box_meaning logs
meanings_by_same k log [] [] rising found = refl
meanings_by_same k log [] (old ∷ logs) rising found = refl
meanings_by_same k log (b ∷ boxes) [] rising found = refl
meanings_by_same k log (b ∷ boxes) (old ∷ logs) rising found = by_test (b.number == k) refl found (λ f. meanings_by_same k log boxes logs (pairs_tail Rising b boxes rising) f)
  where
    by_test : (t : Bool) → (b.number == k) ≡ t → (if t then Some (box_meaning old) else meaning_numbered k boxes (map box_meaning logs)) ≡ Some (box_meaning log)
        → (meaning_numbered k boxes (map box_meaning logs) ≡ Some (box_meaning log) → map box_meaning (log_switched k log boxes logs) ≡ map box_meaning logs)
        → map box_meaning (log_switched k log (b ∷ boxes) (old ∷ logs)) ≡ map box_meaning (old ∷ logs)
    by_test true e found later =
        let is : box_meaning old ≡ box_meaning log = cc found in
        ap (λ (s : Bool). box_meaning (if s then log else old) ∷ map box_meaning (log_switched k log boxes logs)) (turned b.number k true e)
        ∙ ap (λ (o : BoxMeaning). o ∷ map box_meaning (log_switched k log boxes logs)) (sym is)
        ∙ ap (λ (ls : List (List BoxEntry)). box_meaning old ∷ map box_meaning ls) (untouched k log b boxes logs (pairs_head Rising b boxes rising) (equal_is b.number k e))
    by_test false e found later =
        ap (λ (s : Bool). box_meaning (if s then log else old) ∷ map box_meaning (log_switched k log boxes logs)) (turned b.number k false e)
        ∙ ap (λ (ms : List BoxMeaning). box_meaning old ∷ ms) (later found)

sound_of : (store : List ℕ) (entries : List MapEntry) (logs : List (List BoxEntry)) → AreGoodLogs store entries logs → IsSoundMap (map_meaning store entries)
sound_of store entries logs good = map_sound store entries good.map_entries.1 good.map_entries.0

pub listed_switched : (store : List ℕ) (entries : List MapEntry) (logs : List (List BoxEntry)) (number : ℕ) (log : List BoxEntry) (m : BoxMeaning) (uid : ℕ) → AreGoodLogs store entries logs
    → meaning_numbered number (map_meaning store entries).boxes (map box_meaning logs) ≡ Some m
    → listed_of (log_switched number log (map_meaning store entries).boxes logs) uid + count_by (λ row. row.map_uid == uid) m.rows ≡ listed_of logs uid + count_by (λ row. row.map_uid == uid) (rows_after log)
listed_switched store entries logs number log m uid good found = listed_by number uid log m (map_meaning store entries).boxes logs (sound_of store entries logs good).boxes_rising found

pub meanings_switched : (store : List ℕ) (entries : List MapEntry) (logs : List (List BoxEntry)) (number : ℕ) (log : List BoxEntry) → AreGoodLogs store entries logs
    → meaning_numbered number (map_meaning store entries).boxes (map box_meaning logs) ≡ Some (box_meaning log)
    → map box_meaning (log_switched number log (map_meaning store entries).boxes logs) ≡ map box_meaning logs
meanings_switched store entries logs number log good found = meanings_by_same number log (map_meaning store entries).boxes logs (sound_of store entries logs good).boxes_rising found

-- where it means the same, as much is listed
as_much : (store : List ℕ) (entries : List MapEntry) (logs : List (List BoxEntry)) (number : ℕ) (log : List BoxEntry) (uid : ℕ) → AreGoodLogs store entries logs
    → meaning_numbered number (map_meaning store entries).boxes (map box_meaning logs) ≡ Some (box_meaning log) → listed_of (log_switched number log (map_meaning store entries).boxes logs) uid ≡ listed_of logs uid
as_much store entries logs number log uid good found = let h = listed_switched store entries logs number log (box_meaning log) uid good found in omega (arith, h)

pub counted_switched : (store : List ℕ) (entries : List MapEntry) (logs : List (List BoxEntry)) (number : ℕ) (log : List BoxEntry) → AreGoodLogs store entries logs
    → meaning_numbered number (map_meaning store entries).boxes (map box_meaning logs) ≡ Some (box_meaning log)
    → All (IsCounted (log_switched number log (map_meaning store entries).boxes logs)) (map_meaning store entries).records
counted_switched store entries logs number log good found =
    All-weaker (IsCounted logs) (IsCounted (log_switched number log (map_meaning store entries).boxes logs)) (λ row c. let h = as_much store entries logs number log row.uid good found in omega (arith, h, c)) (map_meaning store entries).records good.counts

pub accounted_by_generation : (store : List ℕ) (entries : List MapEntry) (logs : List (List BoxEntry)) (mailbox : BoxNo) (generation : ℕ) (log : List BoxEntry) (due leak : ℕ → ℕ) → AreGoodLogs store entries logs
    → meaning_numbered mailbox.0 (map_meaning store entries).boxes (map box_meaning logs) ≡ Some (box_meaning log) → All (IsAccounted due leak logs) (map_meaning store entries).records
    → All (IsAccounted due leak (log_switched mailbox.0 log (map_meaning store entries).boxes logs)) (map_meaning store (entries ++ entry.G mailbox generation ∷ [])).records
accounted_by_generation store entries logs mailbox generation log due leak good found all =
    let later : List (List BoxEntry) = log_switched mailbox.0 log (map_meaning store entries).boxes logs in
    subst (λ (rows : List MapRecord). All (IsAccounted due leak later) rows) (sym (records_with store entries mailbox generation))
    (accounted_switched due due leak logs later (map_meaning store entries).records (λ uid. let h = as_much store entries logs mailbox.0 log uid good found in omega (arith, h)) all)

-- ---- good logs

has_with : (store : List ℕ) (entries : List MapEntry) (k : BoxNo) (g : ℕ) (row : LogRow) → HasItsRecord (map_meaning store entries) row → HasItsRecord (map_meaning store (entries ++ entry.G k g ∷ [])) row
has_with store entries k g row h = (h.0, ap (find (λ (r : MapRecord). r.uid == row.map_uid)) (records_with store entries k g) ∙ h.1, h.2)

all_with : (store : List ℕ) (entries : List MapEntry) (k : BoxNo) (g : ℕ) (rows : List LogRow) → All (HasItsRecord (map_meaning store entries)) rows → All (HasItsRecord (map_meaning store (entries ++ entry.G k g ∷ []))) rows
all_with store entries k g rows h = All-weaker (HasItsRecord (map_meaning store entries)) (HasItsRecord (map_meaning store (entries ++ entry.G k g ∷ []))) (has_with store entries k g) rows h

by_weaker : {X : Type 0} → (P Q : X → Type 0) → ((x : X) → P x → Q x) → (xs : List X) → AllByRecursion P xs → AllByRecursion Q xs
by_weaker P Q f [] h = tt
by_weaker P Q f (x ∷ xs) h = (f x h.0, by_weaker P Q f xs h.1)

pub good_switched : (store : List ℕ) (entries : List MapEntry) (logs : List (List BoxEntry)) (mailbox : BoxNo) (generation : ℕ) (log : List BoxEntry) → AreGoodLogs store entries logs → MapInRange (entry.G mailbox generation)
    → MapFits (map_meaning store entries) (entry.G mailbox generation) → AreBoxEntries log → All (HasItsRecord (map_meaning store entries)) (rows_after log)
    → All (IsCounted (log_switched mailbox.0 log (map_meaning store entries).boxes logs)) (map_meaning store entries).records
    → AreGoodLogs store (entries ++ entry.G mailbox generation ∷ []) (log_switched mailbox.0 log (map_meaning store entries).boxes logs)
good_switched store entries logs mailbox generation log h in_range fits good has counts =
    let m : MapMeaning = map_meaning store entries in
    let n : MapMeaning = map_meaning store (entries ++ entry.G mailbox generation ∷ []) in
    record {
      map_entries = (each_more MapInRange entries (entry.G mailbox generation) h.map_entries.0 in_range, map_fit_more store [] entries (entry.G mailbox generation) h.map_entries.1 fits);
      box_entries = by_switched AreBoxEntries mailbox.0 log m.boxes logs good h.box_entries;
      one_each = length_switched mailbox.0 log m.boxes logs ∙ h.one_each ∙ sym (length-map m.boxes (box_changed (entry.G mailbox generation))) ∙ ap length (sym (boxes_with store entries mailbox generation));
      records = by_switched (λ (l : List BoxEntry). All (HasItsRecord n) (rows_after l)) mailbox.0 log m.boxes logs (all_with store entries mailbox generation (rows_after log) has)
          (by_weaker (λ (l : List BoxEntry). All (HasItsRecord m) (rows_after l)) (λ (l : List BoxEntry). All (HasItsRecord n) (rows_after l)) (λ l k. all_with store entries mailbox generation (rows_after l) k) logs h.records);
      counts = subst (λ (rows : List MapRecord). All (IsCounted (log_switched mailbox.0 log m.boxes logs)) rows) (sym (records_with store entries mailbox generation)) counts;
    }

-- ---- files that open

passes_switched : (a b : Files) (store : List ℕ) (entries : List MapEntry) (k : BoxNo) (g h : ℕ) (box : MapBox) (log : List BoxEntry) (boxes : List MapBox) (logs : List (List BoxEntry)) → SameBut (file.Map h) a b
    → HasBox a store (record box { generation = g }) log → All (HasItsRecord (map_meaning store entries)) (rows_after log) → All (IsOnly (λ (c : MapBox). c.number == k.0) box) boxes
    → PassBoxes a (map_meaning store entries) boxes logs → PassBoxes b (map_meaning store (entries ++ entry.G k g ∷ [])) (map (box_changed (entry.G k g)) boxes) (log_switched k.0 log boxes logs)
passes_switched a b store entries k g h box log [] [] same has records only p = tt
passes_switched a b store entries k g h box log [] (old ∷ logs) same has records only p = absurd p
passes_switched a b store entries k g h box log (c ∷ boxes) [] same has records only p = absurd p
passes_switched a b store entries k g h box log (c ∷ boxes) (old ∷ logs) same has records only p =
    (one (k.0 == c.number) refl, passes_switched a b store entries k g h box log boxes logs same has records (All-tail (IsOnly (λ (d : MapBox). d.number == k.0) box) c boxes only) p.1)
  where
    there : (d : MapBox) (l : List BoxEntry) → HasBox a store d l → All (HasItsRecord (map_meaning store entries)) (rows_after l) → PassesBox b (map_meaning store (entries ++ entry.G k g ∷ [])) d l
    there d l is all = record { log = box_log_as a b store d l (same (file.Box d.number d.generation) (λ e. absurd (cc e))) is; records = all_with store entries k g (rows_after l) all }

    one : (t : Bool) → (k.0 == c.number) ≡ t → PassesBox b (map_meaning store (entries ++ entry.G k g ∷ [])) (if t then record c { generation = g } else c) (if t then log else old)
    one true e =
        let is : c ≡ box = All-head (IsOnly (λ (d : MapBox). d.number == k.0) box) c boxes only (turned k.0 c.number true e) in
        there (record c { generation = g }) log (subst (λ (d : MapBox). HasBox a store (record d { generation = g }) log) (sym is) has) records
    one false e = there c old p.0.log p.0.records

pub opens_switched : (a b : Files) (store : List ℕ) (entries : List MapEntry) (logs : List (List BoxEntry)) (mailbox : BoxNo) (generation : ℕ) (box : MapBox) (log : List BoxEntry) → (o : Opens a store entries logs)
    → MapInRange (entry.G mailbox generation) → MapFits (map_meaning store entries) (entry.G mailbox generation) → box_at (map_meaning store entries) mailbox.0 ≡ Some box
    → HasBox a store (record box { generation = generation }) log → All (HasItsRecord (map_meaning store entries)) (rows_after log)
    → All (IsCounted (log_switched mailbox.0 log (map_meaning store entries).boxes logs)) (map_meaning store entries).records → SameBut (file.Map o.passed.map_log.generation) a b
    → HasOneMore (map_text (entry.G mailbox generation)) (a (file.Map o.passed.map_log.generation)) (b (file.Map o.passed.map_log.generation))
    → Opens b store (entries ++ entry.G mailbox generation ∷ []) (log_switched mailbox.0 log (map_meaning store entries).boxes logs)
opens_switched a b store entries logs mailbox generation box log o in_range fits found has records counts same more =
    let m : MapMeaning = map_meaning store entries in
    let n : MapMeaning = map_meaning store (entries ++ entry.G mailbox generation ∷ []) in
    let g : ℕ = o.passed.map_log.generation in
    let later : List (List BoxEntry) = log_switched mailbox.0 log m.boxes logs in
    let sound : IsSoundMap m = map_sound store entries o.passed.map_log.fit o.passed.map_log.in_range in
    let stored : SameStored a b = map_stored g a b same in
    let rows = records_with store entries mailbox generation in
    record {
      passed = record {
        map_log = map_log_more a b store entries (entry.G mailbox generation) o.passed.map_log in_range fits same more;
        boxes = subst (λ (bs : List MapBox). PassBoxes b n bs later) (sym (boxes_with store entries mailbox generation))
            (passes_switched a b store entries mailbox generation g box log m.boxes logs same has records (only_box m mailbox.0 box sound found) o.passed.boxes);
      };
      counts = subst (λ (rs : List MapRecord). All (IsCounted later) rs) (sym rows) counts;
      regions = subst (λ (rs : List MapRecord). All (LiesInFile b) rs) (sym rows) (All-weaker (LiesInFile a) (LiesInFile b) (λ row r. regions_as a b row stored r) m.records o.regions);
      instances = subst (λ (rs : List MapRecord). All (IsThereWhole b) (flat_map (λ (row : MapRecord). row.instances) rs)) (sym rows)
          (All-weaker (IsThereWhole a) (IsThereWhole b) (λ inst r. instances_as a b inst stored r) (named_instances m) o.instances);
    }

-- ---- the meaning

numbers_stay : (k : BoxNo) (g : ℕ) (boxes : List MapBox) → map (λ box. box.number) (map (box_changed (entry.G k g)) boxes) ≡ map (λ box. box.number) boxes
numbers_stay k g [] = refl
numbers_stay k g (b ∷ boxes) = let h = box_number (entry.G k g) b in let t = numbers_stay k g boxes in cc (h, t)

names_stay : (k : BoxNo) (g : ℕ) (boxes : List MapBox) → map (λ box. box.name) (map (box_changed (entry.G k g)) boxes) ≡ map (λ box. box.name) boxes
names_stay k g [] = refl
names_stay k g (b ∷ boxes) = let h = box_name (entry.G k g) b tt in let t = names_stay k g boxes in cc (h, t)

made : ℕ → ℕ → ℕ → ℕ → Highest
made f m i b = record { file = f; map = m; instance = i; mailbox = b }

no_higher : (f m i b k : ℕ) → k ≤ b → made (max f 0) (max m 0) (max i 0) (max b k) ≡ made f m i b
no_higher f m i b k le =
    let p : max f 0 ≡ f = omega arith in
    let q : max m 0 ≡ m = omega arith in
    let r : max i 0 ≡ i = omega arith in
    let s : max b k ≡ b = omega (arith, le) in
    cc (p, q, r, s)

highest_stay : (m : MapMeaning) (k : BoxNo) (g : ℕ) → k.0 ≤ m.highest.mailbox → higher m.highest (numbers_of m.store (entry.G k g)) ≡ m.highest
unfolding made
highest_stay m k g le = no_higher m.highest.file m.highest.map m.highest.instance m.highest.mailbox k.0 le

pub means_switched : (store : List ℕ) (entries : List MapEntry) (mailbox : BoxNo) (generation : ℕ) → AreMapEntries store entries → MapFits (map_meaning store entries) (entry.G mailbox generation)
    → MeansSame (map_meaning store entries) (map_meaning store (entries ++ entry.G mailbox generation ∷ []))
means_switched store entries mailbox generation good fits =
    let m : MapMeaning = map_meaning store entries in
    let e : MapEntry = entry.G mailbox generation in
    let sound : IsSoundMap m = map_sound store entries good.1 good.0 in
    let found = found_one (λ (b : MapBox). b.number == mailbox.0) m.boxes fits.2.0 fits.2.1 in
    let known : IsSoundMapBox m.highest.mailbox fits.2.0 = All-contains (IsSoundMapBox m.highest.mailbox) m.boxes fits.2.0 sound.boxes found.0 in
    let is = equal_is fits.2.0.number mailbox.0 found.1 in
    let below = known.below in
    let more = map_more store entries e in
    record {
      store = refl;
      records = records_with store entries mailbox generation;
      numbers = ap (map (λ (b : MapBox). b.number)) (boxes_with store entries mailbox generation) ∙ numbers_stay mailbox generation m.boxes;
      names = ap (map (λ (b : MapBox). b.name)) (boxes_with store entries mailbox generation) ∙ names_stay mailbox generation m.boxes;
      sealed = ap (λ (n : MapMeaning). n.sealed) more;
      highest = ap (λ (n : MapMeaning). n.highest) more ∙ highest_stay m mailbox generation (omega (arith, is, below));
    }
