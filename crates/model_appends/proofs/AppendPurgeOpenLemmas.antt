-- Files open with a purge more in the map log, good logs are good with it, and counts are made up as before.
use Rattle.model_appends.proofs.Common.{◌≡◌, ◌≤◌, ◌==◌, ℕ, List, [], ◌∷◌, ◌++◌, length, count_by, All, Contains, refl, AllByRecursion, sym, ◌∙◌, subst, ap, arith, All-nil, All-cons, All-head, All-tail, All-contains, All-contains_itself, sum_by-cons, Files, FileNo, MapUid, InstRow, BoxEntry}
use Rattle.model_appends.proofs.Common.{MapEntry, map_text, MapInRange, each_more, map_fit_more, equal_is, equal_yes, map_sound, LogRow, rows_after, MapFits, MapRecord, MapBox, MapMeaning, map_meaning, IsSoundMap, found_one, AreGoodLogs, HasItsRecord, PassBoxes, IsCounted, listed_of, Opens}
use Rattle.model_appends.proofs.Common.{LiesInFile, IsThereWhole, IsAccounted, bit, HasOneMore, SameBut}
use Rattle.disk_model.specs.declared.name.FileName.TheVariants as file
use Rattle.mdbox_base.specs.declared.entries.MapEntry.TheVariants as entry
use Rattle.mdbox_base.specs.declared.entries.MapPlace.{MapPlace}
use Rattle.model_meaning.proofs.MapPlaceLemmas.{changed_same}
use Rattle.model_meaning.specs.MapMeaning.{place_given, moved_record}
use Rattle.model_appends.specs.MapAppending.{IsCopiedTo, AreCopied}
use Rattle.model_appends.proofs.AppendBoxLemmas.{box_log_as}
use Rattle.model_appends.proofs.AppendFileLemmas.{SameStored, map_stored}
use Rattle.model_appends.proofs.AppendMapLemmas.{map_log_more}
use Rattle.model_appends.proofs.AppendPurgeLemmas.{each_placed, place_found, found_purged, lies_placed, placed_count, rows_instances, instances_of, purged_boxes}
use Rattle.model_appends.proofs.AppendSafeLemmas.{regions_as, instances_as}

-- ---- counts

counted_placed : (logs : List (List BoxEntry)) (e : MapEntry) (row later : MapRecord) → later.uid ≡ row.uid → later.count ≡ row.count → IsCounted logs row → IsCounted logs later
counted_placed logs e row later u c h = let l : listed_of logs later.uid ≡ listed_of logs row.uid = ap (listed_of logs) u in omega (arith, h, l, c)

counts_purged : (store : List ℕ) (entries : List MapEntry) (logs : List (List BoxEntry)) (file_no : FileNo) (target : ℕ) (moved : List MapPlace) (dropped : List MapUid) → All (IsCounted logs) (map_meaning store entries).records
    → All (IsCounted logs) (map_meaning store (entries ++ entry.P file_no target moved dropped ∷ [])).records
counts_purged store entries logs file_no target moved dropped all =
    each_placed store entries file_no target moved dropped (IsCounted logs) (IsCounted logs)
    (λ row h. counted_placed logs (entry.P file_no target moved dropped) row (moved_record row target (place_given row.uid moved)) (changed_same (entry.P file_no target moved dropped) row).uid (placed_count row target (place_given row.uid moved)) h) all

-- A purge makes nothing due, and lets nothing leak: the records that it drops have no count.
pub accounted_by_purge : (store : List ℕ) (entries : List MapEntry) (logs : List (List BoxEntry)) (due leak : ℕ → ℕ) (file_no : FileNo) (target : ℕ) (moved : List MapPlace) (dropped : List MapUid) → All (IsAccounted due leak logs) (map_meaning store entries).records
    → All (IsAccounted due leak logs) (map_meaning store (entries ++ entry.P file_no target moved dropped ∷ [])).records
accounted_by_purge store entries logs due leak file_no target moved dropped all =
    each_placed store entries file_no target moved dropped (IsAccounted due leak logs) (IsAccounted due leak logs)
    (λ row h. same row (moved_record row target (place_given row.uid moved)) (changed_same (entry.P file_no target moved dropped) row).uid (placed_count row target (place_given row.uid moved)) h) all
  where
    same : (row later : MapRecord) → later.uid ≡ row.uid → later.count ≡ row.count → IsAccounted due leak logs row → IsAccounted due leak logs later
    same row later u c h =
        let l : listed_of logs later.uid ≡ listed_of logs row.uid = ap (listed_of logs) u in
        let d : due later.uid ≡ due row.uid = ap due u in
        let k : leak later.uid ≡ leak row.uid = ap leak u in
        omega (arith, h, l, c, d, k)

-- ---- a listed row still has its record

-- what these rows list, the logs list
abbrev AreAmong : List (List BoxEntry) → List LogRow → Type 0
AreAmong logs rows = (uid : ℕ) → 1 ≤ count_by (λ row. row.map_uid == uid) rows → 1 ≤ listed_of logs uid

has_purged : (store : List ℕ) (entries : List MapEntry) (logs : List (List BoxEntry)) (file_no : FileNo) (target : ℕ) (moved : List MapPlace) (dropped : List MapUid) (row : LogRow) → IsSoundMap (map_meaning store entries)
    → MapFits (map_meaning store entries) (entry.P file_no target moved dropped) → All (IsCounted logs) (map_meaning store entries).records → 1 ≤ listed_of logs row.map_uid → HasItsRecord (map_meaning store entries) row
    → HasItsRecord (map_meaning store (entries ++ entry.P file_no target moved dropped ∷ [])) row
has_purged store entries logs file_no target moved dropped row sound fits counts some h =
    let m : MapMeaning = map_meaning store entries in
    let r : MapRecord = h.0 in
    let one = found_one (λ (x : MapRecord). x.uid == row.map_uid) m.records r h.1 in
    let enough : listed_of logs r.uid ≤ r.count = All-contains (IsCounted logs) m.records r counts one.0 in
    let uid : listed_of logs r.uid ≡ listed_of logs row.map_uid = ap (listed_of logs) (equal_is r.uid row.map_uid one.1) in (
      moved_record r target (place_given r.uid moved),
      found_purged store entries file_no target moved dropped row.map_uid r sound fits h.1 (omega (arith, enough, uid, some)),
      (changed_same (entry.P file_no target moved dropped) r).guid ∙ h.2,
    )

first_among : (logs : List (List BoxEntry)) (row : LogRow) (rows : List LogRow) → AreAmong logs (row ∷ rows) → 1 ≤ listed_of logs row.map_uid
first_among logs row rows among =
    let a = sum_by-cons (λ (o : LogRow). bit (o.map_uid == row.map_uid)) row rows in
    let b : bit (row.map_uid == row.map_uid) ≡ 1 = ap bit (equal_yes row.map_uid row.map_uid refl) in
    among row.map_uid (omega (arith, a, b))

rest_among : (logs : List (List BoxEntry)) (row : LogRow) (rows : List LogRow) → AreAmong logs (row ∷ rows) → AreAmong logs rows
rest_among logs row rows among = λ uid some. let a = sum_by-cons (λ (o : LogRow). bit (o.map_uid == uid)) row rows in among uid (omega (arith, a, some))

rows_purged : (store : List ℕ) (entries : List MapEntry) (logs : List (List BoxEntry)) (file_no : FileNo) (target : ℕ) (moved : List MapPlace) (dropped : List MapUid) (rows : List LogRow) → IsSoundMap (map_meaning store entries)
    → MapFits (map_meaning store entries) (entry.P file_no target moved dropped) → All (IsCounted logs) (map_meaning store entries).records → AreAmong logs rows → All (HasItsRecord (map_meaning store entries)) rows
    → All (HasItsRecord (map_meaning store (entries ++ entry.P file_no target moved dropped ∷ []))) rows
rows_purged store entries logs file_no target moved dropped [] sound fits counts among h = All-nil (HasItsRecord (map_meaning store (entries ++ entry.P file_no target moved dropped ∷ [])))
rows_purged store entries logs file_no target moved dropped (row ∷ rows) sound fits counts among h =
    All-cons (HasItsRecord (map_meaning store (entries ++ entry.P file_no target moved dropped ∷ []))) row rows
    (has_purged store entries logs file_no target moved dropped row sound fits counts (first_among logs row rows among) (All-head (HasItsRecord (map_meaning store entries)) row rows h))
    (rows_purged store entries logs file_no target moved dropped rows sound fits counts (rest_among logs row rows among) (All-tail (HasItsRecord (map_meaning store entries)) row rows h))

-- what these logs list, all list
abbrev LogsAmong : List (List BoxEntry) → List (List BoxEntry) → Type 0
LogsAmong all logs = (uid : ℕ) → 1 ≤ listed_of logs uid → 1 ≤ listed_of all uid

log_among : (all : List (List BoxEntry)) (log : List BoxEntry) (logs : List (List BoxEntry)) → LogsAmong all (log ∷ logs) → AreAmong all (rows_after log)
log_among all log logs among = λ uid some. let a = sum_by-cons (λ (l : List BoxEntry). count_by (λ (row : LogRow). row.map_uid == uid) (rows_after l)) log logs in among uid (omega (arith, a, some))

logs_among : (all : List (List BoxEntry)) (log : List BoxEntry) (logs : List (List BoxEntry)) → LogsAmong all (log ∷ logs) → LogsAmong all logs
logs_among all log logs among = λ uid some. let a = sum_by-cons (λ (l : List BoxEntry). count_by (λ (row : LogRow). row.map_uid == uid) (rows_after l)) log logs in among uid (omega (arith, a, some))

logs_purged : (store : List ℕ) (entries : List MapEntry) (all : List (List BoxEntry)) (file_no : FileNo) (target : ℕ) (moved : List MapPlace) (dropped : List MapUid) (logs : List (List BoxEntry)) → IsSoundMap (map_meaning store entries)
    → MapFits (map_meaning store entries) (entry.P file_no target moved dropped) → All (IsCounted all) (map_meaning store entries).records → LogsAmong all logs
    → AllByRecursion (λ log. All (HasItsRecord (map_meaning store entries)) (rows_after log)) logs → AllByRecursion (λ log. All (HasItsRecord (map_meaning store (entries ++ entry.P file_no target moved dropped ∷ []))) (rows_after log)) logs
logs_purged store entries all file_no target moved dropped [] sound fits counts among h = tt
logs_purged store entries all file_no target moved dropped (log ∷ logs) sound fits counts among h =
    (rows_purged store entries all file_no target moved dropped (rows_after log) sound fits counts (log_among all log logs among) h.0, logs_purged store entries all file_no target moved dropped logs sound fits counts (logs_among all log logs among) h.1)

-- Good logs are good with a purge that fits.
pub good_by_purge : (store : List ℕ) (entries : List MapEntry) (logs : List (List BoxEntry)) (file_no : FileNo) (target : ℕ) (moved : List MapPlace) (dropped : List MapUid) → AreGoodLogs store entries logs → MapInRange (entry.P file_no target moved dropped)
    → MapFits (map_meaning store entries) (entry.P file_no target moved dropped) → AreGoodLogs store (entries ++ entry.P file_no target moved dropped ∷ []) logs
good_by_purge store entries logs file_no target moved dropped h in_range fits =
    let e : MapEntry = entry.P file_no target moved dropped in
    let sound : IsSoundMap (map_meaning store entries) = map_sound store entries h.map_entries.1 h.map_entries.0 in
    record {
      map_entries = (each_more MapInRange entries e h.map_entries.0 in_range, map_fit_more store [] entries e h.map_entries.1 fits);
      box_entries = h.box_entries;
      one_each = h.one_each ∙ ap length (sym (purged_boxes store entries file_no target moved dropped));
      records = logs_purged store entries logs file_no target moved dropped logs sound fits h.counts (λ uid some. some) h.records;
      counts = counts_purged store entries logs file_no target moved dropped h.counts;
    }

-- ---- files that open

passes_purged : (a b : Files) (store : List ℕ) (entries : List MapEntry) (all : List (List BoxEntry)) (g : ℕ) (file_no : FileNo) (target : ℕ) (moved : List MapPlace) (dropped : List MapUid) (boxes : List MapBox) (logs : List (List BoxEntry))
    → IsSoundMap (map_meaning store entries) → MapFits (map_meaning store entries) (entry.P file_no target moved dropped) → All (IsCounted all) (map_meaning store entries).records → LogsAmong all logs → SameBut (file.Map g) a b
    → PassBoxes a (map_meaning store entries) boxes logs → PassBoxes b (map_meaning store (entries ++ entry.P file_no target moved dropped ∷ [])) boxes logs
passes_purged a b store entries all g file_no target moved dropped [] [] sound fits counts among s h = tt
passes_purged a b store entries all g file_no target moved dropped [] (log ∷ logs) sound fits counts among s h = absurd h
passes_purged a b store entries all g file_no target moved dropped (box ∷ boxes) [] sound fits counts among s h = absurd h
passes_purged a b store entries all g file_no target moved dropped (box ∷ boxes) (log ∷ logs) sound fits counts among s h = (
  record {
    log = box_log_as a b store box log (s (file.Box box.number box.generation) (λ p. absurd (cc p))) h.0.log;
    records = rows_purged store entries all file_no target moved dropped (rows_after log) sound fits counts (log_among all log logs among) h.0.records;
  },
  passes_purged a b store entries all g file_no target moved dropped boxes logs sound fits counts (logs_among all log logs among) s h.1,
)

-- Files that open, with a purge more in the map log and all else the same, open, where what it moves stands in its target.
pub opens_by_purge : (a b : Files) (store : List ℕ) (entries : List MapEntry) (logs : List (List BoxEntry)) (file_no : FileNo) (target : ℕ) (moved : List MapPlace) (dropped : List MapUid) → (o : Opens a store entries logs)
    → MapInRange (entry.P file_no target moved dropped) → MapFits (map_meaning store entries) (entry.P file_no target moved dropped) → AreCopied a (map_meaning store entries) target moved → SameBut (file.Map o.passed.map_log.generation) a b
    → HasOneMore (map_text (entry.P file_no target moved dropped)) (a (file.Map o.passed.map_log.generation)) (b (file.Map o.passed.map_log.generation)) → Opens b store (entries ++ entry.P file_no target moved dropped ∷ []) logs
opens_by_purge a b store entries logs file_no target moved dropped o in_range fits copied same more =
    let e : MapEntry = entry.P file_no target moved dropped in
    let m : MapMeaning = map_meaning store entries in
    let n : MapMeaning = map_meaning store (entries ++ e ∷ []) in
    let g : ℕ = o.passed.map_log.generation in
    let stored : SameStored a b = map_stored g a b same in
    let sound : IsSoundMap m = map_sound store entries o.passed.map_log.fit o.passed.map_log.in_range in
    record {
      passed = record {
        map_log = map_log_more a b store entries e o.passed.map_log in_range fits same more;
        boxes = subst (λ (boxes : List MapBox). PassBoxes b n boxes logs) (sym (purged_boxes store entries file_no target moved dropped))
            (passes_purged a b store entries logs g file_no target moved dropped m.boxes logs sound fits o.counts (λ uid some. some) same o.passed.boxes);
      };
      counts = counts_purged store entries logs file_no target moved dropped o.counts;
      regions = each_placed store entries file_no target moved dropped (λ row. Contains m.records row × LiesInFile a row) (LiesInFile b)
          (λ row h. regions_as a b (moved_record row target (place_given row.uid moved)) stored
          (lies_placed a target row (place_given row.uid moved) (λ place given. place_found m (λ p r. IsCopiedTo a target p.offset r) moved row sound h.0 copied place given) h.1)) (λ i d lt. (All-contains_itself m.records i d lt, o.regions i d lt));
      instances = instances_of (IsThereWhole b) n.records
          (each_placed store entries file_no target moved dropped (λ row. All (IsThereWhole a) row.instances) (λ row. All (IsThereWhole b) row.instances)
          (λ row h. subst (λ (is : List InstRow). All (IsThereWhole b) is) (sym (changed_same e row).instances) (λ i d lt. instances_as a b _ stored (h i d lt))) (rows_instances (IsThereWhole a) m.records o.instances));
    }
