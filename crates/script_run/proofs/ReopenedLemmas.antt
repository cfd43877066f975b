-- Files that are safe for lists open, with logs that show them.
use Rattle.std.specs.Prelude.{◌≡◌, ◌⊎◌, ℕ, List, [], ◌∷◌, length, map, All, Option, Some, None}
use Rattle.std.specs.List.{AllByRecursion}
use Rattle.std.proofs.Common.{refl, ap, suc, inl, inr}
use Rattle.disk_model.specs.Disk.{Files, History}
use Rattle.mdbox_base.specs.declared.entries.BoxEntry.{BoxEntry}
use Rattle.mdbox_base.specs.declared.entries.MapEntry.{MapEntry}
use Rattle.model_lists.specs.Lists.{Lists}
use Rattle.model_meaning.proofs.SameMeaningLemmas.{means_itself}
use Rattle.model_meaning.specs.BoxMeaning.{BoxMeaning, box_meaning, rows_after}
use Rattle.model_meaning.specs.MapMeaning.{MapBox, MapMeaning, map_meaning}
use Rattle.model_store.specs.GoodLogs.{AreGoodLogs}
use Rattle.model_store.specs.Opening.{AreBoxEntries, HasItsRecord, Opens, PassBoxes}
use Rattle.model_store.specs.Settled.{files_of}
use Rattle.model_store.proofs.OpeningSafeLemmas.{safe_opens}
use Rattle.journal.specs.Journal.{Broken, JournalStep, left_by}
use Rattle.store_open.specs.Opened.{IsOpenedAs}
use Rattle.script_run.specs.LeftOpen.{OpensOnLeft}
use Rattle.script_run.specs.Opening.{AreSafeFor}
use Rattle.script_run.specs.Script.{OpensShowing}
use Rattle.script_run.proofs.ShownLemmas.{LogsShow, opened_logs_show}

-- the logs with which files open are good
as_many : (files : Files) (m : MapMeaning) (boxes : List MapBox) (logs : List (List BoxEntry)) → PassBoxes files m boxes logs → length logs ≡ length boxes
as_many files m [] [] p = refl
as_many files m [] (log ∷ logs) p = absurd p
as_many files m (box ∷ boxes) [] p = absurd p
as_many files m (box ∷ boxes) (log ∷ logs) p = ap suc (as_many files m boxes logs p.1)

all_entries : (files : Files) (m : MapMeaning) (boxes : List MapBox) (logs : List (List BoxEntry)) → PassBoxes files m boxes logs → AllByRecursion AreBoxEntries logs
all_entries files m [] [] p = tt
all_entries files m [] (log ∷ logs) p = absurd p
all_entries files m (box ∷ boxes) [] p = absurd p
all_entries files m (box ∷ boxes) (log ∷ logs) p = ((p.0.log.in_range, p.0.log.fit), all_entries files m boxes logs p.1)

all_records : (files : Files) (m : MapMeaning) (boxes : List MapBox) (logs : List (List BoxEntry)) → PassBoxes files m boxes logs → AllByRecursion (λ log. All (HasItsRecord m) (rows_after log)) logs
all_records files m [] [] p = tt
all_records files m [] (log ∷ logs) p = absurd p
all_records files m (box ∷ boxes) [] p = absurd p
all_records files m (box ∷ boxes) (log ∷ logs) p = (p.0.records, all_records files m boxes logs p.1)

pub good_opened : (files : Files) (store : List ℕ) (entries : List MapEntry) (logs : List (List BoxEntry)) → Opens files store entries logs → AreGoodLogs store entries logs
good_opened files store entries logs o =
    let m : MapMeaning = map_meaning store entries in
    record {
      map_entries = (o.passed.map_log.in_range, o.passed.map_log.fit);
      box_entries = all_entries files m m.boxes logs o.passed.boxes;
      one_each = as_many files m m.boxes logs o.passed.boxes;
      records = all_records files m m.boxes logs o.passed.boxes;
      counts = o.counts;
    }

opens_on : (lists : Lists) (new : Option History) → LogsShow → AreSafeFor lists new → (m : MapMeaning) × OpensShowing m lists new
opens_on lists None show safe = absurd safe
opens_on lists (Some h) show safe =
    let o = safe_opens (files_of h.now) safe.store safe.entries lists safe.by in
    let m : MapMeaning = map_meaning safe.store safe.entries in
    let meanings : List BoxMeaning = map box_meaning o.0 in
    let opened : IsOpenedAs (Some h) m meanings = record {
      entries = safe.entries;
      logs = o.0;
      good = good_opened (files_of h.now) safe.store safe.entries o.0 o.1;
      opens = o.1;
      means = means_itself m;
      meanings_are = refl;
    } in
    (m, (meanings, opened, opened_logs_show lists (Some h) m meanings opened show safe))

pub opens_on_left : (lists : Lists) (journal : List JournalStep) (broken : Broken) (new : Option History) → LogsShow → AreSafeFor (left_by lists journal) new ⊎ AreSafeFor (left_by (left_by lists journal) broken.steps) new → OpensOnLeft lists journal broken new
opens_on_left lists journal broken new show (inl whole) = inl (opens_on (left_by lists journal) new show whole)
opens_on_left lists journal broken new show (inr broke) = inr (opens_on (left_by (left_by lists journal) broken.steps) new show broke)
