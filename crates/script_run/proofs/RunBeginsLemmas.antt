-- The run of a script as it begins, from the disk as it was before the store was opened.
use Rattle.std.specs.Prelude.{◌≡◌, ℕ, List, [], Option, Some, None}
use Rattle.std.proofs.Common.{refl, sym, ◌∙◌, ap, subst, append-nil}
use Rattle.std.proofs.lemmas.List.Elements.{All-nil}
use Rattle.disk_model.specs.Disk.{History, IfTold}
use Rattle.mdbox_base.specs.declared.entries.BoxEntry.{BoxEntry}
use Rattle.mdbox_base.specs.declared.entries.Highest.{Highest}
use Rattle.mdbox_base.specs.declared.entries.MapEntry.{MapEntry}
use Rattle.model_meaning.specs.MapMeaning.{MapMeaning, map_meaning}
use Rattle.model_meaning.specs.SameMeaning.{MeansSame}
use Rattle.model_meaning.proofs.SameMeaningLemmas.{means_itself}
use Rattle.model_store.specs.Opening.{Opens}
use Rattle.model_store.specs.Settled.{files_of}
use Rattle.list_machine.specs.Run.{Run, before, map_of}
use Rattle.journal.specs.Makes.{HasCome}
use Rattle.task_steps.specs.Step.{Seen}
use Rattle.store_core.specs.Value.{StoreValue}
use Rattle.store_seen.specs.Seeing.{IsAtOpening}
use Rattle.script_run.specs.Opening.{RunBegins, RunHasCome, barred_files}
use Rattle.script_run.specs.OpenScript.{IsStoreOpened}
use Rattle.script_run.proofs.OpenedLemmas.{bars_known, found_is_told, knows_named, named_is_there, none_doomed}

-- ---- the run

-- the run as it begins
abbrev pub beginning : MapMeaning → List MapEntry → Run
beginning m entries = record { store = m.store; start = entries; opened = m.highest; barred = barred_files m; events = [] }

-- the map and the numbers with which a run begins
pub first_map : (run : Run) (m : MapMeaning) (drawn : Highest) → HasCome (before 0 run) m drawn 0 → drawn ≡ m.highest → HasCome (before 0 run) (map_meaning run.store run.start) (map_meaning run.store run.start).highest 0
first_map run m drawn come is =
    let first : map_of (before 0 run) ≡ map_meaning run.store run.start = ap (map_meaning run.store) (append-nil run.start) in
    record { map_is = first; drawn_is = come.drawn_is ∙ (is ∙ ap (λ (n : MapMeaning). n.highest) (sym come.map_is ∙ first)); moments = All-nil _ }

-- what was seen of a store, with the disk as it was before the opening
abbrev pub before_opening : Seen → Option History → Seen
before_opening seen old = record seen { history = old }

pub run_begins : (run : Run) (old : Option History) (entries : List MapEntry) (logs : List (List BoxEntry)) → run.barred ≡ barred_files (map_meaning run.store run.start) → IfTold old (λ now. Opens (files_of now) run.store entries logs) → MeansSame (map_meaning run.store entries) (map_meaning run.store run.start) → RunBegins run old
run_begins run None entries logs barred opens means = (barred, tt)
run_begins run (Some h) entries logs barred opens means = (barred, (entries, logs, opens, means))

pub run_ends : (run : Run) (m : MapMeaning) (new : Option History) (entries : List MapEntry) (logs : List (List BoxEntry)) → IfTold new (λ now. Opens (files_of now) run.store entries logs) → m ≡ map_meaning run.store entries → RunHasCome run m new
run_ends run m None entries logs opens is = tt
run_ends run m (Some h) entries logs opens is = (entries, logs, opens, subst (λ (n : MapMeaning). MeansSame n m) is (means_itself m))

-- ---- the opening

-- the store is as it was opened
pub at_opening : {D : Type 0} → (old mid : Option History) (s : StoreValue D) → (o : IsStoreOpened old mid s) → IsAtOpening (beginning s.map o.store.entries) s
at_opening old mid s o = record {
  empty = refl;
  free = o.free;
  undoomed = λ file. none_doomed s old o.files file;
  told = λ file e. found_is_told s old o.files file e;
  there = λ file unsealed named. named_is_there s old o.files file unsealed named;
  named = λ instance. knows_named s o.instances instance;
  barred = λ file e. bars_known s old o.order o.files o.store.files.highest file e;
}

-- and the run has come to it, without an event
pub first_come : {D : Type 0} → (old mid : Option History) (calls : ℕ) (s : StoreValue D) → (o : IsStoreOpened old mid s) → HasCome (beginning s.map o.store.entries) s.map s.drawn calls
first_come old mid calls s o = record { map_is = ap (map_meaning s.map.store) (append-nil o.store.entries) ∙ sym o.store.map_is; drawn_is = sym o.drawn; moments = All-nil _ }

-- the run begins with the map log of the files
pub opening_begins : {D : Type 0} → (old mid : Option History) (s : StoreValue D) → (o : IsStoreOpened old mid s) → RunBegins (beginning s.map o.store.entries) old
opening_begins old mid s o = run_begins (beginning s.map o.store.entries) old o.opened.entries o.opened.logs (ap barred_files o.store.map_is) o.opened.opens (subst (λ (n : MapMeaning). MeansSame (map_meaning s.map.store o.opened.entries) n) o.store.map_is o.opened.means)
