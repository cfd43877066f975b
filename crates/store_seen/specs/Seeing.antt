-- An open store as an event of a task sees it.
use Rattle.std.specs.Prelude.{◌≡◌, ◌==◌, ◌&&◌, ◌||◌, nat_le, ℕ, Bool, true, false, List, [], Option}
use Rattle.std.specs.List.{list_any}
use Rattle.std.specs.Option.{option_map_or}
use Rattle.disk_model.specs.Disk.{History, Faults}
use Rattle.mdbox_base.specs.declared.entries.InstRow.{InstRow}
use Rattle.model_meaning.specs.MapMeaning.{is_sealed, named_instances}
use Rattle.list_machine.specs.Run.{Run, is_one_of}
use Rattle.journal.specs.Found.{is_same_instance}
use Rattle.storage_files.specs.Files.{file_in, is_doomed_in}
use Rattle.store_core.specs.Dues.{due_at}
use Rattle.store_core.specs.Knows.{is_told_of, knows_file, knows_instance, may_be_gone, may_have_given}
use Rattle.store_core.specs.Value.{StoreValue, indexes_of, none_due}
use Rattle.task_steps.specs.Step.{Seen}

-- The store may have barred this file: it was drawn, and is barred or isn't there.
abbrev pub may_be_barred : {D : Type 0} → StoreValue D → ℕ → Bool
may_be_barred store file = nat_le file store.drawn.file && option_map_or (λ f. f.barred) (file_in file store.files.files) true

-- It may have doomed this file, or removed it: it was drawn, and is doomed, or the store has it no more. One that was taken and
-- isn't made yet is neither.
abbrev pub may_be_used : {D : Type 0} → StoreValue D → ℕ → Bool
may_be_used store file = nat_le file store.drawn.file && option_map_or (λ f. f.doomed) (file_in file store.files.files) true

-- A store as an event sees it, with so many pins of each file, what its disk tells and the faults that it has counted.
abbrev pub seen_of : {D : Type 0} → (ℕ → ℕ) → StoreValue D → Option History → Faults → Seen
seen_of pins store history faults = record {
  map = store.map;
  meanings = indexes_of store.boxes;
  drawn = store.drawn;
  history = history;
  faults = faults;
  stopped = store.stopped;
  due = λ uid. due_at uid store;
  pins = pins;
  doomed = λ file. is_doomed_in file store.files.files;
  used = λ file. may_be_used store file;
  barred = λ file. may_be_barred store file;
  gave = λ guid. may_have_given store guid;
  gone = λ instance. may_be_gone store instance;
  files = λ file. knows_file store file;
  instances = λ instance. knows_instance store instance;
  known = store.instances.known;
}

-- A run has no events yet, and a store is as it was opened: nothing is due, no file is doomed, the map tells of those that are
-- there, each file is there in which a record has its region, unless it is sealed, the known instances are those that records
-- name, and the files that the run calls barred are.
pub record IsAtOpening {D : Type 0} (run : Run) (store : StoreValue D) : Type 0 where
  pub empty : run.events ≡ []
  pub free : store.dues ≡ none_due store.map.records
  pub undoomed : (file : ℕ) → is_doomed_in file store.files.files ≡ false
  pub told : (file : ℕ) → knows_file store file ≡ true → is_told_of store.map file ≡ true
  pub there : (file : ℕ) → is_sealed store.map file ≡ false → list_any (λ row. row.file == file) store.map.records ≡ true → knows_file store file ≡ true
  pub named : (instance : InstRow) → knows_instance store instance ≡ list_any (is_same_instance instance) (named_instances store.map)
  pub barred : (file : ℕ) → is_one_of run.barred file ≡ true → may_be_barred store file ≡ true
