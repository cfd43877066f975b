-- Logs that were found, and are repaired.
use Rattle.std.specs.Prelude.{◌≡◌, ℕ, Bool, true, false, not, List, map, Option}
use Rattle.std.specs.List.{list_any}
use Rattle.disk_model.specs.Disk.{DiskState, History, IfTold}
use Rattle.disk_model.specs.Name.{same_name}
use Rattle.disk_model.specs.declared.name.FileName.{FileName}
use Rattle.disk_model.specs.declared.name.FileName.TheVariants as file
use Rattle.model_meaning.specs.MapMeaning.{MapBox, MapMeaning}
use Rattle.gate_log.specs.State.{LogState, InspectedLog}
use Rattle.gate_log.specs.Log.{IsFound, IsFoundKept, Reads, Holds}

-- the log's file stands as it was found, with some entries
pub record StandsFound (disk : DiskState) (found : InspectedLog) : Type 0 where
  pub entries : List (List ℕ)
  pub is : IsFound found entries disk

-- a log that was found, as it is when its end is repaired
abbrev pub repaired_log : InspectedLog → LogState
repaired_log found = record { name = found.name; head = found.head; end = found.end; count = found.count; room = 0 }

-- The log that was found is this one afterwards: with the entries that it had, and held where it was.
pub record IsRepaired (old new : Option History) (found : InspectedLog) (log : LogState) : Type 0 where
  pub is : log ≡ repaired_log found
  pub reads : (entries : List (List ℕ)) → IfTold old (IsFound found entries) → Reads log entries new
  pub holds : (entries : List (List ℕ)) → IfTold old (IsFoundKept found entries) → Holds log entries new

-- the log of a mailbox of the map
abbrev pub box_name : MapBox → FileName
box_name box = file.Box box.number box.generation

-- one log for each mailbox of the map, in order
abbrev pub AreLogsOfBoxes : MapMeaning → List InspectedLog → Type 0
AreLogsOfBoxes m logs = map (λ log. log.name) logs ≡ map box_name m.boxes

-- a name that none of these logs has
abbrev pub is_outside : List InspectedLog → FileName → Bool
is_outside logs name = not (list_any (λ log. same_name name log.name) logs)

-- no log of a mailbox
abbrev pub is_no_box : FileName → Bool
is_no_box (file.Box number g) = false
is_no_box other = true
