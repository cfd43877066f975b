-- Logs that a store doesn't need: those that are not in force.
use Rattle.std.specs.Prelude.{◌≡◌, ◌≢◌, ℕ, List, Option, All}
use Rattle.disk_model.specs.Disk.{DiskState, MayLeave, reading}
use Rattle.disk_model.specs.Name.{IsLogName}
use Rattle.disk_model.specs.declared.name.FileName.{FileName}
use Rattle.disk_model.specs.declared.name.FileName.TheVariants as file
use Rattle.model_meaning.specs.MapMeaning.{MapMeaning}

-- A log that the store doesn't need whose map log of this generation means this: neither the root log, nor that map log, nor the
-- log of a mailbox in its present generation.
pub record IsUnneeded (generation : ℕ) (m : MapMeaning) (name : FileName) : Type 0 where
  pub is : IsLogName name
  pub no_root : name ≢ file.Root
  pub no_map : name ≢ file.Map generation
  pub no_box : All (λ box. file.Box box.number box.generation ≢ name) m.boxes

-- each other file reads as before, and is left by a crash as before or surer
pub record IsBeside (name : FileName) (a b : DiskState) : Type 0 where
  pub reads : (other : FileName) → other ≢ name → reading (b other) ≡ reading (a other)
  pub leaves : (other : FileName) → other ≢ name → (left : Option (List ℕ)) → MayLeave (b other) left → MayLeave (a other) left
