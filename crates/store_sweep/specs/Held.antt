-- What a disk holds of a store while it is swept, measured by the files as the checks found them.
use Rattle.std.specs.Prelude.{◌≡◌, ◌≤◌, ◌<◌, ◌+◌, ℕ, false, List, Option, Some, All}
use Rattle.disk_model.specs.Disk.{Files, FileState, DiskState, IsThere, Keeps, reading}
use Rattle.disk_model.specs.declared.name.FileName.{FileName}
use Rattle.disk_model.specs.declared.name.FileName.TheVariants as file
use Rattle.model_meaning.specs.MapMeaning.{MapRecord, MapMeaning}
use Rattle.model_store.specs.Settled.{IsSameRegion}
use Rattle.model_store.specs.Carrying.{HasSameEntries, CarriesOver}

-- a log of the entries that were found, which a crash leaves as it reads
pub record IsHeldLog (found : Option (List ℕ)) (f : FileState) : Type 0 where
  pub octets : List ℕ
  pub keeps : Keeps f octets
  pub same : HasSameEntries found (Some octets)

-- the file's region is the one that was found, and a crash leaves it as it reads: the file is there, its name and each
-- octet of the region are synced, and no length that it had is shorter
pub record IsFirmRegion (found : Option (List ℕ)) (row : MapRecord) (f : FileState) : Type 0 where
  pub there : IsThere f
  pub name : f.is_name_loose ≡ false
  pub same : IsSameRegion found (Some f.octets) row
  pub least : row.offset + row.size ≤ f.least
  pub firm : (place : ℕ) → row.offset ≤ place → place < row.offset + row.size → f.is_loose place ≡ false

-- the octets that were found, which a crash leaves
pub record IsHeldInstance (found : Option (List ℕ)) (f : FileState) : Type 0 where
  pub octets : List ℕ
  pub keeps : Keeps f octets
  pub same : found ≡ Some octets

-- what a file of this name holds of what the store reads there
abbrev pub IsHeldAt : ℕ → MapMeaning → Files → FileName → FileState → Type 0
IsHeldAt generation m found file.Root f = IsHeldLog (found file.Root) f
IsHeldAt generation m found (file.Map g) f = g ≡ generation → IsHeldLog (found (file.Map g)) f
IsHeldAt generation m found (file.Box k g) f = All (λ box. box.number ≡ k → box.generation ≡ g → IsHeldLog (found (file.Box k g)) f) m.boxes
IsHeldAt generation m found (file.Mail n) f = All (λ row. row.file ≡ n → IsFirmRegion (found (file.Mail n)) row f) m.records
IsHeldAt generation m found (file.Inst hash id) f = All (λ row. All (λ inst. inst.hash.0 ≡ hash → inst.id.0 ≡ id → IsHeldInstance (found (file.Inst hash id)) f) row.instances) m.records

-- The disk holds the store whose map log of this generation means this: whatever a crash leaves, its logs have the entries
-- that were found, and each region and each named instance has its octets.
abbrev pub IsHeldStore : ℕ → MapMeaning → Files → DiskState → Type 0
IsHeldStore generation m found disk = (name : FileName) → IsHeldAt generation m found name (disk name)

-- The same of what the disk reads, whatever a crash leaves.
abbrev pub IsReadStore : ℕ → MapMeaning → Files → DiskState → Type 0
IsReadStore generation m found disk = (name : FileName) → CarriesOver generation m found name (reading (disk name))
