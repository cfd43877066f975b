-- The files of a disk, as a walk over their names finds them.
use Rattle.std.specs.Prelude.{◌≡◌, ◌≢◌, ◌<◌, ◌==◌, nat_lt, if◌then◌else◌, ℕ, Bool, false, List, Option, Some, None, All, AllPairs, Contains}
use Rattle.std.specs.declared.cmp.Ordering.{Ordering}
use Rattle.std.specs.declared.cmp.Ordering.TheVariants.{Less}
use Rattle.disk_model.specs.Disk.{DiskState, IsThere}
use Rattle.disk_model.specs.Name.{IsLogName}
use Rattle.disk_model.specs.declared.name.FileName.{FileName}
use Rattle.disk_model.specs.declared.name.FileName.TheVariants as file
use Rattle.mdbox_base.specs.Words.{IsNumber}
use Rattle.mdbox_base.specs.declared.ids.FileNo.{FileNo}
use Rattle.model_meaning.specs.MapMeaning.{instance_number}

-- These are the numbers of the storage files that are there, in order, each once.
pub record AreStorageNumbers (numbers : List FileNo) (disk : DiskState) : Type 0 where
  pub rising : AllPairs (λ a b. a.0 < b.0) numbers
  pub there : All (λ n. IsNumber n.0 × IsThere (disk (file.Mail n.0))) numbers
  pub every : (n : ℕ) → IsNumber n → IsThere (disk (file.Mail n)) → Contains numbers (record { 0 = n })

-- the least number of a storage file that is there and past this one
abbrev pub IsNextStorage : ℕ → Option ℕ → DiskState → Type 0
IsNextStorage last None disk = (n : ℕ) → last < n → n < 4294967295 → IsThere (disk (file.Mail n)) → ⊥
IsNextStorage last (Some next) disk = IsThere (disk (file.Mail next)) × ((n : ℕ) → last < n → n < next → IsThere (disk (file.Mail n)) → ⊥)

-- the number of a storage file with this name, if it is that of one
abbrev pub storage_number : FileName → Option ℕ
storage_number file.Root = None
storage_number (file.Map generation) = None
storage_number (file.Box number generation) = None
storage_number (file.Mail number) = if nat_lt number 4294967295 then Some number else None
storage_number (file.Inst hash id) = None

-- the name of a mailbox log of this generation
abbrev pub is_box_of : ℕ → FileName → Bool
is_box_of generation file.Root = false
is_box_of generation (file.Map other) = false
is_box_of generation (file.Box number other) = other == generation
is_box_of generation (file.Mail number) = false
is_box_of generation (file.Inst hash id) = false

-- the least log that is there, of those past this name
abbrev pub IsNextLog : (FileName → FileName → Ordering) → FileName → Option FileName → DiskState → Type 0
IsNextLog cmp last None disk = (name : FileName) → IsLogName name → IsThere (disk name) → cmp last name ≡ Less → ⊥
IsNextLog cmp last (Some next) disk = IsThere (disk next) × ((name : FileName) → IsThere (disk name) → cmp last name ≡ Less → cmp name next ≢ Less)

-- the running number of the instance with this name, or 0
abbrev pub instance_in_name : List ℕ → FileName → ℕ
instance_in_name store file.Root = 0
instance_in_name store (file.Map generation) = 0
instance_in_name store (file.Box number generation) = 0
instance_in_name store (file.Mail number) = 0
instance_in_name store (file.Inst hash id) = instance_number store id
