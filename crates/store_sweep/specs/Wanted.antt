-- Which files a store needs, and that its storage files end with their regions.
use Rattle.std.specs.Prelude.{◌≡◌, ◌+◌, ◌==◌, ◌&&◌, ◌||◌, ◌≤◌, ℕ, Bool, true, false, List, length, All}
use Rattle.std.specs.List.{list_any}
use Rattle.std.specs.Str.{bytes_eq}
use Rattle.disk_model.specs.Disk.{FileState, DiskState, IsThere}
use Rattle.disk_model.specs.declared.name.FileName.{FileName}
use Rattle.disk_model.specs.declared.name.FileName.TheVariants as file
use Rattle.model_meaning.specs.MapMeaning.{MapRecord, MapMeaning, is_sealed}
use Rattle.store_files.specs.Regions.{has_region, end_of}

-- a mailbox of the map has this log
abbrev pub has_box : MapMeaning → ℕ → ℕ → Bool
has_box m number generation = list_any (λ box. (box.number == number) && (box.generation == generation)) m.boxes

-- a record names the instance of this hash and id
abbrev pub row_names : List ℕ → List ℕ → MapRecord → Bool
row_names hash id row = list_any (λ inst. bytes_eq inst.hash.0 hash && bytes_eq inst.id.0 id) row.instances

abbrev pub has_instance : MapMeaning → List ℕ → List ℕ → Bool
has_instance m hash id = list_any (row_names hash id) m.records

-- The store needs the file, or it is sealed: the root log, the map log of this generation, the mailbox logs of the map,
-- the storage files with a region, and the instances that records name.
abbrev pub is_wanted : ℕ → MapMeaning → FileName → Bool
is_wanted generation m file.Root = true
is_wanted generation m (file.Map g) = g == generation
is_wanted generation m (file.Box number g) = has_box m number g
is_wanted generation m (file.Mail number) = is_sealed m number || has_region m number
is_wanted generation m (file.Inst hash id) = has_instance m hash id

-- each region of the storage file ends there or before
abbrev pub EndBy : MapMeaning → ℕ → ℕ → Type 0
EndBy m number end = All (λ row. row.file ≡ number → row.offset + row.size ≤ end) m.records

-- a storage file that isn't sealed has no octet behind its last region
abbrev pub EndsByLastRegion : MapMeaning → FileName → FileState → Type 0
EndsByLastRegion m (file.Mail number) f = is_sealed m number ≡ false → length f.octets ≤ end_of m number
EndsByLastRegion m other f = Unit {0}

-- a file is there that the store doesn't need and that isn't sealed
abbrev pub HasStray : ℕ → MapMeaning → DiskState → Type 0
HasStray generation m disk = (name : FileName) × IsThere (disk name) × (is_wanted generation m name ≡ false)

-- Beside its logs nothing is to be swept: no such file is there, and each storage file ends with its last region.
pub record HasNothingToSweep (generation : ℕ) (m : MapMeaning) (disk : DiskState) : Type 0 where
  pub only : HasStray generation m disk → ⊥
  pub ends : (name : FileName) → IsThere (disk name) → EndsByLastRegion m name (disk name)
