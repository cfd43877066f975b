-- A settled disk: whatever a crash leaves has all that the store reads.
use Rattle.std.specs.Prelude.{◌≡◌, ◌⊎◌, ◌≤◌, ◌+◌, ℕ, List, length, take, drop, All, Option, Some, None}
use Rattle.disk_model.specs.Disk.{Files, DiskState, IsImage, History, EachImage, reading}
use Rattle.disk_model.specs.declared.name.FileName.TheVariants as file
use Rattle.mdbox_base.specs.declared.entries.InstRow.{InstRow}
use Rattle.mdbox_base.specs.declared.entries.MapEntry.{MapEntry}
use Rattle.model_lists.specs.Lists.{Lists}
use Rattle.model_meaning.specs.MapMeaning.{MapRecord, MapMeaning, map_meaning}
use Rattle.model_store.specs.Safe.{SafeBy, Safe}

-- the files as they read
abbrev pub files_of : DiskState → Files
files_of disk = λ name. reading (disk name)

-- a record's region lies in both files, and has the same octets there
pub record IsSameRegion (a b : Option (List ℕ)) (row : MapRecord) : Type 0 where
  pub first : List ℕ
  pub second : List ℕ
  pub in_first : a ≡ Some first
  pub in_second : b ≡ Some second
  pub first_holds : row.offset + row.size ≤ length first
  pub second_holds : row.offset + row.size ≤ length second
  pub same : take row.size (drop row.offset second) ≡ take row.size (drop row.offset first)

abbrev pub HasSameRegion : Files → Files → MapRecord → Type 0
HasSameRegion a b row = IsSameRegion (a (file.Mail row.file)) (b (file.Mail row.file)) row

-- both have the same octets of an instance
abbrev pub HasSameInstance : Files → Files → InstRow → Type 0
HasSameInstance a b inst = b (file.Inst inst.hash.0 inst.id.0) ≡ a (file.Inst inst.hash.0 inst.id.0)

-- The files agree on all that a store reads whose map log of this generation means this: the root log and the logs in
-- force, the region of each record, and each instance that a record names.
pub record AreAlike (generation : ℕ) (m : MapMeaning) (a b : Files) : Type 0 where
  pub root : b file.Root ≡ a file.Root
  pub map : b (file.Map generation) ≡ a (file.Map generation)
  pub boxes : All (λ box. b (file.Box box.number box.generation) ≡ a (file.Box box.number box.generation)) m.boxes
  pub regions : All (HasSameRegion a b) m.records
  pub instances : All (λ row. All (HasSameInstance a b) row.instances) m.records

-- The disk is settled for the lists: as it reads it is safe for them, and each image that a crash may leave now has the
-- octets that the disk reads of the root log, the logs in force, each record's region and each named instance.
pub record IsSettled (disk : DiskState) (lists : Lists) : Type 0 where
  pub store : List ℕ
  pub entries : List MapEntry
  pub safe : SafeBy (files_of disk) store entries lists
  pub alike : (image : Files) → IsImage disk image → AreAlike safe.stands.map_log.generation (map_meaning store entries) (files_of disk) image

-- the disk's content is modelled, and it is settled for these lists
abbrev pub IsSettledFor : Lists → Option History → Type 0
IsSettledFor lists None = ⊥
IsSettledFor lists (Some h) = IsSettled h.now lists

-- At every moment from one history's present to the other's, each image that a crash may leave is safe for the old lists
-- or for the new ones.
abbrev pub Leaves : Lists → Lists → Option History → Option History → Type 0
Leaves old new before after = EachImage (λ _ image. Safe image old ⊎ Safe image new) before after
