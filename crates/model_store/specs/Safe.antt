-- Which images are safe: nothing that a list needs is missing or may be removed.
use Rattle.std.specs.Prelude.{◌≡◌, ◌≤◌, ◌+◌, ℕ, List, length, All, Some}
use Rattle.disk_model.specs.Disk.{Files}
use Rattle.disk_model.specs.declared.name.FileName.TheVariants as file
use Rattle.mdbox_base.specs.declared.entries.InstRow.{InstRow}
use Rattle.mdbox_base.specs.declared.entries.MapEntry.{MapEntry}
use Rattle.model_lists.specs.Lists.{Lists, refs_of}
use Rattle.model_meaning.specs.MapMeaning.{MapRecord, MapMeaning, map_meaning, count_of, named_instances}
use Rattle.model_store.specs.Stands.{StandsBy}

-- a record's region lies in its storage file
pub record LiesInFile (image : Files) (row : MapRecord) : Type 0 where
  pub octets : List ℕ
  pub there : image (file.Mail row.file) ≡ Some octets
  pub inside : row.offset + row.size ≤ length octets

-- an instance is there with its size
pub record IsThereWhole (image : Files) (inst : InstRow) : Type 0 where
  pub octets : List ℕ
  pub there : image (file.Inst inst.hash.0 inst.id.0) ≡ Some octets
  pub size : length octets ≡ inst.size

-- What a map log's meaning needs beside the lists: each count is at least its references, each region lies in its file,
-- and each instance that a record names is there with its size.
pub record HasAll (image : Files) (m : MapMeaning) (lists : Lists) : Type 0 where
  pub counts : (guid : List ℕ) → refs_of lists guid ≤ count_of m guid
  pub regions : All (LiesInFile image) m.records
  pub instances : All (IsThereWhole image) (named_instances m)

-- The image of a store with this id and these entries of its map log is safe for the lists.
pub record SafeBy (image : Files) (store : List ℕ) (entries : List MapEntry) (lists : Lists) : Type 0 where
  pub stands : StandsBy image store entries lists
  pub has_all : HasAll image (map_meaning store entries) lists

-- The image is safe for the lists: it stands for them, and has all that they need.
pub record Safe (image : Files) (lists : Lists) : Type 0 where
  pub store : List ℕ
  pub entries : List MapEntry
  pub by : SafeBy image store entries lists
