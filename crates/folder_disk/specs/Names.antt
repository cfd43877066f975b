-- The names of a store's files that are there, as a set in order.
use Rattle.std.specs.Prelude.{◌≡◌, ◌⊎◌, ℕ, false, List, Option, Some, None, IsTrue, ⊤}
use Rattle.std.specs.BTreeSet.{BTreeSet, contains}
use Rattle.std.specs.Ordering.{is_gt}
use Rattle.std.specs.declared.cmp.Ordering.{Ordering}
use Rattle.disk_model.specs.Disk.{IsPast}
use Rattle.disk_model.specs.declared.name.FileName.{FileName}
use Rattle.file_paths.specs.Paths.{path_text, IsStoreFile}
use Rattle.folder_model.specs.System.{System, PlainFile}

-- a file of a store that stands at its path
pub record IsFileThere (s : System) (name : FileName) : Type 0 where
  pub file : IsStoreFile name
  pub number : ℕ
  pub stands : s.node (path_text name) ≡ PlainFile number

-- The names of the files that stand at paths like this are added, and no others.
pub record AddsFiles (cmp : FileName → FileName → Ordering) (at : List ℕ → Type 0) (s : System) (old new : BTreeSet FileName) : Type 0 where
  pub keeps : (name : FileName) → IsTrue (contains cmp old name) → IsTrue (contains cmp new name)
  pub only : (name : FileName) → IsTrue (contains cmp new name) → IsTrue (contains cmp old name) ⊎ IsFileThere s name
  pub all : (name : FileName) → IsFileThere s name → at (path_text name) → IsTrue (contains cmp new name)

-- these are the names of the files that are there
pub record AreFileNames (cmp : FileName → FileName → Ordering) (s : System) (names : BTreeSet FileName) : Type 0 where
  pub only : (name : FileName) → IsTrue (contains cmp names name) → IsFileThere s name
  pub all : (name : FileName) → IsFileThere s name → IsTrue (contains cmp names name)

-- the least of these names that is past one
abbrev pub IsNextName : (FileName → FileName → Ordering) → Option FileName → Option FileName → BTreeSet FileName → Type 0
IsNextName cmp after None names = (name : FileName) → IsTrue (contains cmp names name) → IsPast cmp after name → ⊥
IsNextName cmp after (Some next) names = IsTrue (contains cmp names next) × IsPast cmp after next
    × ((name : FileName) → IsTrue (contains cmp names name) → IsPast cmp after name → is_gt (cmp next name) ≡ false)
