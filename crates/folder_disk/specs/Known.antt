-- What a disk knows of its files without a look at the folders.
use Rattle.std.specs.Prelude.{◌↔◌, Option, Some, None, IsTrue, ⊤}
use Rattle.std.specs.BTreeSet.{BTreeSet, contains}
use Rattle.std.specs.declared.cmp.Ordering.{Ordering}
use Rattle.disk_model.specs.Disk.{History, IfTold, IsThere}
use Rattle.disk_model.specs.declared.name.FileName.{FileName}

-- these are the names of the files that the disk has, where they are told
abbrev pub AreToldNames : (FileName → FileName → Ordering) → Option History → BTreeSet FileName → Type 0
AreToldNames cmp told names = IfTold told (λ disk. (name : FileName) → IsTrue (contains cmp names name) ↔ IsThere (disk name))

-- the same of names that may be known
abbrev pub AreKnownNames : (FileName → FileName → Ordering) → Option History → Option (BTreeSet FileName) → Type 0
AreKnownNames cmp told None = ⊤
AreKnownNames cmp told (Some names) = AreToldNames cmp told names
