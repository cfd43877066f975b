-- A window over a storage file, as callers see it.
use Rattle.std.specs.Prelude.{◌≡◌, ℕ, Bool, true, false, List, length, take, drop, Option, Some, None, Result, Ok, Err}
use Rattle.disk_model.specs.Disk.{DiskState, reading}
use Rattle.disk_model.specs.declared.name.FileName.TheVariants as file
use Rattle.model_storage.specs.declared.places.MessageAt.{MessageAt}
use Rattle.model_storage.specs.declared.places.PlaceError.{PlaceError}
use Rattle.model_storage.specs.declared.places.PlaceError.TheVariants as at
use Rattle.model_storage.specs.declared.places.ScanError.{ScanError}
use Rattle.model_storage.specs.StorageFile.{PlaceGives}
use Rattle.scan_pieces.specs.Pieces.{HeaderGives}

-- The number of the storage file, its size, and the octets that the window has of it, from `start` on.
pub record WindowValue : Type 0 where
  pub number : ℕ
  pub size : ℕ
  pub start : ℕ
  pub part : List ℕ

-- the window has what stands there in a file of these octets
pub record IsWindowOf (w : WindowValue) (octets : List ℕ) : Type 0 where
  pub size : w.size ≡ length octets
  pub part : w.part ≡ take (length w.part) (drop w.start octets)

-- and as much of it as it has room for
pub record IsLoadedOf (w : WindowValue) (octets : List ℕ) : Type 0 where
  pub size : w.size ≡ length octets
  pub part : w.part ≡ take 2097152 (drop w.start octets)

-- the same of the file as the disk reads it
abbrev pub IsWindowOn : WindowValue → DiskState → Type 0
IsWindowOn w disk = (octets : List ℕ) → reading (disk (file.Mail w.number)) ≡ Some octets → IsWindowOf w octets

abbrev pub IsLoadedOn : WindowValue → DiskState → Type 0
IsLoadedOn w disk = (octets : List ℕ) → reading (disk (file.Mail w.number)) ≡ Some octets → IsLoadedOf w octets

-- what stands at an offset of the file that the disk reads
abbrev pub GivesOn : ℕ → ℕ → Result MessageAt PlaceError → DiskState → Type 0
GivesOn number offset answer disk = (octets : List ℕ) → reading (disk (file.Mail number)) ≡ Some octets → PlaceGives octets offset answer

-- the header line of the file that the disk reads
abbrev pub HeaderOn : ℕ → Result ℕ ScanError → DiskState → Type 0
HeaderOn number answer disk = (octets : List ℕ) → reading (disk (file.Mail number)) ≡ Some octets → HeaderGives octets answer

-- the size of a file; 0 of one that isn't there
abbrev pub IsSizeOf : Option (List ℕ) → ℕ → Type 0
IsSizeOf None size = size ≡ 0
IsSizeOf (Some octets) size = size ≡ length octets

-- the answer is that a text is only a prefix of a message
abbrev pub is_short : Result MessageAt PlaceError → Bool
is_short (Ok place) = false
is_short (Err (at.Truncated n)) = true
is_short (Err (at.BadMessage n)) = false
