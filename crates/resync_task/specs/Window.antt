-- A window over a storage file, and the two ends of a region: its header, and what follows its body.
use Rattle.std.specs.Prelude.{◌≡◌, ◌≤◌, ◌<◌, ◌+◌, ◌-◌, ℕ, List, ◌++◌, length, take, drop, codes, Option, Some}
use Rattle.disk_model.specs.Disk.{History, IfTold, reading}
use Rattle.disk_model.specs.declared.name.FileName.TheVariants as file
use Rattle.mdbox_base.specs.Numbers.{hex_from}
use Rattle.storage_files.specs.OnDisk.{piece_read}

-- What it has of the file: these octets, from this offset on.
pub record WindowPart : Type 0 where
  pub start : ℕ
  pub part : List ℕ

-- these are so many octets from an offset of a file on, or those up to its end, as far as the disk tells
abbrev pub IsPieceAt : Option History → ℕ → ℕ → ℕ → List ℕ → Type 0
IsPieceAt history number offset size octets = IfTold history (λ now. octets ≡ piece_read offset size (reading (now (file.Mail number))))

-- a window has what stands in the file there
abbrev pub IsReadOf : Option History → ℕ → WindowPart → Type 0
IsReadOf history number window = IsPieceAt history number window.start (length window.part) window.part

-- the file has fewer octets than so many from an offset on
abbrev pub EndsBefore : Option History → ℕ → ℕ → ℕ → Type 0
EndsBefore history number offset size = IfTold history (λ now. length (piece_read offset size (reading (now (file.Mail number)))) < size)

-- these are the thirty octets at an offset of a window
pub record HasHeader (window : WindowPart) (offset : ℕ) (header : List ℕ) : Type 0 where
  pub from : window.start ≤ offset
  pub within : offset + 30 ≤ window.start + length window.part
  pub is : header ≡ take 30 (drop (offset - window.start) window.part)

-- these are the thirty octets at an offset of a file
pub record IsHeaderAt (history : Option History) (number offset : ℕ) (header : List ℕ) : Type 0 where
  pub long : length header ≡ 30
  pub there : IsPieceAt history number offset 30 header

-- ---- the ends of a region

-- the header of a message, but that it tells a body of no octets
abbrev pub bodiless_header : List ℕ → List ℕ
bodiless_header header = take 13 header ++ (codes "0000000000000000" ++ drop 29 header)

-- By the size of the body that its header tells, so many octets of a region follow the body; a block of metadata may have as many.
pub record HasTail (header : List ℕ) (size tail : ℕ) : Type 0 where
  pub body : ℕ
  pub told : hex_from 0 (take 16 (drop 13 header)) ≡ Some body
  pub fits : body ≤ 4294967295
  pub parts : 30 + body + tail ≡ size
  pub short : tail ≤ 1048576
