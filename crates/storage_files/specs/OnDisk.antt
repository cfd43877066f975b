-- Storage files on a disk.
use Rattle.std.specs.Prelude.{◌≡◌, ◌≢◌, ◌↔◌, ◌⊎◌, ◌≤◌, ℕ, List, [], ◌++◌, length, take, drop, max, Option, Some, None, IfSome}
use Rattle.std.specs.Option.{option_map}
use Rattle.disk_model.specs.Disk.{Files, FileState, History, IfTold, Between, MayLeave, named, reading}
use Rattle.disk_model.specs.declared.name.FileName.{FileName}
use Rattle.disk_model.specs.declared.name.FileName.TheVariants.{Mail}
use Rattle.storage_files.specs.declared.file.MailFile.{MailFile}
use Rattle.storage_files.specs.Files.{end_in}

-- The disk has the storage file with this number as it is known: as long as its end, and none if none is there.
abbrev pub IsAsKnown : List MailFile → ℕ → Option History → Type 0
IsAsKnown files number history = IfTold history (λ disk. option_map length (reading (disk (Mail number))) ≡ end_in number files)

-- Below this end an image has of this file what a crash could leave of it before. So all regions that end there or before
-- it stay.
abbrev pub FrontStays : FileName → ℕ → Option History → Files → Type 0
FrontStays name end old image = IfTold old (λ disk. MayLeave (disk name) (option_map (take end) (image name)))

-- Octets were added at the end of a file: it reads them after those that it had. A crash leaves it as it reads, or leaves
-- none, if it could leave none before.
pub record IsAddedTo (octets : List ℕ) (old new : FileState) : Type 0 where
  pub before : List ℕ
  pub read : reading old ≡ Some before
  pub reads : reading new ≡ Some (before ++ octets)
  pub leaves : (left : Option (List ℕ)) → MayLeave new left ↔ ((left ≡ Some (before ++ octets)) ⊎ ((left ≡ None) × MayLeave old None))

-- A piece was added at the end of a file and isn't synced yet: the file reads it after the octets that it had, and a crash
-- removes the file only if it could before.
pub record IsPieceAdded (octets : List ℕ) (old new : FileState) : Type 0 where
  pub before : List ℕ
  pub read : reading old ≡ Some before
  pub reads : reading new ≡ Some (before ++ octets)
  pub leaves : MayLeave new None → MayLeave old None

-- A file was synced: it reads as it did, and a crash leaves it so, or leaves none, if it could leave none before.
pub record IsSyncedFile (old new : FileState) : Type 0 where
  pub reads : reading new ≡ reading old
  pub leaves : (left : Option (List ℕ)) → MayLeave new left → (left ≡ reading old) ⊎ ((left ≡ None) × MayLeave old None)

-- an image has of this file what a crash could leave of it before
abbrev pub IsLeftAsBefore : FileName → Option History → Files → Type 0
IsLeftAsBefore name old image = IfTold old (λ disk. MayLeave (disk name) (image name))

-- An image has nothing of this file, or no more octets than it could have before, or than are written.
abbrev pub IsNewOrNone : FileName → ℕ → Option History → Files → Type 0
IsNewOrNone name written old image = IfTold old (λ disk. IfSome (image name) (λ octets. length octets ≤ max (disk name).greatest written))

-- each other file is as it was, with its name synced
abbrev pub OthersAreNamed : FileName → Option History → Option History → Type 0
OthersAreNamed name = Between (λ old new. (other : FileName) → other ≢ name → new other ≡ named (old other))

-- an image has nothing of this file, or what a crash could leave of it before
abbrev pub IsLeftOrNone : FileName → Option History → Files → Type 0
IsLeftOrNone name old image = IfTold old (λ disk. (image name ≡ None) ⊎ MayLeave (disk name) (image name))

-- What is read of a file from an offset on, at most so many octets. Of a file that isn't there nothing is read.
abbrev pub piece_read : ℕ → ℕ → Option (List ℕ) → List ℕ
piece_read offset size None = []
piece_read offset size (Some octets) = take size (drop offset octets)
