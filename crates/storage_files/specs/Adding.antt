-- A file to which octets are added in several writes, before it is synced.
use Rattle.std.specs.Prelude.{◌≡◌, ◌≤◌, ◌<◌, ℕ, true, false, List, ◌++◌, length, All, Option}
use Rattle.disk_model.specs.Disk.{FileState, History, Between, EachImage, OthersStay, SameButFor}
use Rattle.disk_model.specs.declared.name.FileName.{FileName}
use Rattle.storage_files.specs.OnDisk.{FrontStays}

-- At each moment each image has of this file, below where it ended first, what a crash could leave of it then; and so it has of
-- the others.
abbrev pub KeepsFront : FileName → ℕ → Option History → Option History → Type 0
KeepsFront name end first now = EachImage (λ _ image. FrontStays name end first image × OthersStay name first image) first now

-- The file ended there, and these octets were added behind. Nothing of it was synced since.
pub record IsAddedOn (end : ℕ) (octets : List ℕ) (first now : FileState) : Type 0 where
  pub there : first.is_there ≡ true
  pub long : length first.octets ≡ end
  pub low : first.least ≤ end
  pub high : end ≤ first.greatest
  pub first_octets : All (λ octet. octet < 256) first.octets
  pub still_there : now.is_there ≡ first.is_there
  pub still_named : now.is_name_loose ≡ first.is_name_loose
  pub least : now.least ≡ first.least
  pub greatest : length now.octets ≤ now.greatest
  pub reads : now.octets ≡ first.octets ++ octets
  pub firm : (i : ℕ) → i < end → first.is_loose i ≡ false → now.is_loose i ≡ false
  pub octets_fit : All (λ octet. octet < 256) now.octets

-- Octets were added at the end of a file in some writes: no other file has changed.
pub record AreAddedOn (name : FileName) (end : ℕ) (octets : List ℕ) (first now : Option History) : Type 0 where
  pub images : KeepsFront name end first now
  pub others : SameButFor name first now
  pub added : Between (λ a b. IsAddedOn end octets (a name) (b name)) first now
