-- What the calls of a sweep leave of a store.
use Rattle.std.specs.Prelude.{◌≡◌, ◌⊎◌, ℕ, Bool, true, false, List, length, take, Option}
use Rattle.mdbox_base.specs.Streams.{Rose}
use Rattle.disk_model.specs.Disk.{Files, FileState, DiskState, History, Faults, Between, IfTold, IsTold, IsThere, IsIdle, EachImage, Keeps, reading}
use Rattle.disk_model.specs.declared.name.FileName.{FileName}
use Rattle.disk_model.specs.declared.name.FileName.TheVariants as file
use Rattle.model_meaning.specs.MapMeaning.{MapMeaning, is_sealed}
use Rattle.model_store.specs.Carrying.{CarryOver}
use Rattle.store_sweep.specs.Held.{IsHeldStore, IsReadStore}
use Rattle.store_files.specs.Regions.{end_of}
use Rattle.store_sweep.specs.Wanted.{is_wanted}

-- No change failed: where a fault was answered, the count of failed changes has not risen. At its type's end that count tells
-- nothing.
abbrev pub NoFailedChange : Type 0 → Faults → Faults → Type 0
NoFailedChange fault old new = fault → Rose old.changes new.changes → ⊥

-- where this holds of a disk at the beginning, nothing has changed
abbrev pub IdleIf : (DiskState → Type 0) → Option History → Option History → Type 0
IdleIf P old new = IfTold old (λ now. P now → IsIdle old new)

-- Where the disk holds the store, each image of each moment carries over what was found.
abbrev pub ImagesCarry : ℕ → MapMeaning → Option History → Option History → Type 0
ImagesCarry generation m old new = (found : Files) → IfTold old (IsHeldStore generation m found) → EachImage (λ _ image. CarryOver generation m found image) old new

-- What the disk holds and what it reads of the store, it still does, and it goes on to tell it.
pub record KeepsStore (generation : ℕ) (m : MapMeaning) (old new : Option History) : Type 0 where
  pub holds : (found : Files) → IfTold old (IsHeldStore generation m found) → IfTold new (IsHeldStore generation m found)
  pub reads : (found : Files) → IfTold old (IsReadStore generation m found) → IfTold new (IsReadStore generation m found)
  pub told : IsTold old → IsTold new

-- each file whose name passes the test is as it was
abbrev pub SameWhere : (FileName → Bool) → Option History → Option History → Type 0
SameWhere test = Between (λ old new. (name : FileName) → test name ≡ true → new name ≡ old name)

-- each file is there if it was, and only then
abbrev pub SameThere : Option History → Option History → Type 0
SameThere = Between (λ old new. (name : FileName) → (new name).is_there ≡ (old name).is_there)

-- each file that the store needs, or that is sealed, is there if it was
abbrev pub KeepsWanted : ℕ → MapMeaning → Option History → Option History → Type 0
KeepsWanted generation m = Between (λ old new. (name : FileName) → is_wanted generation m name ≡ true → IsThere (old name) → IsThere (new name))

-- the file reads as before, and a crash leaves it as it reads where it did
abbrev pub LogStays : FileName → Option History → Option History → Type 0
LogStays name = Between (λ old new. (reading (new name) ≡ reading (old name)) × ((octets : List ℕ) → Keeps (old name) octets → Keeps (new name) octets))

-- the same octets, and the same ones of them may be lost
pub record SameContent (f g : FileState) : Type 0 where
  pub octets : g.octets ≡ f.octets
  pub least : g.least ≡ f.least
  pub greatest : g.greatest ≡ f.greatest
  pub firm : (place : ℕ) → g.is_loose place ≡ f.is_loose place

-- a crash leaves the file's octets as they read
pub record IsFirm (f : FileState) : Type 0 where
  pub least : f.least ≡ length f.octets
  pub greatest : f.greatest ≡ length f.octets
  pub firm : (place : ℕ) → f.is_loose place ≡ false

-- a storage file that isn't sealed was cut to where its last region ends, and synced
pub record IsCutToRegions (m : MapMeaning) (number : ℕ) (f g : FileState) : Type 0 where
  pub unsealed : is_sealed m number ≡ false
  pub octets : g.octets ≡ take (end_of m number) f.octets
  pub synced : IsFirm g

-- A storage file, before a sweep and after it: it was there, its name is loose only if it was, and it has the content that it
-- had, or was cut.
pub record IsFitted (m : MapMeaning) (number : ℕ) (f g : FileState) : Type 0 where
  pub was : IsThere f
  pub name : g.is_name_loose ≡ true → f.is_name_loose ≡ true
  pub content : SameContent f g ⊎ IsCutToRegions m number f g

-- each storage file that is there is so
abbrev pub AreFitted : MapMeaning → Option History → Option History → Type 0
AreFitted m = Between (λ old new. (number : ℕ) → IsThere (new (file.Mail number)) → IsFitted m number (old (file.Mail number)) (new (file.Mail number)))

-- where a file was there that the store doesn't need, each name is synced
abbrev pub NamesSynced : ℕ → MapMeaning → Option History → Option History → Type 0
NamesSynced generation m = Between (λ old new. (stray : FileName) → IsThere (old stray) → is_wanted generation m stray ≡ false → (name : FileName) → (new name).is_name_loose ≡ false)
