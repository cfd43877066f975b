-- What stays of a store's storage files and instances while it is opened and used, whatever fails and whenever a crash comes.
-- It is measured by a disk, and says nothing of what the files must have: so it holds of a damaged store too.
use Rattle.std.specs.Prelude.{◌≡◌, ◌+◌, ℕ, true, List, take, All, Contains, Option, Some, None, ⊤}
use Rattle.disk_model.specs.Disk.{Files, FileState, History, IfTold, EachImage, MayHold, MayLeave}
use Rattle.disk_model.specs.declared.name.FileName.{FileName}
use Rattle.disk_model.specs.declared.name.FileName.TheVariants as file
use Rattle.model_meaning.specs.MapMeaning.{MapMeaning, MapRecord, is_sealed}

-- This is what a crash could leave of the file, as far as this end. No file is only if a crash could leave none.
abbrev pub StaysTo : ℕ → FileState → Option (List ℕ) → Type 0
StaysTo end f None = MayLeave f None
StaysTo end f (Some octets) = (left : List ℕ) × MayHold f left × (take end octets ≡ take end left)

-- This is what a crash could leave of a storage file: all of it if the file is sealed, else as far as the end of each region.
pub record IsKeptFile (m : MapMeaning) (number : ℕ) (f : FileState) (octets : Option (List ℕ)) : Type 0 where
  pub sealed : is_sealed m number ≡ true → MayLeave f octets
  pub regions : All (λ row. row.file ≡ number → StaysTo (row.offset + row.size) f octets) m.records

-- This is what a crash could leave of an instance that a record names.
abbrev pub IsKeptInstance : MapMeaning → List ℕ → List ℕ → FileState → Option (List ℕ) → Type 0
IsKeptInstance m hash id f octets = All (λ row. All (λ inst. inst.hash.0 ≡ hash → inst.id.0 ≡ id → MayLeave f octets) row.instances) m.records

-- The same of a file of any name. Of a log nothing is said.
abbrev pub StaysAt : MapMeaning → FileName → FileState → Option (List ℕ) → Type 0
StaysAt m file.Root f octets = ⊤
StaysAt m (file.Map generation) f octets = ⊤
StaysAt m (file.Box number generation) f octets = ⊤
StaysAt m (file.Mail number) f octets = IsKeptFile m number f octets
StaysAt m (file.Inst hash id) f octets = IsKeptInstance m hash id f octets

-- An image has of each file what stays of it.
abbrev pub MailStays : MapMeaning → Option History → Files → Type 0
MailStays m old image = IfTold old (λ disk. (name : FileName) → StaysAt m name (disk name) (image name))

-- Each image of each moment from the one history's present to the other's has it.
abbrev pub MailIsKept : MapMeaning → Option History → Option History → Type 0
MailIsKept m old new = EachImage (λ _ image. MailStays m old image) old new

-- The store needs nothing of a file of this name: it is no log, and neither sealed, nor of a record's region, nor an instance
-- that a record names.
abbrev pub IsUnknownTo : MapMeaning → FileName → Type 0
IsUnknownTo m name = (f : FileState) (octets : Option (List ℕ)) → StaysAt m name f octets

-- a record of the map has this one's region and instances
pub record IsPlacedIn (m : MapMeaning) (row : MapRecord) : Type 0 where
  pub now : MapRecord
  pub there : Contains m.records now
  pub file : now.file ≡ row.file
  pub offset : now.offset ≡ row.offset
  pub size : now.size ≡ row.size
  pub instances : now.instances ≡ row.instances

-- The one map needs all that the other needs: what that has sealed is sealed, and a record has the region and the instances of
-- each of its records.
pub record NeedsAllOf (more less : MapMeaning) : Type 0 where
  pub sealed : (number : ℕ) → is_sealed less number ≡ true → is_sealed more number ≡ true
  pub records : All (IsPlacedIn more) less.records
