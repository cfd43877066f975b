-- What a store keeps of its storage files, and what is placed in them.
use Rattle.std.specs.Prelude.{◌≡◌, ◌≤◌, ◌+◌, ◌==◌, ◌⊎◌, ℕ, List, ◌++◌, length, true, false, Some, None, All}
use Rattle.std.specs.List.{list_any}
use Rattle.disk_model.specs.Disk.{FileState, DiskState, IsThere, MayLeave, reading}
use Rattle.disk_model.specs.declared.name.FileName.TheVariants as file
use Rattle.mdbox_base.specs.declared.entries.Highest.{Highest}
use Rattle.model_meaning.specs.MapMeaning.{MapRecord, MapMeaning, is_own, number_at, is_sealed}
use Rattle.storage_files.specs.declared.file.MailFile.{MailFile}
use Rattle.storage_files.specs.Files.{FilesValue, file_in, is_doomed_in}

-- ---- what holds of every store

-- messages may be added to the file
pub record MayGrow (f : MailFile) : Type 0 where
  pub unsealed : f.sealed ≡ false
  pub unbarred : f.barred ≡ false
  pub undoomed : f.doomed ≡ false

-- Where messages may be added to the file with this number, it is there, and ends at this place or behind it.
abbrev pub EndsBehind : ℕ → ℕ → List MailFile → Type 0
EndsBehind number place files = (f : MailFile) → file_in number files ≡ Some f → MayGrow f → (end : ℕ) × (f.end ≡ Some end) × (place ≤ end)

-- In a file to which messages may be added, a record's region lies below the end, and so does the offset in its GUID, where
-- this store gave that: the file number and the offset where the message was first stored stand behind the store's id. No
-- record has its region in a doomed file.
pub record LiesBelowEnd (store : List ℕ) (files : List MailFile) (row : MapRecord) : Type 0 where
  pub region : EndsBehind row.file (row.offset + row.size) files
  pub guid : is_own store row.guid ≡ true → EndsBehind (number_at 8 row.guid) (number_at 12 row.guid + 1) files
  pub undoomed : is_doomed_in row.file files ≡ false

-- A file that is pinned has the region of a record, or is doomed. So a file in which no record has its region and that nobody has
-- doomed has no pin.
abbrev pub ArePinsOfRecords : List MailFile → List MapRecord → Type 0
ArePinsOfRecords files rows = (number : ℕ) (f : MailFile) → file_in number files ≡ Some f → 1 ≤ f.pins → (f.doomed ≡ true) ⊎ (list_any (λ row. row.file == number) rows ≡ true)

-- What the store knows of its storage files: the greatest number is the one that was drawn, the least is at least 1, somebody
-- who has taken a file may add to it, those files are sealed that the map has sealed, a pinned file has a region or is doomed, and all
-- that records name lies below the ends. So what is added overlaps no region, and its GUID is new.
pub record AreFilesKept (files : FilesValue) (drawn : Highest) (m : MapMeaning) : Type 0 where
  pub highest : files.highest ≡ drawn.file
  pub numbered : (number : ℕ) (f : MailFile) → file_in number files.files ≡ Some f → 1 ≤ number
  pub taken : (number : ℕ) (f : MailFile) → file_in number files.files ≡ Some f → f.taken ≡ true → MayGrow f
  pub sealed : (number : ℕ) (f : MailFile) → file_in number files.files ≡ Some f → f.sealed ≡ is_sealed m number
  pub pinned : ArePinsOfRecords files.files m.records
  pub below : All (LiesBelowEnd m.store files.files) m.records

-- A file to which messages may be added has a region, or no crash takes it away. On a settled disk none takes away one that
-- has a region.
abbrev pub StayThere : List MailFile → List MapRecord → DiskState → Type 0
StayThere files rows disk = (number : ℕ) (f : MailFile) → file_in number files ≡ Some f → MayGrow f → IsThere (disk (file.Mail number))
    → (list_any (λ row. row.file == number) rows ≡ true) ⊎ (MayLeave (disk (file.Mail number)) None → ⊥)

-- ---- what is placed

-- no record has the GUID that is given to a message which is first stored at this place
abbrev pub IsNewPlace : MapMeaning → ℕ → ℕ → Type 0
IsNewPlace m number offset = All (λ row. is_own m.store row.guid ≡ true → number_at 8 row.guid ≡ number → number_at 12 row.guid ≡ offset → ⊥) m.records

-- the file ends with these octets, which begin at this offset
pub record EndsWith (offset : ℕ) (octets : List ℕ) (f : FileState) : Type 0 where
  pub before : List ℕ
  pub long : length before ≡ offset
  pub reads : reading f ≡ Some (before ++ octets)
