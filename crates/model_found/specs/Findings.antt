-- What is found in storage files: the messages of each file, up to the first place where none stands.
use Rattle.std.specs.Prelude.{◌≡◌, ◌<◌, ℕ, List, [], ◌∷◌, ◌++◌, length, map, Some, All, AllPairs, Contains, Result, Ok, Err}
use Rattle.disk_model.specs.Disk.{Files}
use Rattle.disk_model.specs.declared.name.FileName.TheVariants as file
use Rattle.mdbox_base.specs.Words.{IsNumber}
use Rattle.model_storage.specs.declared.places.MessageAt.{MessageAt}
use Rattle.model_storage.specs.declared.places.ScanError.{ScanError}
use Rattle.model_storage.specs.declared.places.ScanError.TheVariants as scan
use Rattle.model_storage.specs.Grammars.{IsFrontOf}
use Rattle.model_storage.specs.StorageFile.{Message, IsMessage, IsFile, IsRefused, StopsAt, place_at, message_places_from}
use Rattle.model_found.specs.declared.reason.Reason.{Reason}
use Rattle.model_found.specs.declared.reason.Reason.TheVariants as reason

-- ---- the storage files

-- a storage file: its number and its octets
pub record NumberedFile : Type 0 where
  pub number : ℕ
  pub octets : List ℕ

-- a storage file of this number is there, with these octets
abbrev pub IsThereAs : Files → NumberedFile → Type 0
IsThereAs files f = IsNumber f.number × (files (file.Mail f.number) ≡ Some f.octets)

-- These are all storage files that are there, in order of number.
pub record AreStorageFiles (files : Files) (storage : List NumberedFile) : Type 0 where
  pub rising : AllPairs (λ a b. a.number < b.number) storage
  pub there : All (IsThereAs files) storage
  pub every : (f : NumberedFile) → IsThereAs files f → Contains storage f

-- ---- one file

-- What is found at a place: a message, or, from this offset on, nothing that can be read, for this reason.
pub data Finding : Type 0 where
  Stored : (place : MessageAt) → (message : Message) → Finding
  Unread : (offset : ℕ) → (why : Reason) → Finding

-- messages, one directly after another from this offset on
abbrev pub stored_from : ℕ → List Message → List Finding
stored_from offset [] = []
stored_from offset (m ∷ rest) = Stored (place_at offset m) m ∷ stored_from (place_at offset m).end rest

-- A scan stops at this offset, for this reason. The messages before it are found; nothing after it is read.
pub record IsFoundUpTo (octets : List ℕ) (offset : ℕ) (why : Reason) (findings : List Finding) : Type 0 where
  pub rest : List ℕ
  pub stops : StopsAt octets offset rest
  pub are : findings ≡ stored_from (length stops.header) stops.messages ++ Unread offset why ∷ []

-- What is found in a file of which a scan gives this answer (`ScanGives`): all its messages, or those before the place that
-- refuses it. Of a file whose header line is bad nothing is read, so the place is its beginning.
abbrev pub HasFindingsBy : List ℕ → Result (List MessageAt) ScanError → List Finding → Type 0
HasFindingsBy octets (Ok places) findings =
    (header : List ℕ) × (messages : List Message) × IsFile octets header messages × (places ≡ message_places_from (length header) messages) × (findings ≡ stored_from (length header) messages)
HasFindingsBy octets (Err scan.BadHeader) findings = IsRefused octets scan.BadHeader × (findings ≡ Unread 0 reason.BadHeader ∷ [])
HasFindingsBy octets (Err (scan.HeaderSize size)) findings = IsRefused octets (scan.HeaderSize size) × (findings ≡ Unread 0 reason.HeaderSize ∷ [])
HasFindingsBy octets (Err (scan.Truncated offset)) findings = (f : IsFoundUpTo octets offset reason.Truncated findings) × IsFrontOf IsMessage f.rest
HasFindingsBy octets (Err (scan.BadMessage offset)) findings = (f : IsFoundUpTo octets offset reason.BadMessage findings) × ¬ IsFrontOf IsMessage f.rest
HasFindingsBy octets (Err scan.NoMemory) findings = ⊥

-- What is found in a storage file with these octets.
pub record HasFindings (octets : List ℕ) (findings : List Finding) : Type 0 where
  pub answer : Result (List MessageAt) ScanError
  pub by : HasFindingsBy octets answer findings

-- ---- all files

-- what is found, and the number of its file
pub record FileFinding : Type 0 where
  pub number : ℕ
  pub finding : Finding

abbrev pub findings_of : ℕ → List Finding → List FileFinding
findings_of number findings = map (λ finding. record { number = number; finding = finding }) findings

-- What is found in these storage files: file by file in their order, and within each in order of offset.
abbrev pub HaveFindings : List NumberedFile → List FileFinding → Type 0
HaveFindings [] found = found ≡ []
HaveFindings (f ∷ rest) found =
    (first : List Finding) × (later : List FileFinding) × HasFindings f.octets first × HaveFindings rest later × (found ≡ findings_of f.number first ++ later)
