-- What is found in storage files, as the places at which it stands.
use Rattle.std.specs.Prelude.{◌≡◌, ℕ, List, [], ◌∷◌, ◌++◌, map, Some}
use Rattle.disk_model.specs.Disk.{DiskState, reading}
use Rattle.disk_model.specs.declared.name.FileName.TheVariants as file
use Rattle.model_found.specs.Findings.{NumberedFile, AreStorageFiles, Finding, Stored, Unread, HasFindings, FileFinding, HaveFindings}
use Rattle.model_found.specs.declared.reason.Reason.TheVariants as reason
use Rattle.model_storage.specs.declared.places.ScanError.{ScanError}
use Rattle.model_storage.specs.declared.places.ScanError.TheVariants as scan
use Rattle.model_store.specs.Settled.{files_of}
use Rattle.rebuild_files.specs.declared.found.FoundAt.{FoundAt}
use Rattle.rebuild_files.specs.declared.found.FoundPlace.{FoundPlace}
use Rattle.rebuild_files.specs.declared.found.FoundPlace.TheVariants as place

-- the place of a finding: of a message without its octets
abbrev pub place_found : Finding → FoundPlace
place_found (Stored at message) = place.Message at
place_found (Unread offset why) = place.Unread offset why

abbrev pub found_at : ℕ → Finding → FoundAt
found_at number finding = record { file = record { 0 = number }; place = place_found finding }

abbrev pub place_in_file : FileFinding → FoundAt
place_in_file f = found_at f.number f.finding

-- These are the places of all that is found in the storage files of the disk, in order.
abbrev pub AreAllFindings : List FoundAt → DiskState → Type 0
AreAllFindings places disk =
    (storage : List NumberedFile) × (found : List FileFinding) × AreStorageFiles (files_of disk) storage × HaveFindings storage found × (places ≡ map place_in_file found)

-- What is found in a storage file of these octets was added.
abbrev pub AddsFindings : ℕ → List ℕ → List FoundAt → List FoundAt → Type 0
AddsFindings number octets old new = (findings : List Finding) × HasFindings octets findings × (new ≡ old ++ map (found_at number) findings)

-- the same of the file as the disk reads it
abbrev pub AddsFindingsOn : ℕ → List FoundAt → List FoundAt → DiskState → Type 0
AddsFindingsOn number old new disk = (octets : List ℕ) → reading (disk (file.Mail number)) ≡ Some octets → AddsFindings number octets old new

-- the place from which on nothing can be read of a file that a scan refuses for this
abbrev pub IsScanStop : ScanError → FoundPlace → Type 0
IsScanStop scan.BadHeader at = at ≡ place.Unread 0 reason.BadHeader
IsScanStop (scan.HeaderSize size) at = at ≡ place.Unread 0 reason.HeaderSize
IsScanStop (scan.Truncated offset) at = at ≡ place.Unread offset reason.Truncated
IsScanStop (scan.BadMessage offset) at = at ≡ place.Unread offset reason.BadMessage
IsScanStop scan.NoMemory at = ⊥

abbrev pub AddsUnread : ℕ → ScanError → List FoundAt → List FoundAt → Type 0
AddsUnread number error old new = (at : FoundPlace) × IsScanStop error at × (new ≡ old ++ record { file = record { 0 = number }; place = at } ∷ [])
