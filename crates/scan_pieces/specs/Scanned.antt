-- What a scan in pieces answers of a storage file.
use Rattle.std.specs.Prelude.{◌≡◌, ℕ, List, codes, Some, ⊤, Result, Ok, Err}
use Rattle.disk_model.specs.Disk.{DiskState, reading}
use Rattle.disk_model.specs.declared.name.FileName.TheVariants as file
use Rattle.model_storage.specs.declared.places.MessageAt.{MessageAt}
use Rattle.model_storage.specs.declared.places.ScanError.{ScanError}
use Rattle.model_storage.specs.declared.places.ScanError.TheVariants as scan
use Rattle.model_storage.specs.StorageFile.{HasPlaces, IsRefused}
use Rattle.scan_pieces.specs.declared.error.PiecesError.{PiecesError}
use Rattle.scan_pieces.specs.declared.error.PiecesError.TheVariants as pieces

-- why octets are refused; memory may be lacking
abbrev pub IsRefusedFor : List ℕ → ScanError → Type 0
IsRefusedFor octets scan.BadHeader = IsRefused octets scan.BadHeader
IsRefusedFor octets (scan.HeaderSize size) = IsRefused octets (scan.HeaderSize size)
IsRefusedFor octets (scan.Truncated offset) = IsRefused octets (scan.Truncated offset)
IsRefusedFor octets (scan.BadMessage offset) = IsRefused octets (scan.BadMessage offset)
IsRefusedFor octets scan.NoMemory = ⊤

-- The places of the messages, or the cause of refusal, as a scan of all octets gives them; or a fault.
abbrev pub ScansTo : List ℕ → Result (List MessageAt) PiecesError → Type 0
ScansTo octets (Ok places) = HasPlaces octets places
ScansTo octets (Err (pieces.Refused error)) = IsRefusedFor octets error
ScansTo octets (Err pieces.Fault) = ⊤

-- the same of the file that the disk reads
abbrev pub ScansOn : ℕ → Result (List MessageAt) PiecesError → DiskState → Type 0
ScansOn number answer disk = (octets : List ℕ) → reading (disk (file.Mail number)) ≡ Some octets → ScansTo octets answer

abbrev pub pieces_error_text : PiecesError → List ℕ
pieces_error_text (pieces.Refused scan.BadHeader) = codes "no storage file"
pieces_error_text (pieces.Refused (scan.HeaderSize size)) = codes "no storage file"
pieces_error_text (pieces.Refused (scan.Truncated offset)) = codes "no storage file"
pieces_error_text (pieces.Refused (scan.BadMessage offset)) = codes "no storage file"
pieces_error_text (pieces.Refused scan.NoMemory) = codes "out of memory"
pieces_error_text pieces.Fault = codes "disk fault"
