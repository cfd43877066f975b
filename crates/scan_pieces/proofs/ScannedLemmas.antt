-- A file that is scanned message by message, on a disk.
use Rattle.std.specs.Prelude.{◌≡◌, ◌≤◌, ◌<◌, ℕ, List, [], ◌∷◌, ◌++◌, length, Option, Some, None, Ok, Err}
use Rattle.std.proofs.Common.{sym, subst, arith}
use Rattle.dbox_file.proofs.ScanLemmas.{IsScanned, scanned_all, scanned_header, scanned_message, scanned_refused}
use Rattle.disk_model.specs.Disk.{DiskState, History, IfTold, reading}
use Rattle.disk_model.specs.declared.name.FileName.TheVariants as file
use Rattle.model_storage.specs.declared.places.MessageAt.{MessageAt}
use Rattle.model_storage.specs.declared.places.PlaceError.{PlaceError}
use Rattle.model_storage.specs.declared.places.PlaceError.TheVariants as at
use Rattle.model_storage.specs.Places.{refusal_of}
use Rattle.model_storage.specs.StorageFile.{IsRefused}
use Rattle.scan_pieces.specs.Scanned.{IsRefusedFor, ScansOn}
use Rattle.scan_pieces.specs.WindowValue.{WindowValue, GivesOn, HeaderOn, IsWindowOn}
use Rattle.scan_pieces.specs.declared.error.PiecesError.TheVariants as pieces

-- the file that the disk reads is scanned up to this offset, with these places
abbrev pub IsScannedOn : ℕ → ℕ → List MessageAt → DiskState → Type 0
IsScannedOn number offset places disk = (octets : List ℕ) → reading (disk (file.Mail number)) ≡ Some octets → IsScanned octets offset places

pub scanned_begins : (h : Option History) (number n : ℕ) (places : List MessageAt) → places ≡ [] → IfTold h (HeaderOn number (Ok n)) → IfTold h (IsScannedOn number n places)
scanned_begins None number n places e header = tt
scanned_begins (Some h) number n places e header = λ octets there. scanned_header octets n places e (header octets there)

pub scanned_more : (h : Option History) (number offset : ℕ) (place : MessageAt) (old new : List MessageAt) → IfTold h (IsScannedOn number offset old) → IfTold h (GivesOn number offset (Ok place)) → new ≡ old ++ place ∷ [] → IfTold h (IsScannedOn number place.end new)
scanned_more None number offset place old new s gives e = tt
scanned_more (Some h) number offset place old new s gives e = λ octets there. scanned_message octets offset place old new (s octets there) (gives octets there) e

-- the size of the file that the window is over
size_of : (w : WindowValue) (disk : DiskState) (number : ℕ) (octets : List ℕ) → IsWindowOn w disk → w.number ≡ number → reading (disk (file.Mail number)) ≡ Some octets → w.size ≡ length octets
size_of w disk number octets is e there = (is octets (subst (λ (n : ℕ). reading (disk (file.Mail n)) ≡ Some octets) (sym e) there)).size

pub scanned_ends : (h : Option History) (w : WindowValue) (number offset : ℕ) (places : List MessageAt) → IfTold h (IsScannedOn number offset places) → IfTold h (IsWindowOn w) → w.number ≡ number → w.size ≤ offset → IfTold h (ScansOn number (Ok places))
scanned_ends None w number offset places s is e last = tt
scanned_ends (Some h) w number offset places s is e last = λ octets there.
    let size = size_of w h.now number octets is e there in
    scanned_all octets offset places (s octets there) (omega (arith, size, last))

refused_for : (octets : List ℕ) (e : PlaceError) → IsRefused octets (refusal_of e) → IsRefusedFor octets (refusal_of e)
refused_for octets (at.Truncated n) r = r
refused_for octets (at.BadMessage n) r = r

pub scanned_stops : (h : Option History) (w : WindowValue) (number offset : ℕ) (places : List MessageAt) (e : PlaceError) → IfTold h (IsScannedOn number offset places) → IfTold h (IsWindowOn w) → w.number ≡ number → offset < w.size → IfTold h (GivesOn number offset (Err e))
    → IfTold h (ScansOn number (Err (pieces.Refused (refusal_of e))))
scanned_stops None w number offset places e s is same more gives = tt
scanned_stops (Some h) w number offset places e s is same more gives = λ octets there.
    let size = size_of w h.now number octets is same there in
    refused_for octets e (scanned_refused octets offset places e (s octets there) (omega (arith, size, more)) (gives octets there))
