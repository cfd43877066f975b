-- What is read of a log.
use Rattle.std.specs.Prelude.{◌≡◌, ◌<◌, ◌≤◌, ℕ, List, length, take, Option, Some, None, IfSome, ⊤}
use Rattle.disk_model.specs.Disk.{History, IfTold, reading}
use Rattle.disk_model.specs.declared.name.FileName.{FileName}
use Rattle.model_logs.specs.declared.log_head.LogHead.{LogHead}
use Rattle.model_logs.specs.LogFile.{IsLog, IsDamagedAt, record_places, log_end}
use Rattle.gate_log.specs.declared.read.LogRead.{LogRead}
use Rattle.gate_log.specs.declared.error.LogError.{LogError}
use Rattle.gate_log.specs.declared.error.LogError.TheVariants.{NoLog, LogDamaged, DiskFault, NoMemory}

-- The octets are a log with this head and these entries, whose records and last gate stand at these places.
pub record IsReading (octets : List ℕ) (read : LogRead) : Type 0 where
  pub log : IsLog octets read.head read.entries
  pub places : read.places ≡ record_places read.entries
  pub end : read.end ≡ log_end read.entries

-- Why octets were not read as a log, this one where a head is asked for: they are damaged at that place, or there was
-- no memory.
abbrev pub IsReadError : Option LogHead → List ℕ → LogError → Type 0
IsReadError asked octets (LogDamaged place) = IsDamagedAt asked octets place
IsReadError asked octets NoMemory = ⊤
IsReadError asked octets NoLog = ⊥
IsReadError asked octets DiskFault = ⊥

-- Why octets are no log, this one where a head is asked for: they are damaged at that place.
abbrev pub IsDamage : Option LogHead → List ℕ → LogError → Type 0
IsDamage asked octets (LogDamaged place) = IsDamagedAt asked octets place
IsDamage asked octets NoMemory = ⊥
IsDamage asked octets NoLog = ⊥
IsDamage asked octets DiskFault = ⊥

-- Why a file was not read: there is none of that name, the device failed, or there was no memory.
abbrev pub IsFileError : FileName → Option History → LogError → Type 0
IsFileError name old NoLog = IfTold old (λ disk. reading (disk name) ≡ None)
IsFileError name old DiskFault = ⊤
IsFileError name old NoMemory = ⊤
IsFileError name old (LogDamaged place) = ⊥

-- Why a log was not opened: there is no file of that name, or its octets are damaged at that place, or the device failed,
-- or there was no memory.
abbrev pub IsOpenError : FileName → LogHead → Option History → LogError → Type 0
IsOpenError name head old NoLog = IfTold old (λ disk. reading (disk name) ≡ None)
IsOpenError name head old (LogDamaged place) = (octets : List ℕ) × IsDamagedAt (Some head) octets place × IfTold old (λ disk. reading (disk name) ≡ Some octets)
IsOpenError name head old DiskFault = ⊤
IsOpenError name head old NoMemory = ⊤

-- The first 27 octets of a file, which are a log's head, its first gate and one octet more. None where it has fewer, or where
-- there is no file.
abbrev pub IsPeekedFront : Option (List ℕ) → Option (List ℕ) → Type 0
IsPeekedFront file None = IfSome file (λ octets. length octets < 27)
IsPeekedFront file (Some front) = (octets : List ℕ) × (file ≡ Some octets) × (27 ≤ length octets) × (front ≡ take 27 octets)
