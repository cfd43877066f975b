-- Logs on a disk.
use Rattle.std.specs.Prelude.{◌≡◌, ◌≢◌, ◌⊎◌, ◌<◌, ◌≤◌, ℕ, false, List, [], ◌∷◌, ◌++◌, length, take, drop, max, All, Option, Some, None, IfSome}
use Rattle.disk_model.specs.Disk.{FileState, DiskState, History, IfTold, Keeps, named, reading}
use Rattle.disk_model.specs.declared.name.FileName.{FileName}
use Rattle.model_logs.specs.declared.log_head.LogHead.{LogHead}
use Rattle.model_logs.specs.LogFile.{HeadFits, EntryFits, log_front, EndsLog, IsLogFile}
use Rattle.gate_log.specs.State.{LogState, InspectedLog}

-- the octets of a log at rest: its head, its entries, and a closed gate
abbrev pub log_text : LogHead → List (List ℕ) → List ℕ
log_text head entries = log_front head entries ++ 0 ∷ []

-- the log's file reads these entries and a closed gate, where the log has it
pub record IsLogRead (log : LogState) (entries : List (List ℕ)) (disk : DiskState) : Type 0 where
  pub file : reading (disk log.name) ≡ Some (log_text log.head entries)
  pub end : log.end ≡ length (log_front log.head entries)
  pub count : log.count ≡ length entries
  pub head_fits : HeadFits log.head
  pub entries_fit : All EntryFits entries

-- the disk reads this log, with these entries
abbrev pub Reads : LogState → List (List ℕ) → Option History → Type 0
Reads log entries history = IfTold history (IsLogRead log entries)

-- the same, and a crash leaves the file so
pub record IsLogHeld (log : LogState) (entries : List (List ℕ)) (disk : DiskState) : Type 0 where
  pub reads : IsLogRead log entries disk
  pub keeps : Keeps (disk log.name) (log_text log.head entries)

-- the disk holds this log, with these entries
abbrev pub Holds : LogState → List (List ℕ) → Option History → Type 0
Holds log entries history = IfTold history (IsLogHeld log entries)

-- the file is a log with these entries, or with one more
abbrev pub IsLogWithOrWithout : LogHead → List (List ℕ) → List ℕ → Option (List ℕ) → Type 0
IsLogWithOrWithout head entries entry octets = IsLogFile octets head entries ⊎ IsLogFile octets head (entries ++ entry ∷ [])

-- The disk reads a log that nothing needs yet, with these entries: its name is synced, and what stands there is octets.
-- They need not be synced.
pub record IsLogDrafted (log : LogState) (entries : List (List ℕ)) (disk : DiskState) : Type 0 where
  pub reads : IsLogRead log entries disk
  pub named : (disk log.name).is_name_loose ≡ false
  pub are_octets : All (λ octet. octet < 256) (log_text log.head entries)

-- the disk reads this draft of a log, with these entries
abbrev pub Drafts : LogState → List (List ℕ) → Option History → Type 0
Drafts log entries history = IfTold history (IsLogDrafted log entries)

-- octets, cut one after another into pieces of these lengths
abbrev pub cut_by : List ℕ → List ℕ → List (List ℕ)
cut_by [] octets = []
cut_by (size ∷ lengths) octets = take size octets ∷ cut_by lengths (drop size octets)

-- the file is a log with these entries, or with all of these more
abbrev pub IsLogWithOrWithoutAll : LogHead → List (List ℕ) → List (List ℕ) → Option (List ℕ) → Type 0
IsLogWithOrWithoutAll head entries more octets = IsLogFile octets head entries ⊎ IsLogFile octets head (entries ++ more)

-- Octets of a file that is made anew: no more than it could have before, or than are written.
abbrev pub IsAtMostAsLong : ℕ → FileState → Option (List ℕ) → Type 0
IsAtMostAsLong written f octets = IfSome octets (λ o. length o ≤ max f.greatest written)

-- both told, and each other file as it was, with its name synced
abbrev pub NamedButFor : FileName → Option History → Option History → Type 0
NamedButFor name None new = new ≡ None
NamedButFor name (Some old) None = ⊥
NamedButFor name (Some old) (Some new) = (other : FileName) → other ≢ name → new.now other ≡ named (old.now other)

-- the file reads these octets in two parts, the first of this length
pub record ReadsParts (size : ℕ) (front rest : List ℕ) (f : FileState) : Type 0 where
  pub reads : reading f ≡ Some (front ++ rest)
  pub size_is : size ≡ length front

-- and a crash leaves it so
pub record KeepsParts (size : ℕ) (front rest : List ℕ) (f : FileState) : Type 0 where
  pub keeps : Keeps f (front ++ rest)
  pub size_is : size ≡ length front

-- an image has a file that begins so
abbrev pub BeginsWith : List ℕ → Option (List ℕ) → Type 0
BeginsWith front octets = (left : List ℕ) × (octets ≡ Some (front ++ left))

-- an image has a file with some octet between these
abbrev pub IsOneBetween : List ℕ → List ℕ → Option (List ℕ) → Type 0
IsOneBetween front rest octets = (octet : ℕ) × (octets ≡ Some (front ++ octet ∷ rest))

-- the file reads a log of this head and these entries, whose last gate stands there with this behind it
pub record IsStanding (name : FileName) (head : LogHead) (entries : List (List ℕ)) (end gate : ℕ) (behind : List ℕ) (disk : DiskState) : Type 0 where
  pub reads : reading (disk name) ≡ Some (log_front head entries ++ gate ∷ behind)
  pub end_is : end ≡ length (log_front head entries)
  pub head_fits : HeadFits head
  pub entries_fit : All EntryFits entries
  pub ends : EndsLog gate behind

-- and a crash leaves it so
pub record IsDurable (name : FileName) (head : LogHead) (entries : List (List ℕ)) (end gate : ℕ) (behind : List ℕ) (disk : DiskState) : Type 0 where
  pub stands : IsStanding name head entries end gate behind disk
  pub keeps : Keeps (disk name) (log_front head entries ++ gate ∷ behind)

-- the file stands as it was found, with these entries
pub record IsFound (found : InspectedLog) (entries : List (List ℕ)) (disk : DiskState) : Type 0 where
  pub count : found.count ≡ length entries
  pub rest : List ℕ
  pub behind : found.behind ≡ length rest
  pub stands : IsStanding found.name found.head entries found.end found.gate rest disk

-- and a crash leaves it so
pub record IsFoundKept (found : InspectedLog) (entries : List (List ℕ)) (disk : DiskState) : Type 0 where
  pub count : found.count ≡ length entries
  pub rest : List ℕ
  pub behind : found.behind ≡ length rest
  pub kept : IsDurable found.name found.head entries found.end found.gate rest disk
