-- What a log that was read says, and why one was not read.
use Rattle.std.specs.Prelude.{◌≡◌, ◌+◌, ℕ, List, ◌∷◌, ◌++◌, Option, Some, None, ◌⊎◌, ⊤}
use Rattle.disk_model.specs.Disk.{History, IfTold, reading}
use Rattle.disk_model.specs.declared.name.FileName.{FileName}
use Rattle.model_logs.specs.declared.log_head.LogHead.{LogHead}
use Rattle.model_logs.specs.LogFile.{log_end, IsLog, IsDamagedAt}
use Rattle.gate_log.specs.State.{InspectedLog}
use Rattle.gate_log.specs.Log.{IsFound}
use Rattle.gate_log.specs.Text.{IsLogText}
use Rattle.gate_log.specs.declared.text.LogText.{LogText}
use Rattle.gate_log.specs.declared.error.LogError.{LogError}
use Rattle.gate_log.specs.declared.error.LogError.TheVariants as log
use Rattle.store_checks.specs.declared.error.CheckError.{CheckError}
use Rattle.store_checks.specs.declared.error.CheckError.TheVariants as check

-- what an error of a log means for the store
abbrev pub of_log : FileName → LogError → CheckError
of_log name log.NoLog = check.Damaged name 0
of_log name (log.LogDamaged place) = check.Damaged name place
of_log name log.DiskFault = check.DiskFault
of_log name log.NoMemory = check.NoMemory

-- The octets are a log of this head, and the text of the record at this place is refused by the value of those before it.
pub record IsRefusedAt {V : Type 0} (IsReplay : V → List (List ℕ) → Type 0) (Refuses : V → List ℕ → Type 0) (value : V) (head : LogHead) (octets : List ℕ) (place : ℕ) : Type 0 where
  pub before : List (List ℕ)
  pub bad : List ℕ
  pub behind : List (List ℕ)
  pub whole : IsLog octets head (before ++ bad ∷ behind)
  pub replayed : IsReplay value before
  pub refused : Refuses value bad
  pub is : place ≡ log_end before + 1

-- Of the entries with these texts, the one whose record stands at this place is refused by the value of those before it.
pub record IsFirstRefused {V : Type 0} (IsReplay : V → List (List ℕ) → Type 0) (Refuses : V → List ℕ → Type 0) (value : V) (texts : List (List ℕ)) (place : ℕ) : Type 0 where
  pub before : List (List ℕ)
  pub bad : List ℕ
  pub behind : List (List ℕ)
  pub texts_are : texts ≡ before ++ bad ∷ behind
  pub replayed : IsReplay value before
  pub refused : Refuses value bad
  pub is : place ≡ log_end before + 1

-- A log was read and replayed: the file has this text, a log of this head whose entries the value is made of, and stands as
-- it was found.
pub record IsLogReplayed {V : Type 0} (IsReplay : V → List (List ℕ) → Type 0) (value : V) (name : FileName) (head : LogHead) (found : InspectedLog) (text : LogText) (old new : Option History) : Type 0 where
  pub texts : List (List ℕ)
  pub text_is : IsLogText text texts
  pub head_is : text.head ≡ head
  pub replayed : IsReplay value texts
  pub told : IfTold old (λ disk. reading (disk name) ≡ Some text.octets)
  pub stands : IfTold new (IsFound found texts)

-- a file is no log of this head whose entries can all be replayed
abbrev pub IsBadReplay : {V : Type 0} → (V → List (List ℕ) → Type 0) → (V → List ℕ → Type 0) → V → LogHead → Option (List ℕ) → ℕ → Type 0
IsBadReplay IsReplay Refuses value head None place = place ≡ 0
IsBadReplay IsReplay Refuses value head (Some octets) place = IsDamagedAt (Some head) octets place ⊎ IsRefusedAt IsReplay Refuses value head octets place

-- why a log was not read
abbrev pub IsLogCause : {V : Type 0} → (V → List (List ℕ) → Type 0) → (V → List ℕ → Type 0) → V → FileName → LogHead → Option History → CheckError → Type 0
IsLogCause IsReplay Refuses value name head old (check.Damaged file place) = (file ≡ name) × IfTold old (λ disk. IsBadReplay IsReplay Refuses value head (reading (disk name)) place)
IsLogCause IsReplay Refuses value name head old check.NoStore = ⊥
IsLogCause IsReplay Refuses value name head old check.DiskFault = ⊤
IsLogCause IsReplay Refuses value name head old check.NoMemory = ⊤
