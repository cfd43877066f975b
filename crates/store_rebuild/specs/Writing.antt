-- What a crash leaves while files are synced and logs are written, and what the disk has afterwards.
use Rattle.std.specs.Prelude.{◌≡◌, ◌⊎◌, ◌+◌, ℕ, List, [], ◌∷◌, All, Option}
use Rattle.disk_model.specs.Disk.{Files, FileState, DiskState, IsThere, Keeps, MayHold, no_file, reading}
use Rattle.disk_model.specs.Name.{IsLogName}
use Rattle.disk_model.specs.declared.name.FileName.{FileName}
use Rattle.disk_model.specs.declared.name.FileName.TheVariants as file
use Rattle.gate_log.specs.Log.{IsAtMostAsLong}
use Rattle.mdbox_base.specs.Words.{IsNumber}
use Rattle.mdbox_base.specs.declared.entries.InstRow.{InstRow}
use Rattle.mdbox_base.specs.declared.entries.RootEntry.TheVariants as root
use Rattle.model_logs.specs.declared.log_head.LogHead.{LogHead}
use Rattle.model_logs.specs.declared.log_head.LogKind.TheVariants as kind
use Rattle.model_logs.specs.Entries.{root_text}
use Rattle.model_logs.specs.LogFile.{IsLogFile}
use Rattle.model_rebuild.specs.RebuildMoments.{HasOldMail, IsBeforeRoot, KeepsLog, KeepsMessage, KeepsRebuilt}
use Rattle.model_rebuild.specs.RebuildPlan.{RebuildPlan, IsPlanFor}
use Rattle.model_store.specs.Opening.{HasNoEntry}
use Rattle.model_store.specs.Settled.{files_of}
use Rattle.model_store.specs.Stands.{head_of}
use Rattle.rebuild_judge.specs.declared.taken.TakenRow.{TakenRow}
use Rattle.store_rebuild.specs.Planned.{AreRowsOf}
use Rattle.store_rebuild.specs.declared.plan.RebuildRows.{RebuildRows}

-- ---- before the root log is removed

abbrev pub IsInstanceThere : DiskState → InstRow → Type 0
IsInstanceThere disk i = IsThere (disk (file.Inst i.hash.0 i.id.0))

-- the storage file of a message is there, and so are its instances
pub record AreFilesThere (disk : DiskState) (row : TakenRow) : Type 0 where
  pub number : IsNumber row.file.0
  pub storage : IsThere (disk (file.Mail row.file.0))
  pub instances : All (IsInstanceThere disk) row.instances

-- The file is there, and its octets are synced: if a crash leaves the file, it leaves the octets that it reads.
pub record IsFileSynced (f : FileState) : Type 0 where
  pub there : IsThere f
  pub octets : (left : List ℕ) → MayHold f left → left ≡ f.octets

abbrev pub IsInstanceSynced : DiskState → InstRow → Type 0
IsInstanceSynced disk i = IsFileSynced (disk (file.Inst i.hash.0 i.id.0))

-- the storage file of a message is synced, and so are its instances
pub record AreFilesSynced (disk : DiskState) (row : TakenRow) : Type 0 where
  pub storage : IsFileSynced (disk (file.Mail row.file.0))
  pub instances : All (IsInstanceSynced disk) row.instances

-- Each file reads as before, and what was synced still is.
pub record IsOnlySynced (old new : DiskState) : Type 0 where
  pub reads : (name : FileName) → reading (new name) ≡ reading (old name)
  pub there : (name : FileName) → IsThere (old name) → IsThere (new name)
  pub synced : (name : FileName) → IsFileSynced (old name) → IsFileSynced (new name)

-- storage files and instances read as before
abbrev pub MailReadsSame : DiskState → DiskState → Type 0
MailReadsSame old new = (name : FileName) → (IsLogName name → ⊥) → reading (new name) ≡ reading (old name)

-- the log of a mailbox, of this generation
abbrev pub IsBoxLogOf : ℕ → FileName → Type 0
IsBoxLogOf generation name = (number : ℕ) × (name ≡ file.Box number generation)

-- a log that is new where those of the map and of mailboxes have these generations
abbrev pub IsNewLog : ℕ → ℕ → FileName → Type 0
IsNewLog map_generation box_generation name = (name ≡ file.Root) ⊎ ((name ≡ file.Map map_generation) ⊎ IsBoxLogOf box_generation name)

-- each other file reads as before
abbrev pub OthersReadSame : ℕ → ℕ → DiskState → DiskState → Type 0
OthersReadSame map_generation box_generation old new = (name : FileName) → (IsNewLog map_generation box_generation name → ⊥) → reading (new name) ≡ reading (old name)

-- Each file but these reads as before, and a crash leaves of it what it would have left before, if that was one thing.
pub record KeepsAllBut (IsNew : FileName → Type 0) (old new : DiskState) : Type 0 where
  pub reads : (name : FileName) → (IsNew name → ⊥) → reading (new name) ≡ reading (old name)
  pub keeps : (name : FileName) → (IsNew name → ⊥) → (octets : List ℕ) → Keeps (old name) octets → Keeps (new name) octets

-- ---- behind its removal

-- Storage files and instances are as a crash at the beginning may leave them, and the root log has no entry.
abbrev pub IsWithoutStore : DiskState → Files → Type 0
IsWithoutStore first image = HasOldMail first image × HasNoEntry (image file.Root)

-- The root log isn't there, and no crash leaves one; of storage files and instances a crash leaves nothing that it couldn't leave at the beginning.
pub record IsRootless (first disk : DiskState) : Type 0 where
  pub gone : disk file.Root ≡ no_file
  pub before : IsBeforeRoot first disk

-- A log that is made: its file is no longer than it could be before, or than a log without entries; or it is a log with these entries, or without any.
abbrev pub IsLogBeingMade : LogHead → List (List ℕ) → FileState → Option (List ℕ) → Type 0
IsLogBeingMade head entries f left = IsAtMostAsLong 26 f left ⊎ (IsLogFile left head [] ⊎ IsLogFile left head entries)

-- the logs of mailboxes from this number on, of this generation, have these entries, whatever a crash leaves
abbrev pub KeepBoxLogs : DiskState → List ℕ → ℕ → ℕ → List (List (List ℕ)) → Type 0
KeepBoxLogs disk store number generation [] = Unit {0}
KeepBoxLogs disk store number generation (entries ∷ logs) = KeepsLog disk (file.Box number generation) (head_of store kind.Box number generation) entries × KeepBoxLogs disk store (number + 1) generation logs

-- Nothing but the new logs is missing: the root log is gone, and all messages of the plan are durable.
pub record IsReady (store : List ℕ) (plan : RebuildPlan) (first disk : DiskState) : Type 0 where
  pub is_plan : IsPlanFor (files_of first) store plan
  pub rootless : IsRootless first disk
  pub messages : All (KeepsMessage first disk) plan.taken

-- All that a plan makes is there, whatever a crash leaves.
pub record HasNewStore (store : List ℕ) (plan : RebuildPlan) (first disk : DiskState) : Type 0 where
  pub root_log : KeepsLog disk file.Root (head_of store kind.Root 0 0) (root_text (root.M plan.map_generation) ∷ [])
  pub rest : KeepsRebuilt first disk store plan

-- the same of a plan of these rows
abbrev pub HasStoreOf : List ℕ → RebuildRows → DiskState → DiskState → Type 0
HasStoreOf store rows first disk = (plan : RebuildPlan) → IsPlanFor (files_of first) store plan → AreRowsOf plan rows → HasNewStore store plan first disk
