-- What a crash may leave while a store is rebuilt.
use Rattle.std.specs.Prelude.{◌≡◌, ◌≢◌, ◌⊎◌, ◌+◌, ℕ, List, [], ◌∷◌, map, All, Some, None}
use Rattle.disk_model.specs.Disk.{Files, DiskState, Keeps, MayLeave, reading}
use Rattle.disk_model.specs.Name.{IsLogName}
use Rattle.disk_model.specs.declared.name.FileName.{FileName}
use Rattle.disk_model.specs.declared.name.FileName.TheVariants as file
use Rattle.model_lists.specs.Lists.{Lists}
use Rattle.model_logs.specs.declared.log_head.LogHead.{LogHead}
use Rattle.model_logs.specs.declared.log_head.LogKind.TheVariants as kind
use Rattle.model_logs.specs.Entries.{map_text, box_text}
use Rattle.model_logs.specs.LogFile.{IsLog}
use Rattle.model_rebuild.specs.RebuildPlan.{RebuildPlan}
use Rattle.model_rebuild.specs.RebuiltLogs.{rebuilt_map, rebuilt_box}
use Rattle.model_store.specs.Opening.{HasNoEntry}
use Rattle.model_store.specs.Safe.{Safe}
use Rattle.model_store.specs.Stands.{head_of}
use Rattle.model_taken.specs.Taken.{TakenMessage, mailboxes_met}

-- ---- of an image

-- storage files and instances are as a crash at the beginning may leave them
abbrev pub HasOldMail : DiskState → Files → Type 0
HasOldMail old image = (name : FileName) → (IsLogName name → ⊥) → MayLeave (old name) (image name)

-- all files are as a crash at the beginning may leave them, except that the root log may be gone
abbrev pub IsOldButForRoot : DiskState → Files → Type 0
IsOldButForRoot old image = ((name : FileName) → name ≢ file.Root → MayLeave (old name) (image name)) × (MayLeave (old file.Root) (image file.Root) ⊎ (image file.Root ≡ None))

-- A crash during a rebuild leaves files as they were at the beginning, with or without the root log; or a root log without an
-- entry, so that a rebuild can run again; or files that are safe for the rebuilt lists. In each case storage files and instances are
-- as they were.
pub record IsLeftByRebuild (old : DiskState) (lists : Lists) (image : Files) : Type 0 where
  pub mail : HasOldMail old image
  pub way : IsOldButForRoot old image ⊎ (HasNoEntry (image file.Root) ⊎ Safe image lists)

-- ---- of a disk

-- Before the first log is made: a crash leaves of no file anything that it couldn't leave at the beginning, except that the root log may be gone.
abbrev pub IsBeforeLogs : DiskState → DiskState → Type 0
IsBeforeLogs old now = ((name : FileName) → name ≢ file.Root → (image : _) → MayLeave (now name) image → MayLeave (old name) image)
    × ((image : _) → MayLeave (now file.Root) image → MayLeave (old file.Root) image ⊎ (image ≡ None))

-- From then on, until the root log has its entry: a crash leaves a root log without an entry, and of storage files and instances nothing that it couldn't leave at the beginning.
abbrev pub IsBeforeRoot : DiskState → DiskState → Type 0
IsBeforeRoot old now = ((name : FileName) → (IsLogName name → ⊥) → (image : _) → MayLeave (now name) image → MayLeave (old name) image)
    × ((image : _) → MayLeave (now file.Root) image → HasNoEntry image)

-- a crash leaves the file as it reads, which is a log with this head and these entries
pub record KeepsLog (now : DiskState) (name : FileName) (head : LogHead) (entries : List (List ℕ)) : Type 0 where
  pub octets : List ℕ
  pub keeps : Keeps (now name) octets
  pub whole : IsLog octets head entries

-- the same of the logs of mailboxes with these names, numbered from this number on
abbrev pub KeepRebuiltBoxes : DiskState → List ℕ → ℕ → ℕ → List (List ℕ) → List TakenMessage → Type 0
KeepRebuiltBoxes now store number generation [] taken = Unit {0}
KeepRebuiltBoxes now store number generation (name ∷ names) taken =
    KeepsLog now (file.Box number generation) (head_of store kind.Box number generation) (map box_text (rebuilt_box name taken)) × KeepRebuiltBoxes now store (number + 1) generation names taken

-- the file was there at the beginning, and a crash leaves it as it read then
pub record KeepsOld (old now : DiskState) (name : FileName) : Type 0 where
  pub octets : List ℕ
  pub read : reading (old name) ≡ Some octets
  pub keeps : Keeps (now name) octets

-- the same of a message's storage file and of its instances
pub record KeepsMessage (old now : DiskState) (t : TakenMessage) : Type 0 where
  pub storage : KeepsOld old now (file.Mail t.file)
  pub instances : All (λ i. KeepsOld old now (file.Inst i.hash.0 i.id.0)) t.instances

-- All that the root log will name is durable: a crash leaves the planned logs of the map and of the mailboxes as they read, and the
-- storage files and instances of the messages as they read at the beginning.
pub record KeepsRebuilt (old now : DiskState) (store : List ℕ) (plan : RebuildPlan) : Type 0 where
  pub map_log : KeepsLog now (file.Map plan.map_generation) (head_of store kind.Map 0 plan.map_generation) (map map_text (rebuilt_map plan.highest plan.box_generation plan.taken plan.skipped))
  pub box_logs : KeepRebuiltBoxes now store 1 plan.box_generation (mailboxes_met plan.taken) plan.taken
  pub messages : All (KeepsMessage old now) plan.taken
