-- What is known of a disk on which a store is made.
use Rattle.disk_model.specs.Name.{IsLogName}
use Rattle.std.specs.Prelude.{◌≡◌, ◌≢◌, ◌⊎◌, ℕ, List, [], ◌∷◌, Option, Some, None}
use Rattle.std.specs.declared.cmp.Ordering.{Ordering}
use Rattle.std.specs.declared.cmp.Ordering.TheVariants.{Less}
use Rattle.disk_model.specs.Disk.{Files, FileState, DiskState, History, IsThere, IfTold, IsPast, Keeps, MayLeave, no_file, named, removed, reading, IsIdle}
use Rattle.disk_model.specs.declared.name.FileName.{FileName}
use Rattle.disk_model.specs.declared.name.FileName.TheVariants as file
use Rattle.model_logs.specs.declared.log_head.LogHead.{LogHead}
use Rattle.model_logs.specs.declared.log_head.LogKind.TheVariants as kind
use Rattle.model_logs.specs.LogFile.{IsLogFile}
use Rattle.model_logs.specs.Entries.{root_text, map_text}
use Rattle.model_store.specs.Stands.{head_of}
use Rattle.model_store.specs.Safe.{Safe}
use Rattle.model_store.specs.Opening.{HasNoEntry, IsNewStore, first_root, first_box, empty_inbox}
use Rattle.gate_log.specs.Log.{IsAtMostAsLong, log_text}
use Rattle.mdbox_base.specs.declared.ids.StoreId.{StoreId}
use Rattle.sis_store.specs.Instances.{InstancesValue}
use Rattle.storage_files.specs.Files.{FilesValue}

-- Where the disk has not this at the beginning, nothing has changed.
abbrev pub IdleUnless : (DiskState → Type 0) → Option History → Option History → Type 0
IdleUnless P old new = IfTold old (λ now. (P now → ⊥) → IsIdle old new)

-- a storage file or an instance is there
abbrev pub HasMailFile : DiskState → Type 0
HasMailFile disk = (name : FileName) × (IsLogName name → ⊥) × IsThere (disk name)

-- a log is there
abbrev pub HasAnyLog : DiskState → Type 0
HasAnyLog disk = (name : FileName) × IsLogName name × IsThere (disk name)

-- the least log that is there, of those past this name
abbrev pub IsFirstLog : (FileName → FileName → Ordering) → Option FileName → Option FileName → DiskState → Type 0
IsFirstLog cmp after None disk = (name : FileName) → IsLogName name → IsThere (disk name) → IsPast cmp after name → ⊥
IsFirstLog cmp after (Some next) disk = IsLogName next × IsThere (disk next)
    × ((name : FileName) → IsThere (disk name) → IsPast cmp after name → cmp name next ≢ Less)

-- A store may be made here: the root log has no entry, and no storage file and no instance is there.
pub record IsFreeForStore (disk : DiskState) : Type 0 where
  pub no_entry : HasNoEntry (reading (disk file.Root))
  pub no_mail : HasMailFile disk → ⊥

-- whatever a crash leaves of the file, as a root log it has no entry
abbrev pub NeverHasEntry : FileState → Type 0
NeverHasEntry f = (left : Option (List ℕ)) → MayLeave f left → HasNoEntry left

-- whatever a crash leaves of the disk, there is no store
abbrev pub NeverHasStore : Option History → Type 0
NeverHasStore history = IfTold history (λ now. NeverHasEntry (now file.Root))

-- a log that was there is gone, and its name was synced; any other file is as it was, or its name was synced too
pub record IsCleared (name : FileName) (f g : FileState) : Type 0 where
  pub gone : IsLogName name → IsThere f → g ≡ no_file
  pub stays : (IsLogName name → IsThere f → ⊥) → (g ≡ f) ⊎ (g ≡ named f)

abbrev pub AreCleared : DiskState → DiskState → Type 0
AreCleared old new = (name : FileName) → IsCleared name (old name) (new name)

-- a log that was there was removed, and any other file is as it was
pub record IsRemoved (name : FileName) (f g : FileState) : Type 0 where
  pub gone : IsLogName name → IsThere f → g ≡ removed f
  pub stays : (IsLogName name → IsThere f → ⊥) → g ≡ f

abbrev pub AreRemoved : DiskState → DiskState → Type 0
AreRemoved old new = (name : FileName) → IsRemoved name (old name) (new name)

-- no file is there
abbrev pub IsEmptyDisk : DiskState → Type 0
IsEmptyDisk disk = (name : FileName) → IsThere (disk name) → ⊥

-- A file that is made as a log with one entry: it is no longer than it could be before, or than a log without entries, or
-- it is the log without the entry, or with it.
abbrev pub IsBeingMade : LogHead → List ℕ → FileState → Option (List ℕ) → Type 0
IsBeingMade head entry f left = IsAtMostAsLong 26 f left ⊎ (IsLogFile left head [] ⊎ IsLogFile left head (entry ∷ []))

-- the heads of a new store's logs
abbrev pub new_root_head : List ℕ → LogHead
new_root_head store = head_of store kind.Root 0 0

abbrev pub new_map_head : List ℕ → LogHead
new_map_head store = head_of store kind.Map 0 1

abbrev pub inbox_head : List ℕ → LogHead
inbox_head store = head_of store kind.Box 1 1

-- A new store with this id is on the disk: a crash leaves just its three logs, each as it reads.
pub record IsMadeStore (store : List ℕ) (disk : DiskState) : Type 0 where
  pub root_log : Keeps (disk file.Root) (log_text (new_root_head store) (root_text first_root ∷ []))
  pub map_log : Keeps (disk (file.Map 1)) (log_text (new_map_head store) (map_text first_box ∷ []))
  pub inbox : Keeps (disk (file.Box 1 1)) (log_text (inbox_head store) [])
  pub nothing_else : (name : FileName) → name ≢ file.Root → name ≢ file.Map 1 → name ≢ file.Box 1 1 → disk name ≡ no_file

-- a new store has no storage files, and no number of one was drawn
abbrev pub no_files : FilesValue
no_files = record { files = []; highest = 0; spare = 0 }

-- nor has it instances
abbrev pub no_instances : StoreId → InstancesValue
no_instances id = record { known = []; store = id; highest = 0 }

-- the files have no store, or a new one with this id, which is safe for an empty INBOX
abbrev pub HasNothingOrInbox : List ℕ → Files → Type 0
HasNothingOrInbox store image = HasNoEntry (image file.Root) ⊎ (IsNewStore image store × Safe image empty_inbox)
