-- A disk over the system's files: what holds of its history at each moment.
use Rattle.std.specs.Prelude.{◌≡◌, ◌≢◌, ◌⊎◌, ℕ, Bool, true, false, List, [], ◌∷◌, Option, Some, None, Contains, codes, ⊤}
use Rattle.disk_model.specs.Disk.{DiskState, History, MayLeave, reading}
use Rattle.disk_model.specs.declared.name.FileName.{FileName}
use Rattle.file_paths.specs.Paths.{IsStoreFile}
use Rattle.folder_model.specs.Paths.{folder_at}
use Rattle.folder_model.specs.System.{Nothing, AFolder, System}
use Rattle.folder_model.specs.Calls.{Modelled}
use Rattle.disk_files.specs.Follows.{FollowsSystem, CoversSystem, HasOwnFiles}
use Rattle.disk_record.specs.declared.change.Change.{Change}
use Rattle.disk_record.specs.declared.change.Change.TheVariants as change
use Rattle.disk_record.specs.Record.{history_of}
use Rattle.folder_disk.specs.Start.{started_disk}

-- A thing stands in a folder alone, and so did all that may stand after a crash.
abbrev pub HasFolders : System → Type 0
HasFolders s = (path : List ℕ) → path ≢ codes "." → (s.node (folder_at path) ≡ AFolder) ⊎ ((s.node path ≡ Nothing) × (s.earlier path ≡ []))

-- A system that a store's disk may begin with: no sync has failed, its files are its own, and its folders are no links.
pub record IsStoreSystem (s : System) : Type 0 where
  pub sound : s.is_sound ≡ true
  pub own : HasOwnFiles s
  pub folders : HasFolders s

-- The disk reads what the system does, and what a crash may leave of the system it may leave of the disk.
pub record IsDiskOf (disk : DiskState) (s : System) : Type 0 where
  pub follows : FollowsSystem disk s
  pub system : IsStoreSystem s

-- each file reads what a crash may leave of it, and a name that no file of a store has names none
pub record IsStoreDisk (disk : DiskState) : Type 0 where
  pub reads : (name : FileName) → MayLeave (disk name) (reading (disk name))
  pub none : (name : FileName) → (IsStoreFile name → ⊥) → (disk name).is_there ≡ false

-- the disk had this state at one of its moments
abbrev pub WasState : History → DiskState → Type 0
WasState h disk = Contains (h.now ∷ h.before) disk

-- What a crash may leave of this system is what it may leave of the disk at one of its moments.
abbrev pub IsCovered : History → System → Type 0
IsCovered h s = (disk : DiskState) × WasState h disk × CoversSystem disk s

-- A disk over a modelled system, with the systems of the past. A disk whose change has failed reads nothing any more.
pub record IsOver (m : Modelled) (past : List System) (changes : List (Change × List ℕ)) (is_spoiled : Bool) : Type 0 where
  pub covered : (s : System) → Contains past s → IsCovered (history_of (started_disk m.start) changes) s
  pub now : CoversSystem (history_of (started_disk m.start) changes).now m.now
  pub disk : IsStoreDisk (history_of (started_disk m.start) changes).now
  pub is : is_spoiled ≡ false → IsDiskOf (history_of (started_disk m.start) changes).now m.now

-- the same, where the system is modelled
abbrev pub IsDiskOver : Option Modelled → List System → List (Change × List ℕ) → Bool → Type 0
IsDiskOver None past changes is_spoiled = ⊤
IsDiskOver (Some m) past changes is_spoiled = IsOver m past changes is_spoiled

-- the system is as it was, and so is its past: no call has changed anything
abbrev pub LeavesFolder : Option Modelled → List System → Option Modelled → List System → Type 0
LeavesFolder old past new later = (new ≡ old) × (later ≡ past)

-- the states of a disk over a modelled system
abbrev pub told_history : Option Modelled → List (Change × List ℕ) → Option History
told_history None changes = None
told_history (Some m) changes = Some (history_of (started_disk m.start) changes)

-- no call was made yet
abbrev pub HasBegun : Option Modelled → List System → Type 0
HasBegun None past = ⊤
HasBegun (Some m) past = (m.start ≡ m.now) × (past ≡ [])

-- A change that failed takes no image away, and what it was about reads as before.
abbrev pub IsFailedChange : Change → Type 0
IsFailedChange change.Nothing = ⊤
IsFailedChange (change.Written name at) = ⊥
IsFailedChange (change.HalfWritten name at n) = ⊤
IsFailedChange (change.Cut name end) = ⊥
IsFailedChange (change.HalfCut name end) = ⊤
IsFailedChange (change.Synced name) = ⊥
IsFailedChange (change.Made name) = ⊥
IsFailedChange (change.HalfMade name) = ⊤
IsFailedChange (change.Removed name) = ⊥
IsFailedChange (change.HalfRemoved name) = ⊤
IsFailedChange change.NamesSynced = ⊥
