-- What stands at a path, as a call finds it.
use Rattle.std.specs.Prelude.{◌≡◌, ◌≢◌, ◌⊎◌, ℕ, Bool, true, List, Option, Some, None}
use Rattle.std.specs.Prelude.{IsTrue}
use Rattle.std.specs.BTreeSet.{BTreeSet, contains}
use Rattle.std.specs.declared.cmp.Ordering.{Ordering}
use Rattle.disk_model.specs.Disk.{FileState, synced}
use Rattle.disk_model.specs.Name.{IsLogName}
use Rattle.disk_model.specs.declared.name.FileName.{FileName}
use Rattle.folder_model.specs.System.{Node, PlainFile, System, with_content, weakened}
use Rattle.folder_model.specs.Calls.{Modelled, IfModelled, AreSince}

-- The open file is the one that stands there, and without one no plain file stands there.
abbrev pub IsOpenedAt : {File : Type 0} → (File → ℕ) → Option File → Node → Type 0
IsOpenedAt number None node = (n : ℕ) → node ≢ PlainFile n
IsOpenedAt number (Some file) node = node ≡ PlainFile (number file)

-- no sync has failed
abbrev pub IsSoundSystem : Option Modelled → Type 0
IsSoundSystem m = IfModelled m (λ s. s.is_sound ≡ true)

-- of the plain file that stands at a path, where one stands
abbrev pub IfFile : System → List ℕ → (ℕ → Type 0) → Type 0
IfFile s path P = (number : ℕ) → s.node path ≡ PlainFile number → P number

-- the plain file that stands at a path has this
abbrev pub HasFileAt : System → List ℕ → (ℕ → Type 0) → Type 0
HasFileAt s path P = (number : ℕ) × (s.node path ≡ PlainFile number) × P number

-- no plain file stands at a path
abbrev pub HasNoFile : System → List ℕ → Type 0
HasNoFile s path = (number : ℕ) → s.node path ≢ PlainFile number

-- each system that calls have left since is so by the one before them, where it is modelled
abbrev pub AreAfter : (System → System → Type 0) → Option Modelled → List System → List System → Type 0
AreAfter R old = AreSince (λ s. IfModelled old (λ before. R before s))

-- a change of the file at a path, and of nothing else
abbrev pub IsChanged : List ℕ → (FileState → FileState) → System → System → Type 0
IsChanged path step before s = HasFileAt before path (λ number. s ≡ with_content number step before)

-- A call that failed has done a part of a change of the file at a path, or nothing. The system may go on as after a sync that failed.
abbrev pub IsPartlyChanged : List ℕ → (FileState → FileState → Type 0) → System → System → Type 0
IsPartlyChanged path R before s =
    (s ≡ before) ⊎ HasFileAt before path (λ number. (f : FileState) × R (before.content number) f × (sound : Bool) × (s ≡ weakened sound (with_content number (λ _. f) before)))

-- The plain file that stands at a path, if one does, is durable: a crash leaves its octets and its length as they read.
abbrev pub HasDurableFile : List ℕ → System → Type 0
HasDurableFile path s = IfFile s path (λ number. s.content number ≡ synced (s.content number))

-- What is read of a log is durable: it was already when this process used the log before, or the log is durable now.
abbrev pub IsSettledLog : (FileName → FileName → Ordering) → BTreeSet FileName → FileName → List ℕ → Option Modelled → Type 0
IsSettledLog cmp firm name path m = IsLogName name → IsTrue (contains cmp firm name) ⊎ IfModelled m (HasDurableFile path)
