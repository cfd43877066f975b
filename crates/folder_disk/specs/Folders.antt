-- The folders of a store's files, and when their names are durable.
use Rattle.std.specs.Prelude.{◌≡◌, ◌≢◌, ◌⊎◌, ◌<◌, ℕ, Bool, false, true, List, [], ◌∷◌, ◌++◌, Contains, Option, slice_index, codes, ⊤}
use Rattle.hex.specs.Hex.{encode_lower}
use Rattle.disk_model.specs.declared.name.FileName.{FileName}
use Rattle.disk_model.specs.declared.name.FileName.TheVariants as file
use Rattle.disk_record.specs.declared.change.Change.{Change}
use Rattle.folder_model.specs.Paths.{folder_at}
use Rattle.folder_model.specs.System.{Nothing, AFolder, System}
use Rattle.folder_model.specs.Calls.{Modelled, IsLocked}
use Rattle.disk_model.specs.Disk.{after}
use Rattle.disk_record.specs.Record.{state_after}
use Rattle.folder_disk.specs.Over.{IsDiskOver, told_history}
use Rattle.folder_disk.specs.declared.folder_name.FolderName.{FolderName}
use Rattle.folder_disk.specs.declared.folder_name.FolderName.TheVariants as folder

-- the path of a folder
abbrev pub folder_text : FolderName → List ℕ
folder_text folder.Top = codes "."
folder_text folder.Storage = codes "storage"
folder_text folder.Mailboxes = codes "mailboxes"
folder_text folder.Attachments = codes "attachments"
folder_text (folder.Outer first) = codes "attachments/" ++ encode_lower (first ∷ [])
folder_text (folder.Inner first second) = codes "attachments/" ++ (encode_lower (first ∷ []) ++ (codes "/" ++ encode_lower (second ∷ [])))

-- the folder that a file stands in
abbrev pub folder_for : FileName → FolderName
folder_for file.Root = folder.Storage
folder_for (file.Map generation) = folder.Storage
folder_for (file.Box number generation) = folder.Mailboxes
folder_for (file.Mail number) = folder.Storage
folder_for (file.Inst hash id) = folder.Inner (slice_index hash 0) (slice_index hash 1)

-- the folder that a folder stands in, of the current one itself
abbrev pub upper_of : FolderName → FolderName
upper_of folder.Top = folder.Top
upper_of folder.Storage = folder.Top
upper_of folder.Mailboxes = folder.Top
upper_of folder.Attachments = folder.Top
upper_of (folder.Outer first) = folder.Attachments
upper_of (folder.Inner first second) = folder.Outer first

-- the octets of its name are octets
abbrev pub IsFolderName : FolderName → Type 0
IsFolderName folder.Top = ⊤
IsFolderName folder.Storage = ⊤
IsFolderName folder.Mailboxes = ⊤
IsFolderName folder.Attachments = ⊤
IsFolderName (folder.Outer first) = first < 256
IsFolderName (folder.Inner first second) = (first < 256) × (second < 256)

-- A folder is there, and a crash leaves in it just what stands there.
pub record IsSyncedFolder (s : System) (path : List ℕ) : Type 0 where
  pub there : s.node path ≡ AFolder
  pub names : (p : List ℕ) → folder_at p ≡ path → s.earlier p ≡ []

-- each folder of a store that is there is one of these, and the current one
pub record HasAllFolders (s : System) (names : List FolderName) : Type 0 where
  pub top : Contains names folder.Top
  pub all : (name : FolderName) → IsFolderName name → s.node (folder_text name) ≡ AFolder → Contains names name

-- What calls of the system have done that a disk doesn't tell: it is over the system afterwards as before, or spoiled if a call
-- that may have changed something has failed.
pub record IsUnseen (old : Option Modelled) (before : List System) (new : Option Modelled) (after : List System) (is_spoiled : Bool) : Type 0 where
  pub told : (changes : List (Change × List ℕ)) → told_history new changes ≡ told_history old changes
  pub over : (changes : List (Change × List ℕ)) → ∥ IsDiskOver old before changes false ∥₁ → ∥ IsDiskOver new after changes is_spoiled ∥₁
  pub locked : IsLocked old → IsLocked new

-- What calls of the system have done is this change of a disk, which they were made for.
pub record IsSeenAs (change : Change) (old : Option Modelled) (before : List System) (new : Option Modelled) (past : List System) (is_spoiled : Bool) : Type 0 where
  pub told : (changes : List (Change × List ℕ)) → told_history new ((change, []) ∷ changes) ≡ after (state_after change []) (told_history old changes)
  pub over : (changes : List (Change × List ℕ)) → ∥ IsDiskOver old before changes false ∥₁ → ∥ IsDiskOver new past ((change, []) ∷ changes) is_spoiled ∥₁
  pub locked : IsLocked old → IsLocked new

-- the names in the current folder are durable, and those in each folder that is there
pub record AreSynced (s : System) : Type 0 where
  pub top : IsSyncedFolder s (codes ".")
  pub all : (name : FolderName) → IsFolderName name → s.node (folder_text name) ≡ AFolder → IsSyncedFolder s (folder_text name)

-- the same stands at each path
abbrev pub HasSameNodes : System → System → Type 0
HasSameNodes before s = (path : List ℕ) → s.node path ≡ before.node path

-- each thing stands in a folder
abbrev pub StandInFolders : System → Type 0
StandInFolders s = (path : List ℕ) → path ≢ codes "." → (s.node (folder_at path) ≡ AFolder) ⊎ (s.node path ≡ Nothing)

-- what one list has the other has
abbrev pub KeepsAll : {A : Type 0} → List A → List A → Type 0
KeepsAll {A} old new = (x : A) → Contains old x → Contains new x

-- an outer folder of instances and each in it that is there is one of these
pub record HasFoldersOf (s : System) (first : ℕ) (names : List FolderName) : Type 0 where
  pub outer : s.node (folder_text (folder.Outer first)) ≡ AFolder → Contains names (folder.Outer first)
  pub inner : (second : ℕ) → second < 256 → s.node (folder_text (folder.Inner first second)) ≡ AFolder → Contains names (folder.Inner first second)

-- each octet that names what stands in a folder, in two hexadecimal digits, is one of these
abbrev pub HasOctetNames : System → List ℕ → List ℕ → Type 0
HasOctetNames s above octets =
    (octet : ℕ) → octet < 256 → s.node (above ++ (codes "/" ++ encode_lower (octet ∷ []))) ≢ Nothing → Contains octets octet
