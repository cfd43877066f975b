-- The folders in which names have changed since the last sync of names.
use Rattle.std.specs.Prelude.{◌≡◌, ◌⊎◌, ℕ, true, List, [], Contains, codes}
use Rattle.folder_model.specs.Paths.{folder_at}
use Rattle.folder_model.specs.System.{AFolder, System}
use Rattle.folder_disk.specs.Folders.{folder_text, IsFolderName, IsSyncedFolder}
use Rattle.folder_disk.specs.declared.changed.Changed.{Changed}
use Rattle.folder_disk.specs.declared.folder_name.FolderName.{FolderName}

-- names in this folder are to be synced
abbrev pub IsToSync : Changed → List ℕ → Type 0
IsToSync changed path = (changed.is_all ≡ true) ⊎ ((name : FolderName) × Contains changed.folders.items name × (folder_text name ≡ path))

-- each folder in which names were to be synced still is one
abbrev pub KeepsToSync : Changed → Changed → Type 0
KeepsToSync old new = (path : List ℕ) → IsToSync old path → IsToSync new path

-- in each folder that is there a crash leaves just what stands there, but for those that are noted
abbrev pub AreSyncedBut : Changed → System → Type 0
AreSyncedBut changed s = (name : FolderName) → IsFolderName name → s.node (folder_text name) ≡ AFolder → IsToSync changed (folder_text name) ⊎ IsSyncedFolder s (folder_text name)

-- If names in this folder were durable, they still are, and it isn't new.
pub record StaysSynced (before s : System) (path : List ℕ) : Type 0 where
  pub there : s.node path ≡ AFolder → before.node path ≡ AFolder
  pub names : (p : List ℕ) → folder_at p ≡ path → before.earlier p ≡ [] → s.earlier p ≡ []

-- names stay as durable as they were
abbrev pub KeepsNames : System → System → Type 0
KeepsNames before s = (path : List ℕ) → StaysSynced before s path

-- one name was changed, and nothing else
abbrev pub ChangesName : List ℕ → System → System → Type 0
ChangesName path before s = (folder : List ℕ) → (folder ≡ folder_at path) ⊎ StaysSynced before s folder

-- each folder in which names have changed is noted, and each one that was made
pub record NotesNames (old new : Changed) (before s : System) : Type 0 where
  pub keeps : KeepsToSync old new
  pub folders : (path : List ℕ) → IsToSync new path ⊎ StaysSynced before s path
