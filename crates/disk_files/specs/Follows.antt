-- How the states of a disk follow the files of the system under it.
use Rattle.std.specs.Prelude.{◌≡◌, ℕ, ◌<◌, ◌≤◌, false, true, List, slice_get, Option, Some, None, codes}
use Rattle.disk_model.specs.Disk.{Files, FileState, DiskState, MayLeave, half_written, reading}
use Rattle.disk_model.specs.declared.name.FileName.{FileName}
use Rattle.file_paths.specs.Paths.{path_text, IsStoreFile}
use Rattle.folder_model.specs.Paths.{folder_at, IsPath}
use Rattle.folder_model.specs.System.{Node, Nothing, PlainFile, AFolder, Another, System, MayStand, IsLeftByCrash}

-- the octets of what stands at a path, if it is a plain file
abbrev pub octets_at : System → Node → Option (List ℕ)
octets_at s Nothing = None
octets_at s (PlainFile number) = Some (s.content number).octets
octets_at s AFolder = None
octets_at s Another = None

-- the files of a store, as they read
abbrev pub files_at : System → Files
files_at s name = octets_at s (s.node (path_text name))

-- What a crash may leave of the one file, it may leave of the other.
pub record CoversFile (wide narrow : FileState) : Type 0 where
  pub least : wide.least ≤ narrow.least
  pub greatest : narrow.greatest ≤ wide.greatest
  pub firm : (i : ℕ) → i < wide.least → wide.is_loose i ≡ false → narrow.is_loose i ≡ false
  pub same : (i : ℕ) → i < wide.least → wide.is_loose i ≡ false → slice_get narrow.octets i ≡ slice_get wide.octets i

-- A crash leaves this folder, and those above it.
pub data StaysFolder (s : System) : List ℕ → Type 0 where
  Current : StaysFolder s (codes ".")
  Below : (path : List ℕ) → ((node : Node) → MayStand s path node → node ≡ AFolder) → StaysFolder s (folder_at path) → StaysFolder s path

-- A file of the disk follows what stands at its path and may stand there after a crash.
pub record FollowsPath (f : FileState) (s : System) (path : List ℕ) : Type 0 where
  pub reads : reading f ≡ octets_at s (s.node path)
  pub holds : (number : ℕ) → MayStand s path (PlainFile number) → CoversFile f (s.content number)
  pub firm : f.is_name_loose ≡ false → (node : Node) → MayStand s path node → node ≡ s.node path
  pub stays : f.is_name_loose ≡ false → f.is_there ≡ true → StaysFolder s (folder_at path)

-- each file of a store follows what stands at its path
abbrev pub FollowsSystem : DiskState → System → Type 0
FollowsSystem disk s = (name : FileName) → IsStoreFile name → FollowsPath (disk name) s (path_text name)

-- what a crash may leave of the system is, for each file of a store, what it may leave of the disk
abbrev pub CoversSystem : DiskState → System → Type 0
CoversSystem disk s = (after : System) → IsLeftByCrash s after → (name : FileName) → IsStoreFile name → MayLeave (disk name) (files_at after name)

-- No file has two paths, and at no path may two files stand.
pub record HasOwnFiles (s : System) : Type 0 where
  pub own : (path other : List ℕ) (number : ℕ) → IsPath path → IsPath other → MayStand s path (PlainFile number) → MayStand s other (PlainFile number) → path ≡ other
  pub one : (path : List ℕ) (number other : ℕ) → IsPath path → MayStand s path (PlainFile number) → MayStand s path (PlainFile other) → number ≡ other

-- Two changes of files do alike: what the wide one covered it still covers.
pub record ChangesAlike (step other : FileState → FileState) (f g : FileState) : Type 0 where
  pub there : (step f).is_there ≡ f.is_there
  pub loose : (step f).is_name_loose ≡ f.is_name_loose
  pub octets : f.octets ≡ g.octets → (step f).octets ≡ (other g).octets
  pub covers : f.octets ≡ g.octets → CoversFile f g → CoversFile (step f) (other g)

-- a crash leaves at a path what stands there
abbrev pub StaysAsRead : System → List ℕ → Type 0
StaysAsRead s path = (node : Node) → MayStand s path node → node ≡ s.node path

-- The names of a store's files are durable, and so are the folders of those that stand.
pub record HasDurableNames (s : System) : Type 0 where
  pub stays : (name : FileName) → IsStoreFile name → StaysAsRead s (path_text name)
  pub folders : (name : FileName) (number : ℕ) → IsStoreFile name → s.node (path_text name) ≡ PlainFile number → StaysFolder s (folder_at (path_text name))

-- after a write of n octets that failed, where these octets read then
abbrev pub half_written_as : ℕ → ℕ → List ℕ → FileState → FileState
half_written_as at n octets f = record (half_written at n f) { octets = octets }
