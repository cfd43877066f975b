-- The system's files as the calls of one process see them, what of them is durable, and what a crash may leave.
use Rattle.std.specs.Prelude.{◌≡◌, ◌≢◌, ◌⊎◌, ℕ, ◌==◌, ◌+◌, ◌<◌, ◌≤◌, max, Bool, true, false, ◌&&◌, if◌then◌else◌, List, [], ◌∷◌, length, take, slice_get, All, Contains, ⊤, codes}
use Rattle.disk_model.specs.Name.{same_octets}
use Rattle.disk_model.specs.Disk.{FileState, MayHold, covers, still, synced, half_written, half_cut}
use Rattle.std.specs.Str.{IsUtf8}
use Rattle.folder_model.specs.Paths.{folder_at, lock_name}

-- What stands at a path: nothing, a plain file by the system's number for it, a folder, or another thing, as a link or a device.
pub data Node : Type 0 where
  Nothing : Node
  PlainFile : (number : ℕ) → Node
  AFolder : Node
  Another : Node

pub record System : Type 0 where
  -- what stands at each path
  pub node : List ℕ → Node
  -- what else a crash may leave at each path: what stood there since the names of its folder were last synced
  pub earlier : List ℕ → List Node
  -- each plain file's octets, and what has happened to them since its last sync, by the file's number
  pub content : ℕ → FileState
  -- the number of the next file that is made
  pub count : ℕ
  -- No sync has failed. After one that has, nothing is promised of what is read or kept.
  pub is_sound : Bool
  -- this process has the lock
  pub is_locked : Bool

-- another thing stands at a path
abbrev pub with_node : List ℕ → Node → System → System
with_node path node s = record s {
  node = λ p. if same_octets p path then node else s.node p;
  earlier = λ p. if same_octets p path then s.node p ∷ s.earlier p else s.earlier p;
}

-- a file's content changes so
abbrev pub with_content : ℕ → (FileState → FileState) → System → System
with_content number step s = record s { content = λ n. if n == number then step (s.content n) else s.content n }

-- a new file stands at a path, empty, with the next number
abbrev pub with_new_file : List ℕ → System → System
with_new_file path s = record (with_content s.count (λ _. still []) (with_node path (PlainFile s.count) s)) { count = s.count + 1 }

-- after a sync of the names in a folder, unless one has failed before
abbrev pub with_synced_names : List ℕ → System → System
with_synced_names folder s =
    record s { earlier = λ p. if s.is_sound then (if same_octets (folder_at p) folder then [] else s.earlier p) else s.earlier p }

-- after a sync of a file, unless one has failed before
abbrev pub with_synced_file : ℕ → System → System
with_synced_file number s = with_content number (λ f. if s.is_sound then synced f else f) s

-- after a sync that failed
abbrev pub with_failed_sync : System → System
with_failed_sync s = record s { is_sound = false }

-- after a change that failed: the system may go on as after a sync that failed
abbrev pub weakened : Bool → System → System
weakened sound s = record s { is_sound = sound && s.is_sound }

-- after the lock was had
abbrev pub with_lock : System → System
with_lock s = record s { is_locked = true }

-- After the process has ended, in whatever way: all that it wrote reads on, durable or not, and the lock is free.
abbrev pub after_end : System → System
after_end s = record s { is_locked = false }

-- A write of n octets that failed has done a part: it has put any octets in a range, and lengthened the file as far at most.
pub record IsHalfWritten (at n : ℕ) (old new : FileState) : Type 0 where
  pub size : ℕ
  pub octets : List ℕ
  pub at_most : size ≤ n
  pub is : new ≡ record (half_written at size old) { octets = octets }
  pub no_shorter : length old.octets ≤ length octets
  pub no_longer : length octets ≤ max (length old.octets) (at + size)
  pub same : (i : ℕ) → i < length old.octets → covers at size i ≡ false → slice_get octets i ≡ slice_get old.octets i
  pub are_octets : All (λ octet. octet < 256) octets

-- A cut to n that failed has cut the file less far, or not.
pub record IsHalfCut (n : ℕ) (old new : FileState) : Type 0 where
  pub end : ℕ
  pub is : new ≡ record (half_cut n old) { octets = take end old.octets }
  pub least : n ≤ end

-- a file as calls leave it: it reads what a crash may leave of it
pub record IsContent (f : FileState) : Type 0 where
  pub is_there : f.is_there ≡ true
  pub is_named : f.is_name_loose ≡ false
  pub least : f.least ≤ length f.octets
  pub greatest : length f.octets ≤ f.greatest
  pub are_octets : All (λ octet. octet < 256) f.octets

-- the number of this file is below the next one's
abbrev pub IsNumberedNode : ℕ → Node → Type 0
IsNumberedNode count Nothing = ⊤
IsNumberedNode count (PlainFile number) = number < count
IsNumberedNode count AFolder = ⊤
IsNumberedNode count Another = ⊤

-- a system as calls leave it
pub record IsSystem (s : System) : Type 0 where
  pub nodes : (path : List ℕ) → IsNumberedNode s.count (s.node path)
  pub earlier : (path : List ℕ) → All (IsNumberedNode s.count) (s.earlier path)
  pub contents : (number : ℕ) → IsContent (s.content number)

-- this stands in a folder; the current folder stands in none
pub record StandsIn (s : System) (folder path : List ℕ) : Type 0 where
  pub in_folder : folder_at path ≡ folder
  pub below : path ≢ codes "."
  pub there : s.node path ≢ Nothing

-- These are paths of what stands in a folder, and all of them that are text. The lock's file may be among them.
pub record ArePathsIn (s : System) (folder : List ℕ) (paths : List (List ℕ)) : Type 0 where
  pub stand : (path : List ℕ) → Contains paths path → StandsIn s folder path ⊎ (path ≡ lock_name)
  pub all : (path : List ℕ) → StandsIn s folder path → IsUtf8 path → Contains paths path

-- a crash may leave this at a path
abbrev pub MayStand : System → List ℕ → Node → Type 0
MayStand s path node = (node ≡ s.node path) ⊎ Contains (s.earlier path) node

-- What a crash leaves: the current folder; at each path a thing that may stand there, or nothing where its folder is gone; and of
-- each file octets that it may hold. All of it is durable, the system is sound, and nobody has the lock.
pub record IsLeftByCrash (before after : System) : Type 0 where
  pub current : after.node (codes ".") ≡ AFolder
  pub node : (path : List ℕ) → MayStand before path (after.node path) ⊎ ((after.node path ≡ Nothing) × (after.node (folder_at path) ≢ AFolder))
  pub earlier : (path : List ℕ) → after.earlier path ≡ []
  pub content : (number : ℕ) → (octets : List ℕ) × MayHold (before.content number) octets × (after.content number ≡ still octets)
  pub count : after.count ≡ before.count
  pub sound : after.is_sound ≡ true
  pub free : after.is_locked ≡ false
