-- Paths, and which folder each stands in.
use Rattle.std.specs.Prelude.{◌≡◌, ◌≢◌, ◌⊎◌, ℕ, ◌==◌, List, [], ◌∷◌, ◌++◌, Option, Some, None, IsTrue, codes, if◌then◌else◌}
use Rattle.std.specs.List.{list_all}
use Rattle.mdbox_base.specs.Words.{is_other_than}

-- what of a path stands before its last "/": of an octet and the rest of the path
abbrev pub put_before_slash : ℕ → Option (List ℕ) → Option (List ℕ)
put_before_slash octet None = if octet == 47 then Some [] else None
put_before_slash octet (Some before) = Some (octet ∷ before)

-- what of a path stands before its last "/", if it has one
abbrev pub before_slash : List ℕ → Option (List ℕ)
before_slash [] = None
before_slash (octet ∷ rest) = put_before_slash octet (before_slash rest)

-- this path, or that of the current folder
abbrev pub or_current : Option (List ℕ) → List ℕ
or_current None = codes "."
or_current (Some path) = path

-- the path of the folder that a path stands in
abbrev pub folder_at : List ℕ → List ℕ
folder_at path = or_current (before_slash path)

-- the lock's file, which the model leaves out
abbrev pub lock_name : List ℕ
lock_name = codes "mdbox.lock"

-- A name of what stands in a folder. "." is the folder itself, and ".." the one above.
pub record IsPathName (name : List ℕ) : Type 0 where
  pub some : name ≢ []
  pub no_slash : IsTrue (list_all (is_other_than 47) name)
  pub not_itself : name ≢ codes "."
  pub not_above : name ≢ codes ".."
  pub not_lock : name ≢ lock_name

-- A path as it is spelled: names joined by single "/". So what stands at a path has no other one.
pub data IsPath : List ℕ → Type 0 where
  Single : (name : List ℕ) → IsPathName name → IsPath name
  Within : (folder name : List ℕ) → IsPath folder → IsPathName name → IsPath (folder ++ 47 ∷ name)

-- the path of a folder: the current one, or one below it
abbrev pub IsFolderPath : List ℕ → Type 0
IsFolderPath path = (path ≡ codes ".") ⊎ IsPath path
