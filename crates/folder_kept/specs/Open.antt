-- Files that stay open, by the paths at which they stand.
use Rattle.std.specs.Prelude.{◌≡◌, ◌≢◌, ◌⊎◌, ◌<◌, ℕ, Bool, false, true, List, All, AllPairs, Contains, string_bytes}
use Rattle.std.specs.Arc.{arc_value}
use Rattle.folder_model.specs.System.{PlainFile, System}
use Rattle.folder_kept.specs.declared.files.KeptFile.{KeptFile}
use Rattle.folder_kept.specs.declared.files.OpenFile.{OpenFile}

-- one of these stands at a path
abbrev pub IsOpenAt : {T : Type 0} → List ℕ → List (OpenFile T) → Type 0
IsOpenAt {T} path files = (file : OpenFile T) × Contains files file × (string_bytes file.path ≡ path)

-- none of these stands at a path
abbrev pub IsNotOpen : {T : Type 0} → List ℕ → List (OpenFile T) → Type 0
IsNotOpen path files = All (λ file. string_bytes file.path ≢ path) files

-- one of these is this file, at a path
abbrev pub IsKeptAt : {T : Type 0} → List ℕ → T → List (OpenFile T) → Type 0
IsKeptAt {T} path one files = (file : OpenFile T) × Contains files file × (string_bytes file.path ≡ path) × (arc_value file.file ≡ one)

-- each of these was open before, at its path
abbrev pub AreAmong : {T : Type 0} → List (OpenFile T) → List (OpenFile T) → Type 0
AreAmong old new = All (λ file. IsKeptAt (string_bytes file.path) (arc_value file.file) old) new

-- each of these was open before, or is this one
abbrev pub AreMore : {T : Type 0} → List ℕ → T → List (OpenFile T) → List (OpenFile T) → Type 0
AreMore path one old new = All (λ file. IsKeptAt (string_bytes file.path) (arc_value file.file) old ⊎ ((string_bytes file.path ≡ path) × (arc_value file.file ≡ one))) new

-- Each file whose octets aren't synced stays open, but maybe for some.
abbrev pub KeepsUnsynced : {T : Type 0} → (OpenFile T → Type 0) → List (OpenFile T) → List (OpenFile T) → Type 0
KeepsUnsynced but old new = All (λ file. file.is_synced ≡ false → Contains new file ⊎ but file) old

-- each stands at its path
abbrev pub StandAtPaths : {T : Type 0} → (T → ℕ) → System → List (OpenFile T) → Type 0
StandAtPaths number s files = All (λ file. s.node (string_bytes file.path) ≡ PlainFile (number (arc_value file.file))) files

-- one of these has this number, and its octets are synced or aren't
abbrev pub IsOpenAs : {T : Type 0} → ℕ → Bool → List (OpenFile T) → Type 0
IsOpenAs {T} id is_synced files = (file : OpenFile T) × Contains files file × (file.id ≡ id) × (file.is_synced ≡ is_synced)

-- One of these is this file, by its number. It stands at this path, and was opened to write if that is asked for.
abbrev pub IsOpenFor : {T : Type 0} → List ℕ → Bool → KeptFile T → List (OpenFile T) → Type 0
IsOpenFor {T} path to_write kept files = (file : OpenFile T) × Contains files file × (string_bytes file.path ≡ path) × (arc_value file.file ≡ arc_value kept.file) × (file.id ≡ kept.id) × (to_write ≡ true → file.is_to_write ≡ true)

-- where one of these has this number, its octets are synced or aren't
abbrev pub AreMarked : {T : Type 0} → ℕ → Bool → List (OpenFile T) → Type 0
AreMarked id is_synced files = All (λ file. file.id ≡ id → file.is_synced ≡ is_synced) files

-- no two have one number: each has a greater one than those before it, and all are below the next one's
abbrev pub HaveOwnIds : {T : Type 0} → ℕ → List (OpenFile T) → Type 0
HaveOwnIds next_id files = All (λ file. file.id < next_id) files × AllPairs (λ a b. a.id < b.id) files
