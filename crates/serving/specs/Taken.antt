-- What tasks claim of the storage files that their requests took.
use Rattle.std.specs.Prelude.{◌≡◌, ◌≤◌, ◌⊎◌, ℕ, true, false, List}
use Rattle.std.specs.List.{list_any}
use Rattle.list_machine.specs.Run.{RunEvent}
use Rattle.journal.specs.Found.{gave_back, took_file}
use Rattle.storage_files.specs.Files.{is_emptied_in, is_taken_in}
use Rattle.store_core.specs.Value.{StoreValue}
use Rattle.task_claims.specs.Claims.{Claims, Emptied, Taken}

-- A task claims each storage file that its request's events took and haven't given back. Files are numbered
-- from 1; where an event took no target, 0 stands for it.
abbrev pub ClaimsTaken : List RunEvent → Claims → Type 0
ClaimsTaken own mine = (file : ℕ) → 1 ≤ file → list_any (took_file file) own ≡ true → gave_back file own ≡ false → (1 ≤ mine (Taken file)) ⊎ (1 ≤ mine (Emptied file))

-- A task has taken a storage file of the store, to add to it or to empty it.
abbrev pub IsInUse : {D : Type 0} → StoreValue D → ℕ → Type 0
IsInUse store file = (is_taken_in file store.files.files ≡ true) ⊎ (is_emptied_in file store.files.files ≡ true)
