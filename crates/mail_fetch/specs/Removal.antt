-- The event of a fetch that removes the file which it has unpinned: a purge has doomed the file, and no pin of it is left.
use Rattle.std.specs.Prelude.{◌≡◌, ◌==◌, ◌&&◌, ℕ, Bool, true}
use Rattle.storage_files.specs.Files.{is_doomed_in, pins_in, without_file}
use Rattle.store_core.specs.Removing.{AreElsewhere}
use Rattle.store_core.specs.Value.{StoreValue}
use Rattle.task_claims.specs.Claims.{Claims, Removing, one_if}

-- The file is doomed, and has one pin. Who gives that back is to remove the file.
abbrev pub is_last_pin : {D : Type 0} → ℕ → StoreValue D → Bool
is_last_pin file store = is_doomed_in file store.files.files && (pins_in file store.files.files == 1)

-- The file is doomed, and has neither a pin nor a record's region.
pub record CanRemove {D : Type 0} (file : ℕ) (store : StoreValue D) : Type 0 where
  pub doomed : is_doomed_in file store.files.files ≡ true
  pub unpinned : pins_in file store.files.files ≡ 0
  pub elsewhere : AreElsewhere file store.map.records

-- the removal of this file
abbrev pub claims_of_removal : ℕ → Claims
claims_of_removal file (Removing other) = one_if (file == other)
claims_of_removal file thing = 0

-- the store without the file
abbrev pub with_file_gone : {D : Type 0} → ℕ → StoreValue D → StoreValue D
with_file_gone file store = record store { files = record store.files { files = without_file file store.files.files } }
