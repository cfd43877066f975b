-- What a store has for a delivery between its events.
use Rattle.std.specs.Prelude.{◌≡◌, ◌≢◌, ◌≤◌, ◌<◌, ◌+◌, ◌^◌, ℕ, true, List, length, All, Option, Some, None}
use Rattle.disk_model.specs.Disk.{History, IfTold}
use Rattle.mdbox_base.specs.declared.entries.InstRow.{InstRow}
use Rattle.model_meaning.specs.MapFits.{IsFree}
use Rattle.model_meaning.specs.MapMeaning.{number_at}
use Rattle.save_instances.specs.Attaching.{AreHeld}
use Rattle.storage_files.specs.Files.{is_taken_in, end_in, place_begun_in}
use Rattle.store_core.specs.StoreInstances.{IsKnownRow, IsFirstKnown}
use Rattle.store_core.specs.Value.{StoreValue}
use Rattle.mail_save.specs.declared.place.SavedAt.{SavedAt}

-- The storage file is taken, nothing is being placed in it in pieces, and it has room for so many octets.
pub record HoldsFile {D : Type 0} (file size : ℕ) (store : StoreValue D) : Type 0 where
  pub some : 1 ≤ file
  pub taken : is_taken_in file store.files.files ≡ true
  pub unbegun : place_begun_in file store.files.files ≡ None
  pub end : ℕ
  pub ends : end_in file store.files.files ≡ Some end
  pub fits : end + size ≤ 4294967295

-- The instances that a record will name are known, held, and each is the first known one of its octets. A record has room for them.
pub record HoldsInstances {D : Type 0} (rows : List InstRow) (store : StoreValue D) (history : Option History) : Type 0 where
  pub known : All (IsKnownRow store.instances.known) rows
  pub held : AreHeld rows store.instances.known
  pub first : IfTold history (λ now. All (IsFirstKnown store.instances.known now) rows)
  pub few : length rows < 2 ^ 16

-- The message's region stands in the storage file, which is taken still and in which nothing is being placed in pieces, and overlaps
-- no record's. Its GUID names this place, and no record has it.
pub record HoldsRegion {D : Type 0} (at : SavedAt) (store : StoreValue D) : Type 0 where
  pub some : 1 ≤ at.file.0
  pub taken : is_taken_in at.file.0 store.files.files ≡ true
  pub unbegun : place_begun_in at.file.0 store.files.files ≡ None
  pub end : ℕ
  pub ends : end_in at.file.0 store.files.files ≡ Some end
  pub inside : at.offset + at.size ≤ end
  pub small : end ≤ 4294967295
  pub free : IsFree store.map at.file.0 at.offset at.size
  pub guid_file : number_at 8 at.guid.0 ≡ at.file.0
  pub guid_offset : number_at 12 at.guid.0 ≡ at.offset
  pub guid_new : All (λ row. row.guid ≢ at.guid.0) store.map.records
