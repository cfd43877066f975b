-- Reading the storage files, one after another.
use Rattle.std.specs.Prelude.{◌≡◌, ℕ, List, slice_get, Option, Some}
use Rattle.disk_model.specs.Disk.{History, Faults, IsIdle}
use Rattle.disk_model.specs.FaultCounts.{NoFault}
use Rattle.store_core.specs.Value.{StoreValue}
use Rattle.resync_task.specs.Damage.{AreDamaged}

-- The files that it has listed, how many of them it has read, and how many damaged regions it found in them.
pub record ReadingValue : Type 0 where
  pub files : List ℕ
  pub read : ℕ
  pub damaged : ℕ

-- Of the store's value only the disk may be another, and of that nothing has changed.
pub record ReadsStoreOnly {D : Type 0} (old new : StoreValue D) (before after : Option History) : Type 0 where
  pub same : new ≡ record old { disk = new.disk }
  pub idle : IsIdle before after

-- The next file was read, and these regions of it are damaged.
pub record ReadsNext {D : Type 0} (files : List ℕ) (read : ℕ) (uids : List ℕ) (old new : StoreValue D) (before after : Option History) (began now : Faults) : Type 0 where
  pub file : ℕ
  pub next : slice_get files read ≡ Some file
  pub found : AreDamaged before old.map file uids
  pub only : ReadsStoreOnly old new before after
  pub unfailed : NoFault began now
