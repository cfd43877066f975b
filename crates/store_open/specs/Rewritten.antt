-- An open store whose logs that were due were written anew.
use Rattle.std.specs.Prelude.{◌≡◌, ◌⊎◌, false, Option, Result, IfOk, IfErr}
use Rattle.box_snapshot.specs.Due.{NoLogDue}
use Rattle.box_snapshot.specs.Rewrites.{LeavesNoOldLogs, Rewrites}
use Rattle.disk_model.specs.Disk.{History}
use Rattle.store_core.specs.Running.{IsStore}
use Rattle.store_core.specs.Value.{StoreValue}
use Rattle.store_open.specs.Opened.{IsFaulted, disk_of}
use Rattle.store_open.specs.declared.error.OpenError.TheVariants.{DiskFault, NoMemory}
use Rattle.store_open.specs.declared.error.OpenRefused.{OpenRefused}

-- Those logs of the store that were due were written anew, and this is the answer: the store as it is then, none of whose logs is
-- due, or its disk, where the device failed or there was no memory. Unless the device failed the store isn't stopped.
pub record WritesDueLogs {D : Type 0} (history : D → Option History) (old : StoreValue D) (result : Result (StoreValue D) (OpenRefused D)) : Type 0 where
  pub new : StoreValue D
  pub was : IsStore (history old.disk) old
  pub is : IsStore (history new.disk) new
  pub rewrites : Rewrites history old new
  pub disk : disk_of result ≡ new.disk
  pub running : (IsFaulted result → ⊥) → new.stopped ≡ false
  pub opened : IfOk result (λ store. (store ≡ new) × NoLogDue new × LeavesNoOldLogs history old new)
  pub refused : IfErr result (λ refused. (refused.error ≡ DiskFault) ⊎ (refused.error ≡ NoMemory))
