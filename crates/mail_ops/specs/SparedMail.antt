-- What an event leaves of storage files and instances that only changes logs.
use Rattle.std.specs.Prelude.{Option}
use Rattle.disk_model.specs.Disk.{History}
use Rattle.model_kept.specs.Kept.{MailIsKept}
use Rattle.model_meaning.specs.MapMeaning.{MapMeaning}
use Rattle.task_claims.specs.Leaving.{SyncsMail}

-- At each moment, whatever fails, they have all that any map needs of them. Unless a change of the disk fails, each is as it was in
-- the end, or its name was synced.
pub record SparesMail (unfailed : Type 0) (before after : Option History) : Type 0 where
  pub stays : (m : MapMeaning) → MailIsKept m before after
  pub left : unfailed → SyncsMail before after
