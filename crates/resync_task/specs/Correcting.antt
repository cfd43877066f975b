-- The last event of a resync, over the store.
use Rattle.std.specs.Prelude.{◌≡◌, ◌≤◌, ◌+◌, ℕ, true, false, length, Option, Contains, Result, Ok, Err}
use Rattle.disk_model.specs.Disk.{History, Faults, Grows}
use Rattle.mdbox_base.specs.Streams.{Rose}
use Rattle.model_kept.specs.Kept.{MailIsKept}
use Rattle.model_lists.specs.Lists.{Lists}
use Rattle.model_meaning.specs.MapMeaning.{MapRecord, MapMeaning}
use Rattle.model_store.specs.Settled.{IsSettledFor, Leaves}
use Rattle.store_core.specs.Dues.{due_at, listed_at}
use Rattle.store_core.specs.Keeping.{KeepsMail, KeepsRest}
use Rattle.store_core.specs.Value.{StoreValue, indexes_of}
use Rattle.resync_task.specs.WrongCounts.{wrong_of}
use Rattle.store_core.specs.declared.error.StepError.{StepError}
use Rattle.store_core.specs.declared.error.StepError.TheVariants as step_error
use Rattle.resync_task.specs.Stages.{corrected_map}

-- Each count is what the mailboxes list of the record and what is due of it.
abbrev pub AreExact : {D : Type 0} → StoreValue D → Type 0
AreExact store = (row : MapRecord) → Contains store.map.records row → row.count ≡ listed_at row.uid store + due_at row.uid store

-- What the event keeps, whatever fails: of a settled disk each crash image at every moment is safe for its lists; mailboxes, storage
-- files and instances stay.
pub record KeepsCorrecting {D : Type 0} (old new : StoreValue D) (before after : Option History) (began now : Faults) : Type 0 where
  pub moments : (lists : Lists) → IsSettledFor lists before → Leaves lists lists before after
  pub indexes : indexes_of new.boxes ≡ indexes_of old.boxes
  pub mailboxes : new.map.boxes ≡ old.map.boxes
  pub drawn : new.drawn ≡ old.drawn
  pub room : old.map_log.room ≤ new.map_log.room
  pub rest : KeepsRest old new
  pub stays : (m : MapMeaning) → MailIsKept m before after
  pub grows : Grows before after
  pub reads : now.reads ≡ began.reads
  pub changes : began.changes ≤ now.changes

-- The wrong counts were put right, so many of them. What is due stays, and so does all of each record but its count. The map log is
-- no shorter.
pub record PutsRight {D : Type 0} (corrected : ℕ) (old new : StoreValue D) (before after : Option History) (began now : Faults) : Type 0 where
  pub keeps : KeepsCorrecting old new before after began now
  pub runs : new.stopped ≡ false
  pub many : corrected ≡ length (wrong_of old)
  pub map : new.map ≡ corrected_map (wrong_of old) old.map
  pub end : old.map_log.end ≤ new.map_log.end
  pub due : (uid : ℕ) → due_at uid new ≡ due_at uid old
  pub settled : (lists : Lists) → IsSettledFor lists before → IsSettledFor lists after
  pub mail : KeepsMail before after
  pub unfailed : now ≡ began

-- A change of the disk failed, and the store is stopped.
pub record FellCorrecting {D : Type 0} (old new : StoreValue D) (before after : Option History) (began now : Faults) : Type 0 where
  pub keeps : KeepsCorrecting old new before after began now
  pub stopped : new.stopped ≡ true
  pub map : new.map ≡ old.map
  pub dues : new.dues ≡ old.dues
  pub rose : Rose began.changes now.changes

abbrev pub Corrects : {D : Type 0} → Result ℕ StepError → StoreValue D → StoreValue D → Option History → Option History → Faults → Faults → Type 0
Corrects (Ok corrected) old new before after began now = PutsRight corrected old new before after began now
Corrects (Err step_error.NoMemory) old new before after began now = new ≡ old
Corrects (Err step_error.Stopped) old new before after began now = FellCorrecting old new before after began now
