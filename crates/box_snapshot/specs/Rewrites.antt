-- What a store and its disk are when logs were written anew.
use Rattle.std.specs.Prelude.{◌≡◌, ◌⊎◌, ◌+◌, ◌==◌, ℕ, false, length, map, find, if◌then◌else◌, Option, Some}
use Rattle.disk_model.specs.Disk.{DiskState, History, Between, EachImage, Grows, IfTold, IsThere, named, no_file}
use Rattle.disk_model.specs.Name.{IsLogName}
use Rattle.disk_model.specs.declared.name.FileName.{FileName}
use Rattle.disk_model.specs.declared.name.FileName.TheVariants as file
use Rattle.gate_log.specs.Log.{Reads}
use Rattle.gate_log.specs.State.{IsSameLog}
use Rattle.mdbox_base.specs.declared.entries.MapEntry.TheVariants as map_entry
use Rattle.model_kept.specs.Kept.{MailIsKept}
use Rattle.model_lists.specs.Lists.{Lists}
use Rattle.model_logs.specs.Entries.{box_text, map_text}
use Rattle.model_meaning.specs.MapMeaning.{MapMeaning, map_applied}
use Rattle.model_meaning.specs.SameMeaning.{MeansSame}
use Rattle.model_rewritten.specs.Rewriting.{box_snapshot, map_snapshot}
use Rattle.model_rewritten.specs.Unneeded.{IsUnneeded}
use Rattle.model_store.specs.Safe.{Safe}
use Rattle.model_store.specs.Settled.{IsSettledFor}
use Rattle.store_core.specs.Value.{StoreValue, indexes_of}
use Rattle.store_core.specs.declared.store.OpenBox.{OpenBox}

-- each storage file and each instance is as it was, but that its name may be synced
abbrev pub SyncsMailNames : DiskState → DiskState → Type 0
SyncsMailNames a b = (name : FileName) → (IsLogName name → ⊥) → (b name ≡ a name) ⊎ (b name ≡ named (a name))

-- each name is synced
abbrev pub AreNamesSynced : DiskState → Type 0
AreNamesSynced disk = (name : FileName) → (disk name).is_name_loose ≡ false

-- Logs were written anew: they mean what they did but for generations, and all else of the store is as it was. At every moment,
-- whichever call fails, each image of a settled disk is safe for its lists, and has of the storage files and instances what a crash
-- could leave of them. Unless the store is stopped, a settled disk is settled for the same lists, storage files and instances are as
-- they were, and each name is synced if anything was written.
pub record Rewrites {D : Type 0} (history : D → Option History) (old new : StoreValue D) : Type 0 where
  pub means : MeansSame old.map new.map
  pub indexes : indexes_of new.boxes ≡ indexes_of old.boxes
  pub same : new ≡ record old { disk = new.disk; root_log = new.root_log; map_log = new.map_log; map = new.map; boxes = new.boxes; stopped = new.stopped }
  pub any_moment : (lists : Lists) → IsSettledFor lists (history old.disk) → EachImage (λ _ image. Safe image lists) (history old.disk) (history new.disk)
  pub mail_stays : (m : MapMeaning) → MailIsKept m (history old.disk) (history new.disk)
  pub grows : Grows (history old.disk) (history new.disk)
  pub settled : new.stopped ≡ false → (lists : Lists) → IsSettledFor lists (history old.disk) → IsSettledFor lists (history new.disk)
  pub mail : new.stopped ≡ false → Between SyncsMailNames (history old.disk) (history new.disk)
  pub names : new.stopped ≡ false → (new ≡ old) ⊎ IfTold (history new.disk) AreNamesSynced

-- no log is there that the store doesn't need
abbrev pub OnlyLogsInForce : {D : Type 0} → StoreValue D → DiskState → Type 0
OnlyLogsInForce store disk = (name : FileName) → IsUnneeded store.map_log.head.generation store.map name → IsThere (disk name) → ⊥

-- Where no such log was there, none is.
abbrev pub LeavesNoOldLogs : {D : Type 0} → (D → Option History) → StoreValue D → StoreValue D → Type 0
LeavesNoOldLogs history old new = Between (λ a b. OnlyLogsInForce old a → OnlyLogsInForce new b) (history old.disk) (history new.disk)

-- The log of the mailbox with this number was written anew: it is of the next generation, it has an entry for each message and at
-- most one for the next UID, and it means the same. The map names it, and the old log is removed. Each other mailbox is as it was, and
-- the map log is of the same generation.
pub record IsBoxWritten {D : Type 0} (number : ℕ) (history : Option History) (old new : StoreValue D) : Type 0 where
  pub before : OpenBox
  pub now : OpenBox
  pub found : find (λ b. b.number.0 == number) old.boxes ≡ Some before
  pub boxes : new.boxes ≡ map (λ b. if b.number.0 == number then now else b) old.boxes
  pub number_is : now.number ≡ before.number
  pub generation : now.log.head.generation ≡ before.log.head.generation + 1
  pub means : now.index.meaning ≡ before.index.meaning
  pub count : now.log.count ≡ length (box_snapshot before.index.meaning)
  pub reads : Reads now.log (map box_text (box_snapshot before.index.meaning)) history
  pub map_log : IsSameLog old.map_log new.map_log
  pub mapped : new.map ≡ map_applied (map_entry.G now.number now.log.head.generation) old.map
  pub gone : IfTold history (λ disk. disk (file.Box number before.log.head.generation) ≡ no_file)

-- The log of the mailbox with this number was written anew, whatever became of the others.
pub record IsLogAnew {D : Type 0} (number : ℕ) (old new : StoreValue D) : Type 0 where
  pub before : OpenBox
  pub now : OpenBox
  pub found : find (λ b. b.number.0 == number) old.boxes ≡ Some before
  pub found_now : find (λ b. b.number.0 == number) new.boxes ≡ Some now
  pub generation : now.log.head.generation ≡ before.log.head.generation + 1
  pub means : now.index.meaning ≡ before.index.meaning
  pub count : now.log.count ≡ length (box_snapshot before.index.meaning)

-- each mailbox is as it was, or its log was written anew, once
abbrev pub WritesOnce : {D : Type 0} → StoreValue D → StoreValue D → Type 0
WritesOnce old new = (number : ℕ) → (find (λ b. b.number.0 == number) new.boxes ≡ find (λ b. b.number.0 == number) old.boxes) ⊎ IsLogAnew number old new

-- The map log was written anew: it is of the next generation, and has an entry for each mailbox, record and sealed file, and one for
-- the highest numbers. The old log is removed.
pub record IsMapWritten {D : Type 0} (history : Option History) (old new : StoreValue D) : Type 0 where
  pub generation : new.map_log.head.generation ≡ old.map_log.head.generation + 1
  pub count : new.map_log.count ≡ length (map_snapshot old.map)
  pub reads : Reads new.map_log (map map_text (map_snapshot old.map)) history
  pub gone : IfTold history (λ disk. disk old.map_log.name ≡ no_file)

-- The map log was written anew, whatever became of the others.
pub record IsMapAnew {D : Type 0} (old new : StoreValue D) : Type 0 where
  pub generation : new.map_log.head.generation ≡ old.map_log.head.generation + 1
  pub count : new.map_log.count ≡ length (map_snapshot new.map)
