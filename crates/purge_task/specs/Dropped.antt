-- What a purge makes of the map.
use Rattle.std.specs.Prelude.{◌≡◌, ◌≢◌, ◌+◌, ◌⊎◌, ℕ, true, false, length, Contains}
use Rattle.journal.specs.QuietPurge.{apart_from_place}
use Rattle.mdbox_base.specs.declared.progress.Progress.{Progress}
use Rattle.mdbox_base.specs.declared.progress.Progress.TheVariants as progress
use Rattle.mdbox_base.specs.declared.replies.Reply.TheVariants as reply
use Rattle.model_meaning.specs.MapMeaning.{MapMeaning, MapRecord, is_sealed}
use Rattle.store_core.specs.Value.{StoreValue}
use Rattle.purge_task.specs.Keeping.{PurgeValue}
use Rattle.purge_task.specs.declared.task.PurgeStage.{PurgeStage}
use Rattle.purge_task.specs.declared.task.PurgeStage.TheVariants as stage

-- Mailboxes and seals stay. Each record that stays keeps all but its place, and one of a sealed file its place too. Each that went had
-- count 0, in a file that isn't sealed; and so many went.
pub record DropsUnwanted (old new : MapMeaning) (dropped : ℕ) : Type 0 where
  pub boxes : new.boxes ≡ old.boxes
  pub seals : new.sealed ≡ old.sealed
  pub stay : (row : MapRecord) → Contains new.records row → (was : MapRecord) × Contains old.records was × (apart_from_place row ≡ apart_from_place was)
  pub went : (row : MapRecord) → Contains old.records row → ((now : MapRecord) × Contains new.records now × (apart_from_place now ≡ apart_from_place row)) ⊎ ((row.count ≡ 0) × (is_sealed old row.file ≡ false))
  pub places : (row : MapRecord) → Contains old.records row → is_sealed old row.file ≡ true → Contains new.records row
  pub dropped_are : length old.records ≡ length new.records + dropped

-- An event at this stage drops as many records as it counts. The first one drops none, and counts anew.
abbrev pub DropsFrom : PurgeStage → ℕ → ℕ → MapMeaning → MapMeaning → Type 0
DropsFrom stage.First before after old new = (new ≡ old) × (after ≡ 0)
DropsFrom other before after old new = (dropped : ℕ) × (after ≡ before + dropped) × DropsUnwanted old new dropped

-- So does an event that doesn't stop the store.
abbrev pub DropsCounted : {D : Type 0} → PurgeValue → PurgeValue → StoreValue D → StoreValue D → Type 0
DropsCounted t next old new = new.stopped ≡ false → DropsFrom t.stage t.dropped next.dropped old.map new.map

-- the task has counted so much
abbrev pub HasNumbers : ℕ → ℕ → ℕ → PurgeValue → Type 0
HasNumbers dropped files instances t = (dropped ≡ t.dropped) × (files ≡ t.files) × (instances ≡ t.instances)

-- A reply that has numbers has these, and the task has counted so much. A purge that goes on has begun.
abbrev pub TellsNumbers : ℕ → ℕ → ℕ → PurgeValue → Progress → Type 0
TellsNumbers records files instances next (progress.Done (reply.Purged dropped emptied removed)) = ((dropped ≡ records) × (emptied ≡ files) × (removed ≡ instances)) × HasNumbers dropped emptied removed next
TellsNumbers records files instances next progress.More = next.stage ≢ stage.First
TellsNumbers records files instances next answer = Unit {0}

-- They are those that the task has counted before the event.
abbrev pub TellsCounts : PurgeValue → PurgeValue → Progress → Type 0
TellsCounts t next answer = TellsNumbers t.dropped t.files t.instances next answer
