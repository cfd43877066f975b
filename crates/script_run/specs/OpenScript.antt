-- A script that was opened: its store, and a world that began over it.
use Rattle.std.specs.Prelude.{◌≡◌, ◌≤◌, ℕ, false, Option}
use Rattle.box_snapshot.specs.Due.{NoLogDue}
use Rattle.disk_model.specs.Disk.{EachImage, Faults, History}
use Rattle.model_lists.specs.Lists.{Lists}
use Rattle.model_store.specs.Safe.{Safe}
use Rattle.model_store.specs.Settled.{IsSettledFor}
use Rattle.journal.specs.Journal.{Requests}
use Rattle.storage_files.specs.Files.{AreFilesInOrder}
use Rattle.store_core.specs.Running.{IsStore}
use Rattle.store_core.specs.StoreInstances.{HasKnownInstances}
use Rattle.store_core.specs.Value.{StoreValue, indexes_of, none_due}
use Rattle.store_files.specs.Found.{IsFoundFiles}
use Rattle.store_instances.specs.FoundInstances.{IsFoundInstances}
use Rattle.store_open.specs.Opened.{IsClosedWell, IsOpenedAs, KeepsOpenedMail, StoreCarries}
use Rattle.store_sweep.specs.Moments.{IdleIf}
use Rattle.store_sweep.specs.Swept.{IsSwept}
use Rattle.task_claims.specs.Claims.{HasNoTask}
use Rattle.lanes.specs.Worlds.{AreOfLanes, ArePartsOf, IsFreshWorld, PartsValue, WorldValue}
use Rattle.script_run.specs.Opening.{StaysSettled}

-- The store was opened, and isn't stopped: with logs, storage files and instances that the files have, and no number is drawn nor count due
-- that they don't have; none of its logs is due to be written anew. The opening swept the disk, and left a store that was closed well as
-- it was; the store opens again with logs that mean the same and the same mail, with all that it read where no log was due. Of a disk that
-- was settled for lists each crash image is safe for them, and it is settled for them again. At each moment storage files and instances
-- stayed.
pub record IsStoreOpened {D : Type 0} (old mid : Option History) (s : StoreValue D) : Type 0 where
  pub opened : IsOpenedAs old s.map (indexes_of s.boxes)
  pub store : IsStore mid s
  pub known : HasKnownInstances mid s
  pub drawn : s.drawn ≡ s.map.highest
  pub free : s.dues ≡ none_due s.map.records
  pub order : AreFilesInOrder s.files
  pub files : IsFoundFiles s.map old s.files
  pub instances : IsFoundInstances s.map s.instances
  pub running : s.stopped ≡ false
  pub undue : NoLogDue s
  pub safe : (lists : Lists) → IsSettledFor lists old → EachImage (λ _ image. Safe image lists) old mid
  pub settled_again : StaysSettled old mid
  pub carried : StoreCarries old mid
  pub swept : (generation : ℕ) × IsSwept generation s.map old mid
  pub stays : KeepsOpenedMail old mid
  pub closed_well : IdleIf IsClosedWell old mid

-- A store was opened so, no task claims anything of it, and no call of its disk failed. Over it the world began, with the requests of this
-- script in so many lanes, of which there are 64 at the most, and with nothing else.
pub record IsScriptOpened {D : Type 0} (history : D → Option History) (faults : D → Faults) (script : Requests) (lanes : ℕ) (old : Option History) (began : Faults) (world : WorldValue D) : Type 0 where
  pub store : StoreValue D
  pub opened : IsStoreOpened old (history store.disk) store
  pub unclaimed : HasNoTask store
  pub unfailed : faults store.disk ≡ began
  pub few : lanes ≤ 64
  pub of_lanes : AreOfLanes lanes script
  pub parts : PartsValue
  pub are : ArePartsOf script lanes parts
  pub begins : IsFreshWorld store parts (history store.disk) world
