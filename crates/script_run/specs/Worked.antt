-- What the lanes of a script did, whatever the disk.
use Rattle.std.specs.Prelude.{◌≡◌, ℕ, false, List, Option}
use Rattle.box_snapshot.specs.Due.{NoLogDue}
use Rattle.disk_model.specs.Disk.{Faults, History}
use Rattle.mdbox_base.specs.declared.replies.Reply.{Reply}
use Rattle.mdbox_base.specs.declared.script.JournalEntry.{JournalEntry}
use Rattle.journal.specs.Journal.{Requests}
use Rattle.lanes.specs.Turned.{GoesOnInOrder, untraced}
use Rattle.lanes.specs.Worlds.{ArePartsOf, IsFreshWorld, PartsValue, WorldValue}
use Rattle.store_core.specs.Running.{IsStore}
use Rattle.store_core.specs.StoreInstances.{HasKnownInstances}
use Rattle.store_core.specs.Value.{StoreValue, indexes_of}
use Rattle.store_files.specs.Found.{IsFoundFiles}
use Rattle.store_open.specs.Opened.{IsOpenedAs, StoreCarries}
use Rattle.store_sweep.specs.Swept.{IsSwept}
use Rattle.script_run.specs.Opening.{StaysSettled}

-- The store was opened, with logs, storage files and instances that the files have, isn't stopped, and has no log that is due to be
-- written anew; the opening swept the disk and left a disk settled that was so, and the store opens again with logs that mean the same and
-- the same mail, with all that it read where no log was due. A world of the script's requests, of so many lanes, began over it, and went on
-- by events of its lanes, in whatever order: each is a step of its request's task, from the store as it was then. The replies and the
-- journal are those that the world had at its end, and its store is one of the disk.
pub record IsWorkedOut (D : Type 0) (script : Requests) (lanes : ℕ) (replies : List (Option Reply)) (entries : List JournalEntry) (old new : Option History) (began now : Faults) : Type 0 where
  pub opened : Option History
  pub store : StoreValue D
  pub opens : IsOpenedAs old store.map (indexes_of store.boxes)
  pub swept : (generation : ℕ) × IsSwept generation store.map old opened
  pub carried : StoreCarries old opened
  pub settled_again : StaysSettled old opened
  pub found : IsFoundFiles store.map old store.files
  pub drawn : store.drawn ≡ store.map.highest
  pub sound : IsStore opened store
  pub known : HasKnownInstances opened store
  pub running : store.stopped ≡ false
  pub undue : NoLogDue store
  pub parts : PartsValue
  pub are : ArePartsOf script lanes parts
  pub fresh : WorldValue D
  pub begins : IsFreshWorld store parts opened fresh
  pub last : WorldValue D
  pub turns : List ℕ
  pub goes : GoesOnInOrder turns (untraced fresh) (untraced last) opened new began now
  pub later : IsStore new last.store
  pub later_known : HasKnownInstances new last.store
  pub replies_are : replies ≡ last.replies
  pub entries_are : entries ≡ last.journal
