-- The files of a store from which a script is served, and a store that wasn't opened.
use Rattle.std.specs.Prelude.{◌≡◌, ◌&&◌, ℕ, List, Option, Some, None, filter, not}
use Rattle.disk_model.specs.Disk.{History, Faults, EachImage, IfTold, IsIdle}
use Rattle.disk_model.specs.FaultCounts.{NoFault, AnyFaultCounted}
use Rattle.mdbox_base.specs.declared.entries.BoxEntry.{BoxEntry}
use Rattle.mdbox_base.specs.declared.entries.MapEntry.{MapEntry}
use Rattle.model_lists.specs.Lists.{AreWellFormed, Lists}
use Rattle.model_meaning.specs.BoxMeaning.{BoxMeaning}
use Rattle.model_meaning.specs.MapMeaning.{MapMeaning, is_sealed, map_meaning}
use Rattle.model_meaning.specs.SameMeaning.{MeansSame}
use Rattle.model_store.specs.Listing.{ShowLists}
use Rattle.model_store.specs.Opening.{Opens}
use Rattle.model_store.specs.Safe.{Safe}
use Rattle.model_store.specs.Settled.{files_of, IsSettledFor}
use Rattle.list_machine.specs.Run.{Run}
use Rattle.store_files.specs.Barred.{is_barred}
use Rattle.store_files.specs.Regions.{end_of, region_numbers}
use Rattle.store_open.specs.Making.{IdleUnless}
use Rattle.store_open.specs.Opened.{Opening, StoreCarries, IsOpeningError, KeepsOpenedMail, IsClosedWell, HasNoLogDue}
use Rattle.store_open.specs.declared.error.OpenError.{OpenError}
use Rattle.store_open.specs.declared.error.OpenError.TheVariants as error
use Rattle.store_sweep.specs.Moments.{NoFailedChange, IdleIf}

-- the disk is modelled, and its files are safe for these lists
abbrev pub AreSafeFor : Lists → Option History → Type 0
AreSafeFor lists None = ⊥
AreSafeFor lists (Some history) = Safe (files_of history.now) lists

-- Logs that mean this show the lists, which are well formed.
abbrev pub LogsShowLists : MapMeaning → List BoxMeaning → Lists → Type 0
LogsShowLists m meanings lists = AreWellFormed lists × ShowLists m.boxes meanings lists

-- the storage files, of those that aren't sealed and that records name, to which nothing may be appended until the next opening
abbrev pub barred_files : MapMeaning → List ℕ
barred_files m = filter (λ number. not (is_sealed m number) && is_barred m number (end_of m number)) (region_numbers m)

-- The files opened, and their map log means the same as the entries with which the run begins, by which the same storage files
-- are barred.
abbrev pub RunBegins : Run → Option History → Type 0
RunBegins run old = (run.barred ≡ barred_files (map_meaning run.store run.start)) × IfTold old (λ disk. (entries : List MapEntry) × (logs : List (List BoxEntry)) × Opens (files_of disk) run.store entries logs × MeansSame (map_meaning run.store entries) (map_meaning run.store run.start))

-- The entries with which the run begins mean this.
abbrev pub BeginsAs : MapMeaning → Run → Type 0
BeginsAs m run = map_meaning run.store run.start ≡ m

-- The files open, and their map log means the same as this.
abbrev pub RunHasCome : Run → MapMeaning → Option History → Type 0
RunHasCome run m new = IfTold new (λ disk. (entries : List MapEntry) × (logs : List (List BoxEntry)) × Opens (files_of disk) run.store entries logs × MeansSame (map_meaning run.store entries) m)

-- A disk that was settled for lists is settled for them again.
abbrev pub StaysSettled : Option History → Option History → Type 0
StaysSettled old new = (lists : Lists) → IsSettledFor lists old → IsSettledFor lists new

-- The store was not opened. Each crash image of a settled disk is safe for its lists, and so are its files as they read in the end,
-- also after a change that failed; unless one did, it is settled for them again, and the store opens again with logs that mean the same
-- and the same mail, with all that was read where no log was due to be written anew. At each moment storage files and instances stayed.
-- A store that was closed well was left as it is, and so was every disk unless the device failed, or there was no memory and a log was due.
pub record IsUnopened (why : OpenError) (old new : Option History) (began now : Faults) : Type 0 where
  pub cause : IsOpeningError old why
  pub idle : (why ≡ error.DiskFault → ⊥) → (why ≡ error.NoMemory → ⊥) → IsIdle old new
  pub memory : why ≡ error.NoMemory → IdleIf HasNoLogDue old new
  pub untouched : IdleUnless Opening old new
  pub stays : KeepsOpenedMail old new
  pub closed_well : IdleIf IsClosedWell old new
  pub moments : (lists : Lists) → IsSettledFor lists old → EachImage (λ _ image. Safe image lists) old new
  pub safe : (lists : Lists) → IsSettledFor lists old → AreSafeFor lists new
  pub settled_again : NoFailedChange (why ≡ error.DiskFault) began now → StaysSettled old new
  pub carried : NoFailedChange (why ≡ error.DiskFault) began now → StoreCarries old new
  pub fault : AnyFaultCounted (why ≡ error.DiskFault) began now
  pub unfailed : (why ≡ error.DiskFault → ⊥) → NoFault began now
