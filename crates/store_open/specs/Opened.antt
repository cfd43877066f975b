-- What the opening of a store answers, and what it leaves.
use Rattle.std.specs.Prelude.{◌≡◌, ℕ, false, List, length, map, All, Option, Some, Result, Ok, Err, ⊤}
use Rattle.std.specs.List.{AllZip}
use Rattle.box_snapshot.specs.Due.{is_log_due, needs_of_box, needs_of_map}
use Rattle.disk_model.specs.Disk.{DiskState, History, Between, IfTold, reading}
use Rattle.disk_model.specs.declared.name.FileName.TheVariants as file
use Rattle.mdbox_base.specs.declared.entries.BoxEntry.{BoxEntry}
use Rattle.mdbox_base.specs.declared.entries.MapEntry.{MapEntry}
use Rattle.gate_log.specs.Log.{log_text}
use Rattle.model_kept.specs.Kept.{MailIsKept}
use Rattle.model_logs.specs.declared.log_head.LogHead.{LogHead}
use Rattle.model_logs.specs.LogFile.{HeadFits, EntryFits}
use Rattle.model_meaning.specs.BoxMeaning.{BoxMeaning, box_meaning}
use Rattle.model_meaning.specs.MapMeaning.{MapBox, MapMeaning, map_meaning}
use Rattle.model_meaning.specs.SameMeaning.{MeansSame}
use Rattle.model_rewritten.specs.CarriedStore.{CarriesStore}
use Rattle.model_store.specs.Carrying.{CarryOver}
use Rattle.model_store.specs.Settled.{files_of}
use Rattle.model_store.specs.GoodLogs.{AreGoodLogs}
use Rattle.model_store.specs.Opening.{HasNoEntry, Opens, IsDamaged}
use Rattle.store_core.specs.Value.{StoreValue}
use Rattle.store_sweep.specs.Wanted.{HasNothingToSweep}
use Rattle.store_open.specs.declared.error.OpenError.{OpenError}
use Rattle.store_open.specs.declared.error.OpenError.TheVariants.{NoStore, StoreWhole, MailFiles, Damaged, DiskFault, NoMemory}
use Rattle.store_open.specs.declared.error.OpenRefused.{OpenRefused}

-- the files open
abbrev pub Opening : DiskState → Type 0
Opening now = (store : List ℕ) × (entries : List MapEntry) × (logs : List (List BoxEntry)) × Opens (files_of now) store entries logs

-- The files opened with these entries of the map log and these logs of mailboxes, which are good, and the indexes are what
-- they mean, but for the generations of mailbox logs.
pub record IsOpenedAs (old : Option History) (m : MapMeaning) (meanings : List BoxMeaning) : Type 0 where
  pub entries : List MapEntry
  pub logs : List (List BoxEntry)
  pub good : AreGoodLogs m.store entries logs
  pub opens : IfTold old (λ now. Opens (files_of now) m.store entries logs)
  pub means : MeansSame (map_meaning m.store entries) m
  pub meanings_are : meanings ≡ map box_meaning logs

-- the log of a mailbox with these entries isn't due to be written anew
abbrev pub IsBoxUndue : MapBox → List BoxEntry → Type 0
IsBoxUndue box log = is_log_due (length log) (needs_of_box (box_meaning log)) box.generation ≡ false

-- Neither the map log of this generation, whose entries mean this, nor the log of a mailbox is due to be written anew.
pub record AreUndue (generation : ℕ) (m : MapMeaning) (entries : List MapEntry) (logs : List (List BoxEntry)) : Type 0 where
  pub map_log : is_log_due (length entries) (needs_of_map m) generation ≡ false
  pub boxes : AllZip IsBoxUndue m.boxes logs

-- No log of the store with which the files open, if they do, is due to be written anew.
abbrev pub HasNoLogDue : DiskState → Type 0
HasNoLogDue disk = (store : List ℕ) (entries : List MapEntry) (logs : List (List BoxEntry)) (o : Opens (files_of disk) store entries logs) → AreUndue o.passed.map_log.generation (map_meaning store entries) entries logs

-- Whatever store the files open with, they carry over all that it reads: each log has the same entries.
abbrev pub CarriesAll : DiskState → DiskState → Type 0
CarriesAll old new = (store : List ℕ) (entries : List MapEntry) (logs : List (List BoxEntry)) (o : Opens (files_of old) store entries logs) → CarryOver o.passed.map_log.generation (map_meaning store entries) (files_of old) (files_of new)

-- Whatever store the files open with, they open again, with logs that mean the same but for generations, and with the same mail.
-- Where no log was due to be written anew, they carry over all that the store reads.
pub record CarriesOpened (old new : DiskState) : Type 0 where
  pub again : (store : List ℕ) (entries : List MapEntry) (logs : List (List BoxEntry)) → Opens (files_of old) store entries logs → CarriesStore store entries logs (files_of old) (files_of new)
  pub undue : HasNoLogDue old → CarriesAll old new

abbrev pub StoreCarries : Option History → Option History → Type 0
StoreCarries = Between CarriesOpened

-- Whatever store the files open with, its storage files and instances stay at each moment.
abbrev pub KeepsOpenedMail : Option History → Option History → Type 0
KeepsOpenedMail old new = (store : List ℕ) (entries : List MapEntry) (logs : List (List BoxEntry)) → IfTold old (λ was. Opens (files_of was) store entries logs) → MailIsKept (map_meaning store entries) old new

-- a log of some entries, which ends in a closed gate
pub record IsClosedLog (octets : Option (List ℕ)) : Type 0 where
  pub head : LogHead
  pub entries : List (List ℕ)
  pub head_fits : HeadFits head
  pub entries_fit : All EntryFits entries
  pub is : octets ≡ Some (log_text head entries)

-- The files open, each log in force ends in a closed gate and isn't due to be written anew, and beside the logs nothing is to be
-- swept.
pub record IsClosedWell (disk : DiskState) : Type 0 where
  pub store : List ℕ
  pub entries : List MapEntry
  pub logs : List (List BoxEntry)
  pub opens : Opens (files_of disk) store entries logs
  pub root_log : IsClosedLog (reading (disk file.Root))
  pub map_log : IsClosedLog (reading (disk (file.Map opens.passed.map_log.generation)))
  pub box_logs : All (λ box. IsClosedLog (reading (disk (file.Box box.number box.generation)))) (map_meaning store entries).boxes
  pub undue : HasNoLogDue disk
  pub nothing : HasNothingToSweep opens.passed.map_log.generation (map_meaning store entries) disk

-- Why a store was not opened: its root log has no entry; or its files are damaged, and this is the place; or the device
-- failed, or there was no memory.
abbrev pub IsOpeningError : Option History → OpenError → Type 0
IsOpeningError old NoStore = IfTold old (λ disk. HasNoEntry (reading (disk file.Root)))
IsOpeningError old (Damaged name place) = IfTold old (λ disk. IsDamaged (files_of disk) name place)
IsOpeningError old DiskFault = ⊤
IsOpeningError old NoMemory = ⊤
IsOpeningError old StoreWhole = ⊥
IsOpeningError old MailFiles = ⊥

-- the disk of an answer
abbrev pub disk_of : {D : Type 0} → Result (StoreValue D) (OpenRefused D) → D
disk_of (Ok store) = store.disk
disk_of (Err refused) = refused.disk

-- the answer is a fault of the device
abbrev pub IsFaulted : {D : Type 0} → Result (StoreValue D) (OpenRefused D) → Type 0
IsFaulted (Ok store) = ⊥
IsFaulted (Err refused) = refused.error ≡ DiskFault
