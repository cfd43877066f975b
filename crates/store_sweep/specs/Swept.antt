-- What a sweep begins with, and what it leaves.
use Rattle.std.specs.Prelude.{◌≡◌, ℕ, true, false, List, length, Option}
use Rattle.disk_model.specs.Disk.{DiskState, History, Between, IfTold, IsThere}
use Rattle.disk_model.specs.declared.name.FileName.{FileName}
use Rattle.disk_model.specs.declared.name.FileName.TheVariants as file
use Rattle.mdbox_base.specs.declared.entries.MapEntry.{MapEntry}
use Rattle.mdbox_base.specs.declared.entries.BoxEntry.{BoxEntry}
use Rattle.model_lists.specs.Lists.{Lists}
use Rattle.model_meaning.specs.MapMeaning.{MapMeaning, map_meaning, is_sealed}
use Rattle.model_rewritten.specs.CarriedStore.{CarriesMail}
use Rattle.model_store.specs.Settled.{files_of, IsSettled}
use Rattle.model_store.specs.Carrying.{CarryOver}
use Rattle.model_store.specs.Opening.{Opens}
use Rattle.gate_log.specs.State.{LogState, InspectedLog}
use Rattle.gate_log.specs.Log.{IsFound, Reads, Holds}
use Rattle.store_sweep.specs.Repaired.{repaired_log}
use Rattle.store_sweep.specs.Moments.{KeepsWanted, AreFitted, NamesSynced}
use Rattle.store_files.specs.Regions.{end_of}
use Rattle.store_sweep.specs.Wanted.{is_wanted}

-- The files pass all checks, and the map log in force has this generation and means this.
pub record OpensWith (generation : ℕ) (m : MapMeaning) (disk : DiskState) : Type 0 where
  pub store : List ℕ
  pub entries : List MapEntry
  pub logs : List (List BoxEntry)
  pub opens : Opens (files_of disk) store entries logs
  pub generation_is : opens.passed.map_log.generation ≡ generation
  pub map_is : m ≡ map_meaning store entries

-- the files carry over what the store reads
abbrev pub FilesCarry : ℕ → MapMeaning → Option History → Option History → Type 0
FilesCarry generation m = Between (λ old new. CarryOver generation m (files_of old) (files_of new))

-- The log that was found is this one afterwards, with the entries that it had, and held where the disk was settled.
pub record IsOpened (old new : Option History) (found : InspectedLog) (log : LogState) : Type 0 where
  pub is : log ≡ repaired_log found
  pub reads : (entries : List (List ℕ)) → IfTold old (IsFound found entries) → Reads log entries new
  pub holds : (lists : Lists) (entries : List (List ℕ)) → IfTold old (λ disk. IsSettled disk lists) → IfTold old (IsFound found entries) → Holds log entries new

-- each storage file that isn't sealed ends where its last region does
abbrev pub EndWithRegions : MapMeaning → DiskState → Type 0
EndWithRegions m disk = (number : ℕ) → IsThere (disk (file.Mail number)) → is_sealed m number ≡ false → length (disk (file.Mail number)).octets ≡ end_of m number

-- What a sweep leaves of a disk whose map log of this generation means this: each record's region and each named instance read as
-- before. No file is there that the store doesn't need, and each file that it needs or that is sealed is there if it was. Each storage
-- file has the content that it had, or, where it isn't sealed, was cut to where its last region ends and synced; one that
-- isn't sealed ends there. Names are synced where a file was removed.
pub record IsSwept (generation : ℕ) (m : MapMeaning) (old new : Option History) : Type 0 where
  pub reads : Between (λ was now. CarriesMail m (files_of was) (files_of now)) old new
  pub only : IfTold new (λ now. (name : FileName) → IsThere (now name) → is_wanted generation m name ≡ true)
  pub kept : KeepsWanted generation m old new
  pub mail : AreFitted m old new
  pub ends : IfTold new (EndWithRegions m)
  pub names : NamesSynced generation m old new
