-- Why the id of a store wasn't read.
use Rattle.std.specs.Prelude.{Option, ⊤}
use Rattle.disk_model.specs.Disk.{History, IfTold, reading}
use Rattle.disk_model.specs.declared.name.FileName.TheVariants as file
use Rattle.model_store.specs.Opening.{HasNoEntry}
use Rattle.store_checks.specs.declared.error.CheckError.{CheckError}
use Rattle.store_checks.specs.declared.error.CheckError.TheVariants as check

abbrev pub IsIdCause : Option History → CheckError → Type 0
IsIdCause old (check.Damaged name place) = ⊥
IsIdCause old check.NoStore = IfTold old (λ disk. HasNoEntry (reading (disk file.Root)))
IsIdCause old check.DiskFault = ⊤
IsIdCause old check.NoMemory = ⊤
