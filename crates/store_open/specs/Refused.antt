-- Why a store was not made.
use Rattle.std.specs.Prelude.{◌≡◌, ◌⊎◌, ℕ, List, Option, codes, ⊤}
use Rattle.disk_model.specs.Disk.{History, IfTold, reading}
use Rattle.disk_model.specs.declared.name.FileName.TheVariants as file
use Rattle.model_store.specs.Opening.{HasNoEntry}
use Rattle.store_open.specs.Making.{HasMailFile}
use Rattle.store_open.specs.declared.error.OpenError.{OpenError}
use Rattle.store_open.specs.declared.error.OpenError.TheVariants.{NoStore, StoreWhole, MailFiles, Damaged, DiskFault, NoMemory}

-- Why a store was not made: the root log has an entry; or it has none, and a storage file or an instance is there; or the
-- device failed, or there was no memory.
abbrev pub IsMakingError : Option History → OpenError → Type 0
IsMakingError old StoreWhole = IfTold old (λ disk. HasNoEntry (reading (disk file.Root)) → ⊥)
IsMakingError old MailFiles = IfTold old (λ disk. HasNoEntry (reading (disk file.Root)) × HasMailFile disk)
IsMakingError old DiskFault = ⊤
IsMakingError old NoMemory = ⊤
IsMakingError old NoStore = ⊥
IsMakingError old (Damaged name place) = ⊥

-- a fault of the device, or lack of memory
abbrev pub IsFaultOrMemory : OpenError → Type 0
IsFaultOrMemory error = (error ≡ DiskFault) ⊎ (error ≡ NoMemory)

-- a refusal because of what the disk has
abbrev pub IsOfFiles : OpenError → Type 0
IsOfFiles error = (error ≡ StoreWhole) ⊎ (error ≡ MailFiles)

-- what an error says when it is printed
abbrev pub open_error_text : OpenError → List ℕ
open_error_text NoStore = codes "no store"
open_error_text StoreWhole = codes "there is a store already"
open_error_text MailFiles = codes "mail files without a store"
open_error_text (Damaged name place) = codes "store damaged"
open_error_text DiskFault = codes "disk fault"
open_error_text NoMemory = codes "out of memory"
