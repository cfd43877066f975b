-- Why a store was not rebuilt.
use Rattle.std.specs.Prelude.{ℕ, List, Option, codes, ⊤}
use Rattle.disk_model.specs.Disk.{Files, History, IfTold}
use Rattle.mdbox_base.specs.declared.entries.BoxEntry.{BoxEntry}
use Rattle.mdbox_base.specs.declared.entries.MapEntry.{MapEntry}
use Rattle.model_store.specs.Opening.{Opens}
use Rattle.model_store.specs.Settled.{files_of}
use Rattle.rebuild_files.specs.declared.error.RebuildError.{RebuildError}
use Rattle.rebuild_files.specs.declared.error.RebuildError.TheVariants as rebuild

-- The store is whole: its files pass all checks of an opening, with some id, some entries of its map log and some logs of its
-- mailboxes.
abbrev pub IsStoreWhole : Files → Type 0
IsStoreWhole files = (store : List ℕ) × (entries : List MapEntry) × (logs : List (List BoxEntry)) × Opens files store entries logs

-- Why a disk isn't rebuilt before anything of it is read: the store is whole, or the device failed, or there was no memory.
abbrev pub IsNotLost : Option History → RebuildError → Type 0
IsNotLost old rebuild.StoreWhole = IfTold old (λ disk. IsStoreWhole (files_of disk))
IsNotLost old rebuild.DiskFault = ⊤
IsNotLost old rebuild.NoMemory = ⊤

-- what an error says when it is printed
abbrev pub rebuild_error_text : RebuildError → List ℕ
rebuild_error_text rebuild.StoreWhole = codes "the store opens as it is"
rebuild_error_text rebuild.DiskFault = codes "disk fault"
rebuild_error_text rebuild.NoMemory = codes "out of memory"
