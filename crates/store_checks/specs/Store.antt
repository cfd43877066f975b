-- What the checks of a store answer.
use Rattle.std.specs.Prelude.{◌≡◌, ℕ, List, map, Option, codes, ⊤}
use Rattle.disk_model.specs.Disk.{History, IfTold, reading}
use Rattle.disk_model.specs.declared.name.FileName.TheVariants as file
use Rattle.mdbox_base.specs.declared.entries.BoxEntry.{BoxEntry}
use Rattle.mdbox_base.specs.declared.entries.MapEntry.{MapEntry}
use Rattle.mdbox_base.specs.declared.entries.RootEntry.{RootEntry}
use Rattle.model_meaning.specs.BoxMeaning.{box_meaning}
use Rattle.model_meaning.specs.MapMeaning.{map_meaning}
use Rattle.model_logs.specs.Entries.{map_text}
use Rattle.model_store.specs.GoodLogs.{AreGoodLogs}
use Rattle.model_store.specs.Settled.{files_of}
use Rattle.model_store.specs.Opening.{HasNoEntry, Opens, IsDamaged}
use Rattle.store_checks.specs.Boxes.{IsFoundAs, AreFound}
use Rattle.store_checks.specs.Roots.{root_log_head, root_texts, map_log_head}
use Rattle.store_checks.specs.declared.check.Checked.{Checked}
use Rattle.store_checks.specs.declared.error.CheckError.{CheckError}
use Rattle.store_checks.specs.declared.error.CheckError.TheVariants as check

-- The store opens with these entries of its map log and these logs of its mailboxes, which are good on every disk, the
-- indexes are what they mean, and each log stands as it was found, the root log with these entries before its last.
pub record IsChecked (c : Checked) (before : List RootEntry) (entries : List MapEntry) (logs : List (List BoxEntry)) (old new : Option History) : Type 0 where
  pub opens : IfTold old (λ disk. Opens (files_of disk) c.id.0 entries logs)
  pub good : AreGoodLogs c.id.0 entries logs
  pub map_is : c.map.meaning ≡ map_meaning c.id.0 entries
  pub boxes_are : map (λ b. b.index.meaning) c.boxes ≡ map box_meaning logs
  pub root_log : IsFoundAs c.root_log file.Root (root_log_head c.id.0) (root_texts before c.generation) new
  pub map_log : IsFoundAs c.map_log (file.Map c.generation) (map_log_head c.id.0 c.generation) (map map_text entries) new
  pub box_logs : AreFound c.id.0 c.map.meaning.boxes c.boxes logs new

-- Why a store doesn't pass.
abbrev pub IsCheckCause : Option History → CheckError → Type 0
IsCheckCause old check.NoStore = IfTold old (λ disk. HasNoEntry (reading (disk file.Root)))
IsCheckCause old (check.Damaged name place) = IfTold old (λ disk. IsDamaged (files_of disk) name place)
IsCheckCause old check.DiskFault = ⊤
IsCheckCause old check.NoMemory = ⊤

-- what an error says when it is printed
abbrev pub check_error_text : CheckError → List ℕ
check_error_text check.NoStore = codes "no store"
check_error_text (check.Damaged name place) = codes "store damaged"
check_error_text check.DiskFault = codes "disk fault"
check_error_text check.NoMemory = codes "out of memory"
