-- What the readings of the root log and of the map log answer.
use Rattle.std.specs.Prelude.{◌≡◌, ℕ, List, [], ◌∷◌, ◌++◌, map, take, drop, Option, Some, ⊤}
use Rattle.disk_model.specs.Disk.{Files, History, IfTold, reading}
use Rattle.disk_model.specs.declared.name.FileName.TheVariants as file
use Rattle.model_logs.specs.declared.log_head.LogHead.{LogHead}
use Rattle.model_logs.specs.declared.log_head.LogKind.TheVariants as kind
use Rattle.mdbox_base.specs.declared.entries.MapEntry.{MapEntry}
use Rattle.mdbox_base.specs.declared.entries.RootEntry.{RootEntry}
use Rattle.mdbox_base.specs.declared.entries.RootEntry.TheVariants as root
use Rattle.model_meaning.specs.MapMeaning.{MapMeaning, map_meaning}
use Rattle.mdbox_base.specs.Words.{IsNumber}
use Rattle.model_logs.specs.Entries.{root_text, map_text}
use Rattle.model_store.specs.Settled.{files_of}
use Rattle.model_store.specs.Stands.{head_of, HasLog, HasRoot}
use Rattle.model_store.specs.Opening.{HasNoEntry, AreMapEntries, IsBadRoot, IsBadMapLog}
use Rattle.gate_log.specs.State.{InspectedLog}
use Rattle.store_checks.specs.Boxes.{IsFoundAs}
use Rattle.store_checks.specs.declared.error.CheckError.{CheckError}
use Rattle.store_checks.specs.declared.error.CheckError.TheVariants as check

-- ---- the root log

-- the root log has an entry, and this is the id in its head
pub record HasId (store : List ℕ) (files : Files) : Type 0 where
  pub octets : List ℕ
  pub there : files file.Root ≡ Some octets
  pub has_entry : HasNoEntry (Some octets) → ⊥
  pub id_is : store ≡ take 8 (drop 8 octets)

-- the head and the texts of a root log whose last entry names this generation
abbrev pub root_log_head : List ℕ → LogHead
root_log_head store = head_of store kind.Root 0 0

abbrev pub root_texts : List RootEntry → ℕ → List (List ℕ)
root_texts before generation = map root_text (before ++ root.M generation ∷ [])

-- The root log was read: its last entry, behind these, names this generation, and it stands as it was found.
pub record IsRootRead (store : List ℕ) (generation : ℕ) (found : InspectedLog) (before : List RootEntry) (old new : Option History) : Type 0 where
  pub root : IfTold old (λ disk. HasRoot (files_of disk) store generation)
  pub log : IsFoundAs found file.Root (root_log_head store) (root_texts before generation) new

-- why the root log wasn't read
abbrev pub IsRootCause : Option History → CheckError → Type 0
IsRootCause old (check.Damaged name place) = (name ≡ file.Root) × IfTold old (λ disk. IsBadRoot (files_of disk) place)
IsRootCause old check.NoStore = IfTold old (λ disk. HasNoEntry (reading (disk file.Root)))
IsRootCause old check.DiskFault = ⊤
IsRootCause old check.NoMemory = ⊤

-- ---- the map log

abbrev pub map_log_head : List ℕ → ℕ → LogHead
map_log_head store generation = head_of store kind.Map 0 generation

-- The map log was read: it has these entries, which fit, the index is what they mean, and it stands as it was found.
pub record IsMapRead (store : List ℕ) (generation : ℕ) (map_log : InspectedLog) (m : MapMeaning) (entries : List MapEntry) (old new : Option History) : Type 0 where
  pub number : IsNumber generation
  pub good : AreMapEntries store entries
  pub meaning : m ≡ map_meaning store entries
  pub log : IfTold old (λ disk. HasLog (files_of disk) (file.Map generation) (map_log_head store generation) (map map_text entries))
  pub found : IsFoundAs map_log (file.Map generation) (map_log_head store generation) (map map_text entries) new

-- why the map log wasn't read
abbrev pub IsMapCause : List ℕ → ℕ → Option History → CheckError → Type 0
IsMapCause store generation old (check.Damaged name place) = (name ≡ file.Map generation) × IfTold old (λ disk. IsBadMapLog store generation (reading (disk (file.Map generation))) place)
IsMapCause store generation old check.NoStore = ⊥
IsMapCause store generation old check.DiskFault = ⊤
IsMapCause store generation old check.NoMemory = ⊤
