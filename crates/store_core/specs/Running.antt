-- What is true of every open store.
use Rattle.std.specs.Prelude.{◌≡◌, ◌≤◌, ◌+◌, ℕ, false, List, [], ◌∷◌, map, Option, All}
use Rattle.disk_model.specs.Disk.{History, IfTold}
use Rattle.disk_model.specs.declared.name.FileName.TheVariants as file
use Rattle.model_logs.specs.declared.log_head.LogKind.TheVariants as kind
use Rattle.mdbox_base.specs.declared.entries.Highest.{Highest}
use Rattle.mdbox_base.specs.declared.entries.MapEntry.{MapEntry}
use Rattle.mdbox_base.specs.declared.entries.BoxEntry.{BoxEntry}
use Rattle.model_meaning.specs.BoxMeaning.{box_meaning}
use Rattle.model_meaning.specs.MapMeaning.{MapRecord, MapBox, map_meaning}
use Rattle.model_logs.specs.Entries.{map_text, box_text}
use Rattle.model_store.specs.Stands.{head_of, HasRoot}
use Rattle.model_store.specs.Settled.{files_of}
use Rattle.model_store.specs.Opening.{Opens, listed_of}
use Rattle.model_store.specs.GoodLogs.{AreGoodLogs}
use Rattle.gate_log.specs.Log.{Reads}
use Rattle.storage_files.specs.OnDisk.{IsAsKnown}
use Rattle.store_core.specs.Files.{AreFilesKept, StayThere}
use Rattle.store_core.specs.Value.{StoreValue, indexes_of, entry_room}
use Rattle.store_core.specs.declared.store.OpenBox.{OpenBox}

-- ---- the logs

-- the mailboxes of the map, one by one, have these numbers and logs, under their names and with their heads
abbrev pub AreBoxLogs : List ℕ → List MapBox → List OpenBox → Type 0
AreBoxLogs store [] [] = Unit {0}
AreBoxLogs store (mailbox ∷ mailboxes) (open_box ∷ boxes) =
    (open_box.number.0 ≡ mailbox.number) × (open_box.log.name ≡ file.Box mailbox.number mailbox.generation) × (open_box.log.head ≡ head_of store kind.Box mailbox.number mailbox.generation) × AreBoxLogs store mailboxes boxes
AreBoxLogs store mailboxes boxes = ⊥

-- the disk reads the logs of the mailboxes, each with its entries
abbrev pub ReadBoxLogs : Option History → List OpenBox → List (List BoxEntry) → Type 0
ReadBoxLogs history [] [] = Unit {0}
ReadBoxLogs history (open_box ∷ boxes) (entries ∷ logs) = Reads open_box.log (map box_text entries) history × ReadBoxLogs history boxes logs
ReadBoxLogs history boxes logs = ⊥

-- The disk opens with these entries, under a root log that names this generation, and reads each log, which ends with a
-- closed gate. It has each storage file as it is known.
pub record IsRunning {D : Type 0} (history : Option History) (generation : ℕ) (store : StoreValue D) (entries : List MapEntry) (logs : List (List BoxEntry)) : Type 0 where
  pub opens : IfTold history (λ now. Opens (files_of now) store.map.store entries logs)
  pub root : IfTold history (λ now. HasRoot (files_of now) store.map.store generation)
  pub root_entries : List (List ℕ)
  pub root_log_reads : Reads store.root_log root_entries history
  pub map_log_reads : Reads store.map_log (map map_text entries) history
  pub box_logs_read : ReadBoxLogs history store.boxes logs
  pub files_known : (number : ℕ) → IsAsKnown store.files.files number history
  pub files_stay : IfTold history (StayThere store.files.files store.map.records)

-- ---- counts

-- Each record's count is at least its listed messages and what is due of it, one number for each record.
abbrev pub CoverDues : List (List BoxEntry) → List MapRecord → List ℕ → Type 0
CoverDues logs [] [] = Unit {0}
CoverDues logs (row ∷ rows) (due ∷ dues) = (listed_of logs row.uid + due ≤ row.count) × CoverDues logs rows dues
CoverDues logs rows dues = ⊥

-- ---- room

-- The map log and the log of each mailbox have room for an entry of 64 octets.
pub record HasEntryRoom {D : Type 0} (store : StoreValue D) : Type 0 where
  pub map_log : entry_room ≤ store.map_log.room
  pub box_logs : All (λ open_box. entry_room ≤ open_box.log.room) store.boxes

-- ---- the store

-- the highest numbers that entries name are at most those drawn
pub record IsUpTo (drawn highest : Highest) : Type 0 where
  pub file : highest.file ≤ drawn.file
  pub map : highest.map ≤ drawn.map
  pub instance : highest.instance ≤ drawn.instance
  pub mailbox : highest.mailbox ≤ drawn.mailbox

-- A store's indexes are what good logs mean, its logs stand under the names and heads that the root log and the map say,
-- each count covers what is listed and due, and all that records name lies in the storage files as they are known. Unless it
-- is stopped, its disk, which tells this, opens with these logs, and reads them. What a failed change leaves on the disk of a
-- stopped store is said by the clauses of the call that made it.
pub record IsStore {D : Type 0} (history : Option History) (store : StoreValue D) : Type 0 where
  pub entries : List MapEntry
  pub logs : List (List BoxEntry)
  pub generation : ℕ
  pub good : AreGoodLogs store.map.store entries logs
  pub map_is : store.map ≡ map_meaning store.map.store entries
  pub boxes_are : indexes_of store.boxes ≡ map box_meaning logs
  pub counts : CoverDues logs store.map.records store.dues
  pub drawn : IsUpTo store.drawn store.map.highest
  pub files : AreFilesKept store.files store.drawn store.map
  pub root_name : store.root_log.name ≡ file.Root
  pub root_head : store.root_log.head ≡ head_of store.map.store kind.Root 0 0
  pub map_name : store.map_log.name ≡ file.Map generation
  pub map_head : store.map_log.head ≡ head_of store.map.store kind.Map 0 generation
  pub box_logs : AreBoxLogs store.map.store store.map.boxes store.boxes
  pub some_lanes : 1 ≤ store.lanes
  pub few_lanes : store.lanes ≤ 64
  pub running : store.stopped ≡ false → IsRunning history generation store entries logs
