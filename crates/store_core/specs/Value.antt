-- What a caller sees of an open store.
use Rattle.std.specs.Prelude.{◌==◌, ℕ, max, Bool, false, List, [], map, find, Option}
use Rattle.std.specs.Option.{option_map_or}
use Rattle.std.specs.declared.alloc.Global.{Global}
use Rattle.gate_log.specs.State.{LogState}
use Rattle.mdbox_base.specs.declared.entries.Highest.{Highest}
use Rattle.model_meaning.specs.BoxMeaning.{BoxMeaning}
use Rattle.model_meaning.specs.MapMeaning.{MapRecord, MapMeaning}
use Rattle.model_store.specs.Listing.{meaning_named, meaning_numbered, refs_in}
use Rattle.sis_store.specs.Instances.{InstancesValue}
use Rattle.storage_files.specs.Files.{FilesValue}
use Rattle.store_core.specs.declared.store.OpenBox.{OpenBox}
use Rattle.store_core.specs.declared.store.OpenLogs.{OpenLogs}

-- The allocator that it keeps; its disk; the root log; the map's log, and what it means; its mailboxes in order of number;
-- those whose logs were made and which the map doesn't name yet; its storage files; its instances; the highest numbers drawn;
-- what is due of each record, in the order of the map's records; for how many lanes it was opened; and whether it is stopped,
-- since a change of the disk failed.
pub record StoreValue (D : Type 0) : Type 0 where
  pub alloc : Global
  pub disk : D
  pub root_log : LogState
  pub map_log : LogState
  pub map : MapMeaning
  pub boxes : List OpenBox
  pub made : List OpenBox
  pub files : FilesValue
  pub instances : InstancesValue
  pub drawn : Highest
  pub dues : List ℕ
  pub lanes : ℕ
  pub stopped : Bool

-- nothing is due of any record
abbrev pub none_due : List MapRecord → List ℕ
none_due records = map (λ row. 0) records

-- A store as its logs were opened, with these storage files and instances: the numbers drawn are the map's highest, no task
-- holds or owes anything, and it isn't stopped.
abbrev pub newly_open : {D : Type 0} → Global → D → OpenLogs → FilesValue → InstancesValue → ℕ → StoreValue D
newly_open alloc disk logs files instances lanes = record {
  alloc = alloc;
  disk = disk;
  root_log = logs.root_log;
  map_log = logs.map_log;
  map = logs.map.meaning;
  boxes = logs.boxes.items;
  made = [];
  files = files;
  instances = instances;
  drawn = logs.map.meaning.highest;
  dues = none_due logs.map.meaning.records;
  lanes = lanes;
  stopped = false;
}

-- ---- room

-- how many octets of a log's room an entry of 64 octets takes: its length and a gate have 5 more
abbrev pub entry_room : ℕ
entry_room = 69

-- a log with room for such an entry at least, and a mailbox whose log has it
abbrev pub roomy_log : LogState → LogState
roomy_log log = record log { room = max log.room entry_room }

abbrev pub roomy_box : OpenBox → OpenBox
roomy_box open_box = record open_box { log = roomy_log open_box.log }

-- the store with room for such an entry in the map log and in the log of each mailbox
abbrev pub with_entry_room : {D : Type 0} → StoreValue D → StoreValue D
with_entry_room store = record store { map_log = roomy_log store.map_log; boxes = map roomy_box store.boxes }

-- For how many mailboxes and records the memory was taken that a store has from the beginning.
pub record RoomValue : Type 0 where
  pub boxes : ℕ
  pub records : ℕ

-- ---- look-ups

-- what the logs of the mailboxes mean
abbrev pub indexes_of : List OpenBox → List BoxMeaning
indexes_of boxes = map (λ b. b.index.meaning) boxes

-- what the log of the mailbox with this name means, or of the one with this number
abbrev pub list_named : {D : Type 0} → StoreValue D → List ℕ → Option BoxMeaning
list_named store name = meaning_named name store.map.boxes (indexes_of store.boxes)

abbrev pub list_numbered : {D : Type 0} → StoreValue D → ℕ → Option BoxMeaning
list_numbered store number = meaning_numbered number store.map.boxes (indexes_of store.boxes)

-- how many entries the log of the mailbox with this number has, 0 where there is none
abbrev pub log_count_of : ℕ → List OpenBox → ℕ
log_count_of number boxes = option_map_or (λ b. b.log.count) (find (λ b. b.number.0 == number) boxes) 0

-- how many listed messages have this GUID
abbrev pub references_to : {D : Type 0} → StoreValue D → List ℕ → ℕ
references_to store guid = refs_in (indexes_of store.boxes) guid
