-- A store whose logs have more room.
use Rattle.store_core.proofs.Common.{◌≡◌, ◌≤◌, ℕ, false, List, [], ◌∷◌, map, length, All, Option, refl, sym, ◌∙◌, ap, arith, Highest, All-nil, All-cons, History, if_told-map, BoxEntry, map_text, box_text, BoxMeaning, MapRecord, MapBox, LogState, IsLogRead, Reads, InstancesValue, FilesValue}
use Rattle.store_core.proofs.Common.{StoreValue, indexes_of, entry_room, roomy_box, AreBoxLogs, ReadBoxLogs, IsStore, HasEntryRoom, HasKnownInstances, OpenBox}
use Rattle.std.proofs.Common.{max}
use Rattle.std.specs.Prelude.{replicate}
use Rattle.std.specs.declared.alloc.Global.{Global}
use Rattle.store_core.specs.declared.store.OpenLogs.{OpenLogs}
use Rattle.store_core.specs.Value.{none_due, roomy_log, with_entry_room, newly_open}

pub indexes_roomy : (boxes : List OpenBox) → indexes_of (map roomy_box boxes) ≡ indexes_of boxes
indexes_roomy [] = refl
indexes_roomy (b ∷ bs) = ap (λ (ms : List BoxMeaning). b.index.meaning ∷ ms) (indexes_roomy bs)

-- a log is read as before
reads_roomy : (log : LogState) (entries : List (List ℕ)) (h : Option History) → Reads log entries h → Reads (roomy_log log) entries h
reads_roomy log entries h = if_told-map (IsLogRead log entries) (IsLogRead (roomy_log log) entries) h (λ disk r. record { file = r.file; end = r.end; count = r.count; head_fits = r.head_fits; entries_fit = r.entries_fit })

logs_roomy : (store : List ℕ) (mailboxes : List MapBox) (boxes : List OpenBox) → AreBoxLogs store mailboxes boxes → AreBoxLogs store mailboxes (map roomy_box boxes)
logs_roomy store [] [] a = tt
logs_roomy store [] (b ∷ bs) a = absurd a
logs_roomy store (m ∷ ms) [] a = absurd a
logs_roomy store (m ∷ ms) (b ∷ bs) a = (a.0, a.1, a.2, logs_roomy store ms bs a.3)

read_roomy : (h : Option History) (boxes : List OpenBox) (logs : List (List BoxEntry)) → ReadBoxLogs h boxes logs → ReadBoxLogs h (map roomy_box boxes) logs
read_roomy h [] [] r = tt
read_roomy h [] (l ∷ ls) r = absurd r
read_roomy h (b ∷ bs) [] r = absurd r
read_roomy h (b ∷ bs) (l ∷ ls) r = (reads_roomy b.log (map box_text l) h r.0, read_roomy h bs ls r.1)

pub store_roomy : {D : Type 0} → (h : Option History) (store : StoreValue D) → IsStore h store → IsStore h (with_entry_room store)
store_roomy h store s = record {
  entries = s.entries;
  logs = s.logs;
  generation = s.generation;
  good = s.good;
  map_is = s.map_is;
  boxes_are = indexes_roomy store.boxes ∙ s.boxes_are;
  counts = s.counts;
  drawn = s.drawn;
  files = s.files;
  root_name = s.root_name;
  root_head = s.root_head;
  map_name = s.map_name;
  map_head = s.map_head;
  box_logs = logs_roomy store.map.store store.map.boxes store.boxes s.box_logs;
  some_lanes = s.some_lanes;
  few_lanes = s.few_lanes;
  running = λ runs. let r = s.running runs in record {
    opens = r.opens;
    root = r.root;
    root_entries = r.root_entries;
    root_log_reads = r.root_log_reads;
    map_log_reads = reads_roomy store.map_log (map map_text s.entries) h r.map_log_reads;
    box_logs_read = read_roomy h store.boxes s.logs r.box_logs_read;
    files_known = r.files_known;
    files_stay = r.files_stay;
  };
}

-- it has room
boxes_roomy : (boxes : List OpenBox) → All (λ (b : OpenBox). entry_room ≤ b.log.room) (map roomy_box boxes)
boxes_roomy [] = All-nil (λ (b : OpenBox). entry_room ≤ b.log.room)
boxes_roomy (b ∷ bs) = All-cons (λ (b : OpenBox). entry_room ≤ b.log.room) (roomy_box b) (map roomy_box bs) (omega arith) (boxes_roomy bs)

pub room_there : {D : Type 0} → (store : StoreValue D) → HasEntryRoom (with_entry_room store)
room_there store = record { map_log = omega arith; box_logs = boxes_roomy store.boxes }

-- and its instances
pub instances_roomy : {D : Type 0} → (h : Option History) (store : StoreValue D) → HasKnownInstances h store → HasKnownInstances h (with_entry_room store)
instances_roomy h store k = record { kept = k.kept; running = k.running }

-- nothing is due of as many records
pub nothing_at_all : (rows : List MapRecord) → none_due rows ≡ replicate (length rows) 0
nothing_at_all [] = refl
nothing_at_all (r ∷ rs) = ap (λ (ns : List ℕ). 0 ∷ ns) (nothing_at_all rs)

-- a log that takes over such room
pub roomy_by : (a b : LogState) (n : ℕ) → n ≡ entry_room → b ≡ record a { room = max a.room n } → b ≡ roomy_log a
roomy_by a b n is e = e ∙ ap (λ (k : ℕ). record a { room = max a.room k }) is

-- the store that is made of these parts
abbrev made_of : {D : Type 0} → Global → D → OpenLogs → FilesValue → InstancesValue → ℕ → LogState → List OpenBox → List OpenBox → Highest → List ℕ → StoreValue D
made_of alloc disk logs files instances lanes map_log boxes made drawn dues = record {
  alloc = alloc;
  disk = disk;
  root_log = logs.root_log;
  map_log = map_log;
  map = logs.map.meaning;
  boxes = boxes;
  made = made;
  files = files;
  instances = instances;
  drawn = drawn;
  dues = dues;
  lanes = lanes;
  stopped = false;
}

pub opened_as : {D : Type 0} → (alloc : Global) (disk : D) (logs : OpenLogs) (files : FilesValue) (instances : InstancesValue) (lanes : ℕ) (map_log : LogState) (boxes made : List OpenBox) (drawn : Highest) (dues : List ℕ) → map_log ≡ roomy_log logs.map_log → boxes ≡ map roomy_box logs.boxes.items → made ≡ []
    → drawn ≡ logs.map.meaning.highest → dues ≡ none_due logs.map.meaning.records → made_of alloc disk logs files instances lanes map_log boxes made drawn dues ≡ with_entry_room (newly_open alloc disk logs files instances lanes)
opened_as alloc disk logs files instances lanes map_log boxes made drawn dues a b none c d =
    ap (λ (l : LogState). made_of alloc disk logs files instances lanes l boxes made drawn dues) a
    ∙ ap (λ (bs : List OpenBox). made_of alloc disk logs files instances lanes (roomy_log logs.map_log) bs made drawn dues) b
    ∙ ap (λ (bs : List OpenBox). made_of alloc disk logs files instances lanes (roomy_log logs.map_log) (map roomy_box logs.boxes.items) bs drawn dues) none
    ∙ ap (λ (n : Highest). made_of alloc disk logs files instances lanes (roomy_log logs.map_log) (map roomy_box logs.boxes.items) [] n dues) c
    ∙ ap (λ (ns : List ℕ). made_of alloc disk logs files instances lanes (roomy_log logs.map_log) (map roomy_box logs.boxes.items) [] logs.map.meaning.highest ns) d

pub dues_taken : (rows : List MapRecord) (dues : List ℕ) (n : ℕ) → dues ≡ replicate n 0 → n ≡ length rows → dues ≡ none_due rows
dues_taken rows dues n is size = is ∙ ap (λ (k : ℕ). replicate k 0) size ∙ sym (nothing_at_all rows)
