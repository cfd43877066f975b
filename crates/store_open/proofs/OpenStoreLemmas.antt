-- The store that was opened.
use Rattle.std.proofs.lemmas.List.{length-map}
use Rattle.box_index.specs.State.{BoxState}
use Rattle.map_index.specs.Value.{MapIndexValue}
use Rattle.std.proofs.Common.{◌≡◌, ◌≤◌, ℕ, List, [], ◌∷◌, map, length, All, Option, refl, sym, ◌∙◌, ap, subst, arith}
use Rattle.std.specs.List.{AllZip}
use Rattle.disk_model.specs.Disk.{History, IfTold, IsIdle}
use Rattle.disk_model.specs.declared.name.FileName.TheVariants as file
use Rattle.disk_model.proofs.MomentLemmas.{if_told-map}
use Rattle.mdbox_base.specs.declared.entries.BoxEntry.{BoxEntry}
use Rattle.mdbox_base.specs.declared.entries.MapEntry.{MapEntry}
use Rattle.mdbox_base.specs.declared.entries.RootEntry.{RootEntry}
use Rattle.model_meaning.specs.BoxMeaning.{BoxMeaning, box_meaning}
use Rattle.model_logs.specs.Entries.{map_text}
use Rattle.model_store.specs.GoodLogs.{AreGoodLogs}
use Rattle.model_meaning.specs.MapMeaning.{MapRecord, MapBox, MapMeaning, map_meaning}
use Rattle.model_store.specs.Opening.{Opens, IsCounted}
use Rattle.gate_log.specs.State.{LogState, InspectedLog}
use Rattle.store_checks.specs.Boxes.{IsFoundAs, AreFound}
use Rattle.store_checks.specs.Roots.{root_log_head, root_texts, map_log_head}
use Rattle.store_checks.specs.Store.{IsChecked}
use Rattle.store_checks.specs.declared.check.Checked.{Checked}
use Rattle.store_checks.specs.declared.mailbox.CheckedBox.{CheckedBox}
use Rattle.store_core.specs.Value.{indexes_of, none_due, newly_open}
use Rattle.store_core.specs.Running.{AreBoxLogs, ReadBoxLogs, CoverDues, IsStore}
use Rattle.store_core.specs.declared.store.OpenBox.{OpenBox}
use Rattle.store_core.specs.declared.store.OpenLogs.{OpenLogs}
use Rattle.std.specs.declared.alloc.Global.{Global}
use Rattle.store_sweep.specs.Swept.{FilesCarry, IsOpened}
use Rattle.store_sweep.specs.Boxes.{HaveIndexes}
use Rattle.mdbox_base.specs.declared.ids.StoreId.{StoreId}
use Rattle.model_meaning.specs.SameMeaning.{MeansSame}
use Rattle.model_store.specs.Settled.{files_of}
use Rattle.sis_store.specs.Instances.{InstancesValue}
use Rattle.storage_files.specs.Files.{FilesValue}
use Rattle.store_open.specs.Opened.{IsOpenedAs}
use Rattle.store_open.proofs.CheckedLemmas.{OpensAt, opens_at}
use Rattle.store_open.proofs.FoundFileLemmas.{HasFiles}
use Rattle.store_open.proofs.StillOpensLemmas.{still_opens, has_root}

-- the logs of these mailboxes were opened as these
abbrev pub Opened : Option History → Option History → List CheckedBox → List OpenBox → Type 0
Opened now new boxes opened = AllZip (IsOpened now new) (map (λ b. b.log) boxes) (map (λ o. o.log) opened)

box_logs : (store : List ℕ) (mailboxes : List MapBox) (boxes : List CheckedBox) (logs : List (List BoxEntry)) (opened : List OpenBox) (now new : Option History) → AreFound store mailboxes boxes logs now → Opened now new boxes opened
    → map (λ o. o.number.0) opened ≡ map (λ b. b.number) mailboxes → AreBoxLogs store mailboxes opened
box_logs store [] [] [] [] now new f z n = tt
box_logs store [] [] [] (o ∷ os) now new f z n = absurd z
box_logs store (x ∷ xs) (b ∷ bs) (l ∷ ls) [] now new f z n = absurd z
box_logs store (x ∷ xs) (b ∷ bs) (l ∷ ls) (o ∷ os) now new f z n =
    let e : o.number.0 ∷ map (λ (p : OpenBox). p.number.0) os ≡ x.number ∷ map (λ (y : MapBox). y.number) xs = n in
    let first : o.number.0 ≡ x.number = cc e in
    let later : map (λ (p : OpenBox). p.number.0) os ≡ map (λ (y : MapBox). y.number) xs = cc e in
    (first, ap (λ (s : LogState). s.name) z.0.is ∙ f.0.name_is, ap (λ (s : LogState). s.head) z.0.is ∙ f.0.head_is, box_logs store xs bs ls os now new f.1 z.1 later)
box_logs store [] [] (l ∷ ls) os now new f z n = absurd f
box_logs store [] (b ∷ bs) ls os now new f z n = absurd f
box_logs store (x ∷ xs) [] ls os now new f z n = absurd f
box_logs store (x ∷ xs) (b ∷ bs) [] os now new f z n = absurd f

read_logs : (store : List ℕ) (mailboxes : List MapBox) (boxes : List CheckedBox) (logs : List (List BoxEntry)) (opened : List OpenBox) (now new : Option History) → AreFound store mailboxes boxes logs now → Opened now new boxes opened → ReadBoxLogs new opened logs
read_logs store [] [] [] [] now new f z = tt
read_logs store [] [] [] (o ∷ os) now new f z = absurd z
read_logs store (x ∷ xs) (b ∷ bs) (l ∷ ls) [] now new f z = absurd z
read_logs store (x ∷ xs) (b ∷ bs) (l ∷ ls) (o ∷ os) now new f z = (z.0.reads _ f.0.stands, read_logs store xs bs ls os now new f.1 z.1)
read_logs store [] [] (l ∷ ls) os now new f z = absurd f
read_logs store [] (b ∷ bs) ls os now new f z = absurd f
read_logs store (x ∷ xs) [] ls os now new f z = absurd f
read_logs store (x ∷ xs) (b ∷ bs) [] os now new f z = absurd f

-- ---- the store

pub store_is : (m : MapMeaning) (store : List ℕ) (entries : List MapEntry) → m ≡ map_meaning store entries → store ≡ m.store
store_is m store entries e = sym (ap (λ (k : MapMeaning). k.store) e)

-- the law of counts
abbrev pub CountsCover : Type 0
CountsCover = (logs : List (List BoxEntry)) (rows : List MapRecord) → All (IsCounted logs) rows → CoverDues logs rows (none_due rows)

-- what is known of a store with this id that was swept
record IsKnown (store : List ℕ) (generation : ℕ) (entries : List MapEntry) (logs : List (List BoxEntry)) (m : MapMeaning) (root log : InspectedLog) (texts : List (List ℕ)) (boxes : List CheckedBox) (now new : Option History) : Type 0 where
  good : AreGoodLogs store entries logs
  map_is : m ≡ map_meaning store entries
  root_found : IsFoundAs root file.Root (root_log_head store) texts now
  map_found : IsFoundAs log (file.Map generation) (map_log_head store generation) (map map_text entries) now
  found : AreFound store m.boxes boxes logs now
  opens : IfTold new (OpensAt store generation entries logs)

is_store : {D : Type 0} (alloc : Global) (disk : D) (generation : ℕ) (entries : List MapEntry) (logs : List (List BoxEntry)) (root log : InspectedLog) (texts : List (List ℕ)) (boxes : List CheckedBox) (o : OpenLogs) (files : FilesValue) (instances : InstancesValue) (lanes : ℕ) (now new : Option History)
    → CountsCover → HasFiles o.map.meaning files new → IsKnown o.map.meaning.store generation entries logs o.map.meaning root log texts boxes now new → IsOpened now new root o.root_log → IsOpened now new log o.map_log → Opened now new boxes o.boxes.items → map (λ b. b.number.0) o.boxes.items ≡ map (λ b. b.number) o.map.meaning.boxes → indexes_of o.boxes.items ≡ map box_meaning logs
    → 1 ≤ lanes → lanes ≤ 64 → IsStore new (newly_open alloc disk o files instances lanes)
is_store alloc disk generation entries logs root log texts boxes o files instances lanes now new cover has k root_opened map_opened zip numbers indexes some few = record {
  entries = entries;
  logs = logs;
  generation = generation;
  good = k.good;
  map_is = k.map_is;
  boxes_are = indexes;
  counts = cover logs o.map.meaning.records (subst (λ (n : MapMeaning). All (IsCounted logs) n.records) (sym k.map_is) k.good.counts);
  drawn = record { file = omega arith; map = omega arith; instance = omega arith; mailbox = omega arith };
  files = has.kept;
  root_name = ap (λ (l : LogState). l.name) root_opened.is ∙ k.root_found.name_is;
  root_head = ap (λ (l : LogState). l.head) root_opened.is ∙ k.root_found.head_is;
  map_name = ap (λ (l : LogState). l.name) map_opened.is ∙ k.map_found.name_is;
  map_head = ap (λ (l : LogState). l.head) map_opened.is ∙ k.map_found.head_is;
  box_logs = box_logs o.map.meaning.store o.map.meaning.boxes boxes logs o.boxes.items now new k.found zip numbers;
  some_lanes = some;
  few_lanes = few;
  running = λ _. record {
    opens = if_told-map _ _ new (λ disk o. o.0) k.opens;
    root = if_told-map _ _ new (λ disk q. has_root o.map.meaning.store generation entries logs disk q) k.opens;
    root_entries = texts;
    root_log_reads = root_opened.reads texts k.root_found.stands;
    map_log_reads = map_opened.reads (map map_text entries) k.map_found.stands;
    box_logs_read = read_logs o.map.meaning.store o.map.meaning.boxes boxes logs o.boxes.items now new k.found zip;
    files_known = has.known;
    files_stay = has.stay;
  };
}

open_meanings : (xs : List OpenBox) → indexes_of xs ≡ map (λ i. i.meaning) (map (λ b. b.index) xs)
open_meanings [] = refl
open_meanings (x ∷ xs) = ap (λ (ms : List BoxMeaning). x.index.meaning ∷ ms) (open_meanings xs)

found_meanings : (xs : List CheckedBox) → map (λ b. b.index.meaning) xs ≡ map (λ i. i.meaning) (map (λ b. b.index) xs)
found_meanings [] = refl
found_meanings (x ∷ xs) = ap (λ (ms : List BoxMeaning). x.index.meaning ∷ ms) (found_meanings xs)

-- the indexes are what the logs mean
pub indexes_are : (c : Checked) (before : List RootEntry) (entries : List MapEntry) (logs : List (List BoxEntry)) (opened : List OpenBox) (old now : Option History) → IsChecked c before entries logs old now → HaveIndexes c.map.meaning c.boxes opened → indexes_of opened ≡ map box_meaning logs
indexes_are c before entries logs opened old now k h = open_meanings opened ∙ ap (map (λ (i : BoxState). i.meaning)) h.indexes ∙ sym (found_meanings c.boxes) ∙ k.boxes_are

pub opened_store : {D : Type 0} (alloc : Global) (disk : D) (c : Checked) (before : List RootEntry) (entries : List MapEntry) (logs : List (List BoxEntry)) (o : OpenLogs) (files : FilesValue) (instances : InstancesValue) (lanes : ℕ) (old now new : Option History) → CountsCover → HasFiles c.map.meaning files new → IsIdle old now
    → IsChecked c before entries logs old now → FilesCarry c.generation c.map.meaning now new → o.map.meaning ≡ c.map.meaning → IsOpened now new c.root_log o.root_log → IsOpened now new c.map_log o.map_log → Opened now new c.boxes o.boxes.items → HaveIndexes c.map.meaning c.boxes o.boxes.items
    → 1 ≤ lanes → lanes ≤ 64 → IsStore new (newly_open alloc disk o files instances lanes)
opened_store alloc disk c before entries logs o files instances lanes old now new cover has idle k carry same root_opened map_opened zip h some few =
    let known : IsKnown c.map.meaning.store c.generation entries logs c.map.meaning c.root_log c.map_log (root_texts before c.generation) c.boxes now new =
    subst (λ (s : List ℕ). IsKnown s c.generation entries logs c.map.meaning c.root_log c.map_log (root_texts before c.generation) c.boxes now new) (store_is c.map.meaning c.id.0 entries k.map_is) (record {
      good = k.good;
      map_is = k.map_is;
      root_found = k.root_log;
      map_found = k.map_log;
      found = k.box_logs;
      opens = still_opens c.id.0 c.generation entries logs c.map.meaning now new k.map_is (opens_at c before entries logs old now idle k) carry;
    }) in
    is_store alloc disk c.generation entries logs c.root_log c.map_log (root_texts before c.generation) c.boxes o files instances lanes now new cover (subst (λ (m : MapMeaning). HasFiles m files new) (sym same) has)
    (subst (λ (m : MapMeaning). IsKnown m.store c.generation entries logs m c.root_log c.map_log (root_texts before c.generation) c.boxes now new) (sym same) known)
    root_opened map_opened zip
    (h.numbers ∙ ap (λ (m : MapMeaning). map (λ (b : MapBox). b.number) m.boxes) (sym same)) (indexes_are c before entries logs o.boxes.items old now k h) some few

-- ---- what it has

means_self : (m : MapMeaning) → MeansSame m m
means_self m = record { store = refl; records = refl; numbers = refl; names = refl; sealed = refl; highest = refl }

opened_checked : (store : List ℕ) (entries : List MapEntry) (logs : List (List BoxEntry)) (m : MapMeaning) (meanings : List BoxMeaning) (old : Option History) → store ≡ m.store → AreGoodLogs store entries logs → IfTold old (λ now. Opens (files_of now) store entries logs) → m ≡ map_meaning store entries → meanings ≡ map box_meaning logs
    → IsOpenedAs old m meanings
opened_checked store entries logs m meanings old own good opens is are = record {
  entries = entries;
  logs = logs;
  good = subst (λ (s : List ℕ). AreGoodLogs s entries logs) own good;
  opens = subst (λ (s : List ℕ). IfTold old (λ now. Opens (files_of now) s entries logs)) own opens;
  means = subst (λ (s : List ℕ). MeansSame (map_meaning s entries) m) own (subst (λ (n : MapMeaning). MeansSame n m) is (means_self m));
  meanings_are = are;
}

pub opened_as : (c : Checked) (before : List RootEntry) (entries : List MapEntry) (logs : List (List BoxEntry)) (o : OpenLogs) (old now : Option History) → IsChecked c before entries logs old now → o.map.meaning ≡ c.map.meaning → HaveIndexes c.map.meaning c.boxes o.boxes.items → IsOpenedAs old o.map.meaning (indexes_of o.boxes.items)
opened_as c before entries logs o old now k same h =
    subst (λ (m : MapMeaning). IsOpenedAs old m (indexes_of o.boxes.items)) (sym same)
    (opened_checked c.id.0 entries logs c.map.meaning (indexes_of o.boxes.items) old (store_is c.map.meaning c.id.0 entries k.map_is) k.good k.opens k.map_is (indexes_are c before entries logs o.boxes.items old now k h))

-- its id
pub id_is : (c : Checked) (before : List RootEntry) (entries : List MapEntry) (logs : List (List BoxEntry)) (o : OpenLogs) (old now : Option History) → IsChecked c before entries logs old now → o.id ≡ c.id → o.map.meaning ≡ c.map.meaning → o.map.meaning.store ≡ o.id.0
id_is c before entries logs o old now k id same = ap (λ (m : MapMeaning). m.store) same ∙ sym (store_is c.map.meaning c.id.0 entries k.map_is) ∙ ap (λ (i : StoreId). i.0) (sym id)

-- ---- for as many mailboxes and records there is room

pub room_is : (c : Checked) (o : OpenLogs) (boxes records : ℕ) → o.map ≡ c.map → HaveIndexes c.map.meaning c.boxes o.boxes.items → boxes ≡ length c.map.meaning.boxes → records ≡ length c.map.meaning.records
    → (boxes ≡ length o.boxes.items) × (records ≡ length o.map.meaning.records)
room_is c o boxes records same h some few = (
  some ∙ sym (length-map c.map.meaning.boxes (λ (b : MapBox). b.number)) ∙ ap length (sym h.numbers) ∙ length-map o.boxes.items (λ (b : OpenBox). b.number.0),
  few ∙ ap (λ (i : MapIndexValue). length i.meaning.records) (sym same),
)
