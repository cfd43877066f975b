-- A store whose logs were written anew, by what its map and its logs mean.
use Rattle.std.proofs.Common.{◌≡◌, ℕ, false, List, [], ◌∷◌, length, map, Option, Some, All, sym, ◌∙◌, ap, subst}
use Rattle.std.specs.List.{AllZip}
use Rattle.std.proofs.lemmas.List.{length-map}
use Rattle.std.proofs.lemmas.List.Elements.{All-nil, All-cons}
use Rattle.box_snapshot.specs.Due.{NoLogDue, is_box_due, is_log_due, needs_of_box, needs_of_map}
use Rattle.disk_model.specs.Disk.{DiskState, History, IfTold}
use Rattle.mdbox_base.specs.declared.entries.BoxEntry.{BoxEntry}
use Rattle.mdbox_base.specs.declared.entries.Highest.{Highest}
use Rattle.mdbox_base.specs.declared.entries.MapEntry.{MapEntry}
use Rattle.model_lists.specs.Lists.{Lists}
use Rattle.model_logs.specs.Entries.{box_text, map_text}
use Rattle.model_logs.specs.declared.log_head.LogHead.{LogHead}
use Rattle.model_meaning.proofs.SameMeaningLemmas.{means_along}
use Rattle.model_meaning.specs.BoxMeaning.{BoxMeaning, box_meaning}
use Rattle.model_meaning.specs.MapMeaning.{MapBox, MapMeaning, MapRecord, map_meaning}
use Rattle.model_meaning.specs.SameMeaning.{MeansSame}
use Rattle.model_store.proofs.OpeningLemmas.{one_store}
use Rattle.model_store.proofs.StandsLemmas.{root_same}
use Rattle.model_store.specs.GoodLogs.{AreGoodLogs}
use Rattle.model_store.specs.Listing.{ShowLists}
use Rattle.model_store.specs.Opening.{Opens}
use Rattle.model_store.specs.Settled.{files_of}
use Rattle.sis_store.specs.Instances.{InstancesValue}
use Rattle.storage_files.specs.Files.{FilesValue}
use Rattle.store_core.specs.Running.{AreBoxLogs, IsStore, ReadBoxLogs}
use Rattle.store_core.specs.Value.{StoreValue, indexes_of}
use Rattle.store_core.specs.declared.store.OpenBox.{OpenBox}
use Rattle.store_files.specs.Found.{IsFoundFiles}
use Rattle.store_instances.specs.FoundInstances.{IsFoundInstances}
use Rattle.store_open.proofs.StillOpensLemmas.{opens_along}
use Rattle.store_open.specs.Opened.{AreUndue, CarriesAll, HasNoLogDue, IsBoxUndue, IsOpenedAs}

-- ---- maps that mean the same

made_map : List ℕ → List MapRecord → List MapBox → List ℕ → Highest → MapMeaning
made_map store records boxes sealed highest = record { store = store; records = records; boxes = boxes; sealed = sealed; highest = highest }

-- they differ in their mailboxes at most
pub with_boxes : (m n : MapMeaning) → MeansSame m n → n ≡ record m { boxes = n.boxes }
unfolding made_map
with_boxes m n same =
    let s = same.store in
    let r = same.records in
    let k = same.sealed in
    let h = same.highest in
    let e : made_map n.store n.records n.boxes n.sealed n.highest ≡ made_map m.store m.records n.boxes m.sealed m.highest = cc in
    e

pub opened_same : (old : Option History) (m n : MapMeaning) (before now : List BoxMeaning) → MeansSame m n → now ≡ before → IsOpenedAs old m before → IsOpenedAs old n now
opened_same old m n before now same are o = record {
  entries = o.entries;
  logs = o.logs;
  good = subst (λ (s : List ℕ). AreGoodLogs s o.entries o.logs) (sym same.store) o.good;
  opens = subst (λ (s : List ℕ). IfTold old (λ disk. Opens (files_of disk) s o.entries o.logs)) (sym same.store) o.opens;
  means = subst (λ (s : List ℕ). MeansSame (map_meaning s o.entries) n) (sym same.store) (means_along (map_meaning m.store o.entries) m n o.means same);
  meanings_are = are ∙ o.meanings_are;
}

found_files : (m : MapMeaning) (boxes : List MapBox) (old : Option History) (files : FilesValue) → IsFoundFiles m old files → IsFoundFiles (record m { boxes = boxes }) old files
found_files m boxes old files f = record {
  states = f.states;
  found = record {
    rising = f.found.rising;
    ends = λ number. record { unsealed = (f.found.ends number).unsealed; sealed = (f.found.ends number).sealed };
    marks = f.found.marks;
  };
  is = f.is;
}

pub files_same : (m n : MapMeaning) (old : Option History) (files : FilesValue) → MeansSame m n → IsFoundFiles m old files → IsFoundFiles n old files
files_same m n old files same f = subst (λ (k : MapMeaning). IsFoundFiles k old files) (sym (with_boxes m n same)) (found_files m n.boxes old files f)

found_instances : (m : MapMeaning) (boxes : List MapBox) (instances : InstancesValue) → IsFoundInstances m instances → IsFoundInstances (record m { boxes = boxes }) instances
found_instances m boxes instances f = record { store = f.store; highest = f.highest; only = f.only; named = f.named }

pub instances_same : (m n : MapMeaning) (instances : InstancesValue) → MeansSame m n → IsFoundInstances m instances → IsFoundInstances n instances
instances_same m n instances same f = subst (λ (k : MapMeaning). IsFoundInstances k instances) (sym (with_boxes m n same)) (found_instances m n.boxes instances f)

-- ---- what is shown

shows_boxes : (boxes others : List MapBox) (meanings : List BoxMeaning) (lists : Lists) → map (λ box. box.number) others ≡ map (λ box. box.number) boxes → map (λ box. box.name) others ≡ map (λ box. box.name) boxes
    → ShowLists boxes meanings lists → ShowLists others meanings lists
shows_boxes [] [] meanings lists numbers names h = h
shows_boxes [] (o ∷ os) meanings lists numbers names h = absurd (let e : o.number ∷ map (λ (x : MapBox). x.number) os ≡ [] = numbers in cc)
shows_boxes (b ∷ bs) [] meanings lists numbers names h = absurd (let e : [] ≡ b.number ∷ map (λ (x : MapBox). x.number) bs = numbers in cc)
shows_boxes (b ∷ bs) (o ∷ os) [] lists numbers names h = absurd h
shows_boxes (b ∷ bs) (o ∷ os) (m ∷ ms) [] numbers names h = absurd h
shows_boxes (b ∷ bs) (o ∷ os) (m ∷ ms) (l ∷ ls) numbers names h =
    let e : o.number ∷ map (λ (x : MapBox). x.number) os ≡ b.number ∷ map (λ (x : MapBox). x.number) bs = numbers in
    let f : o.name ∷ map (λ (x : MapBox). x.name) os ≡ b.name ∷ map (λ (x : MapBox). x.name) bs = names in
    let number : o.number ≡ b.number = cc e in
    let later : map (λ (x : MapBox). x.number) os ≡ map (λ (x : MapBox). x.number) bs = cc e in
    let name : o.name ≡ b.name = cc f in
    let rest : map (λ (x : MapBox). x.name) os ≡ map (λ (x : MapBox). x.name) bs = cc f in
    (record { number = h.0.number ∙ sym number; name = h.0.name ∙ sym name; next = h.0.next; rows = h.0.rows }, shows_boxes bs os ms ls later rest h.1)

pub shows_same : (m n : MapMeaning) (before now : List BoxMeaning) (lists : Lists) → MeansSame m n → now ≡ before → ShowLists m.boxes before lists → ShowLists n.boxes now lists
shows_same m n before now lists same are h = subst (λ (ms : List BoxMeaning). ShowLists n.boxes ms lists) (sym are) (shows_boxes m.boxes n.boxes before lists same.numbers same.names h)

-- ---- a store whose files have no log that is due has none

due_as : (count number needs want generation other : ℕ) → count ≡ number → needs ≡ want → generation ≡ other → is_log_due count needs generation ≡ is_log_due number want other
due_as count number needs want generation other a b c = cc (a, b, c)

undue_boxes : (store : List ℕ) (mailboxes : List MapBox) (boxes : List OpenBox) (logs : List (List BoxEntry)) (now : History) → AreBoxLogs store mailboxes boxes → ReadBoxLogs (Some now) boxes logs → indexes_of boxes ≡ map box_meaning logs
    → AllZip IsBoxUndue mailboxes logs → All (λ b. is_box_due b ≡ false) boxes
undue_boxes store [] [] logs now named reads means undue = All-nil (λ (b : OpenBox). is_box_due b ≡ false)
undue_boxes store [] (b ∷ bs) logs now named reads means undue = absurd named
undue_boxes store (x ∷ xs) [] logs now named reads means undue = absurd named
undue_boxes store (x ∷ xs) (b ∷ bs) [] now named reads means undue = absurd reads
undue_boxes store (x ∷ xs) (b ∷ bs) (l ∷ ls) now named reads means undue =
    let e : b.index.meaning ∷ indexes_of bs ≡ box_meaning l ∷ map box_meaning ls = means in
    let own : b.index.meaning ≡ box_meaning l = cc e in
    let later : indexes_of bs ≡ map box_meaning ls = cc e in
    let count : b.log.count ≡ length l = reads.0.count ∙ length-map l box_text in
    let generation : b.log.head.generation ≡ x.generation = ap (λ (h : LogHead). h.generation) named.2 in
    All-cons (λ (c : OpenBox). is_box_due c ≡ false) b bs (due_as _ _ _ _ _ _ count (ap needs_of_box own) generation ∙ undue.0) (undue_boxes store xs bs ls now named.3 reads.1 later undue.1)

pub undue_opened : {D : Type 0} → (now : History) (store : StoreValue D) → IsStore (Some now) store → store.stopped ≡ false → HasNoLogDue now.now → NoLogDue store
undue_opened now store s runs none =
    let r = s.running runs in
    let u = none store.map.store s.entries s.logs r.opens in
    let g = root_same (files_of now.now) store.map.store store.map.store r.opens.passed.map_log.generation s.generation r.opens.passed.map_log.root r.root in
    let count : store.map_log.count ≡ length s.entries = r.map_log_reads.count ∙ length-map s.entries map_text in
    let generation : store.map_log.head.generation ≡ r.opens.passed.map_log.generation = ap (λ (h : LogHead). h.generation) s.map_head ∙ sym g.1 in
    record {
      boxes = undue_boxes store.map.store store.map.boxes store.boxes s.logs now s.box_logs r.box_logs_read s.boxes_are (subst (λ (m : MapMeaning). AllZip IsBoxUndue m.boxes s.logs) (sym s.map_is) u.boxes);
      map_log = due_as _ _ _ _ _ _ count (ap needs_of_map s.map_is) generation ∙ u.map_log;
    }

-- Files that carry over all have no log that is due, if there was none.
same_undue : (g k : ℕ) (m n : MapMeaning) (es fs : List MapEntry) (xs ys : List (List BoxEntry)) → g ≡ k → m ≡ n → es ≡ fs → xs ≡ ys → AreUndue g m es xs → AreUndue k n fs ys
same_undue g k m n es fs xs ys a b c d u =
    subst (λ (ls : List (List BoxEntry)). AreUndue k n fs ls) d
    (subst (λ (e : List MapEntry). AreUndue k n e xs) c
    (subst (λ (o : MapMeaning). AreUndue k o es xs) b
    (subst (λ (i : ℕ). AreUndue i m es xs) a u)))

pub undue_carried : (a b : DiskState) (store : List ℕ) (entries : List MapEntry) (logs : List (List BoxEntry)) → Opens (files_of a) store entries logs → CarriesAll a b → HasNoLogDue a → HasNoLogDue b
undue_carried a b store entries logs o carry none = λ other es ls p.
    let again = opens_along store entries logs (files_of a) (files_of b) o (carry store entries logs o) in
    let e = one_store (files_of b) store other entries es logs ls again.0 p in
    let g = root_same (files_of b) store other again.0.passed.map_log.generation p.passed.map_log.generation again.0.passed.map_log.root p.passed.map_log.root in
    same_undue _ _ (map_meaning store entries) (map_meaning other es) entries es logs ls (sym again.1 ∙ g.1) (cc (e.0, e.1)) e.1 e.2 (none store entries logs o)
