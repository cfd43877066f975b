-- Disks from which an instance was removed that no record names: what they read, what a crash leaves, and what a store makes of it.
use Rattle.store_core.proofs.Common.{◌⊎◌, ◌||◌, Contains, flat_map, not, list_any, option_map, option_map_or, bytes_eq, inl, inr, ◌≡◌, ◌≢◌, ℕ, Bool, true, false, cond, List, [], ◌∷◌, get_or, map, Option, Some, None, All, refl, sym, ◌∙◌, ap, subst, arith, cases_Bool, cond-true, cond-false}
use Rattle.store_core.proofs.Common.{true≢false, All-nil, All-cons, All-head, All-tail, All-contains, All-contains_itself, All-weaker, bytes_eq-Decides, Files, FileState, DiskState, History, Between, IfTold, SameButFor, EachImage, Grows, OthersStay, IsImage, MayLeave, removed, reading, same_name}
use Rattle.store_core.proofs.Common.{FileName, between-on, between-map, each_image-map, same_name-true, same_name-apart, LogState, IsLogRead, Reads, is_instance_named, BoxEntry, MapEntry, InstRow, InstId, LeftBut, log_as, mixed, mixed-other, others_carry, MailIsKept, kept_beside, Lists, box_text}
use Rattle.store_core.proofs.Common.{map_text, MapRecord, MapBox, MapMeaning, map_meaning, named_instances, HasRoot, StoresMessage, LiesInFile, IsThereWhole, HasAll, SafeBy, Safe, files_of, IsSameRegion, HasSameRegion, HasSameInstance, AreAlike, IsSettled, IsSettledFor, Leaves, CarryOver}
use Rattle.store_core.proofs.Common.{CarriesOver, Opens, each_name, safe_carried, has_all_carried, map_along, kept_along, map_same, root_same, InstancesValue, AreInstances, has_id, instance_in, instance_file, KnownInstance, instance-in, same_id, KeepsFirm, AreBoxLogs, ReadBoxLogs, IsRunning}
use Rattle.store_core.proofs.Common.{IsStore, HasEntryRoom, IsFirmInstance, IsKnownRow, IsOtherThan, AreInstancesFirm, AreInstancesThere, HasKnownInstances, StoreValue, OpenBox}
use Rattle.disk_model.specs.Disk.{after, change}
use Rattle.disk_model.specs.declared.name.FileName.TheVariants as file
use Rattle.disk_model.proofs.OneFileLemmas.{change-here, same-begins, same-goes_on}
use Rattle.model_kept.specs.Kept.{IsUnknownTo}
use Rattle.sis_store.specs.Instances.{without_instance}
use Rattle.store_core.specs.Removing.{NameOthers, KeepsStoredBeside}
use Rattle.store_core.proofs.InstanceAppendLemmas.{of_named}
use Rattle.store_core.proofs.MailChangeLemmas.{Own, left_image, boxes_pass, same_entries, known_beside, stay_beside}
use Rattle.store_core.proofs.PlacedInstanceLemmas.{all_parts}

-- ---- the instance

-- no record names one that isn't named
none_named : (id : List ℕ) (rows : List InstRow) → list_any (λ i. bytes_eq i.id.0 id) rows ≡ false → All (λ i. i.id.0 ≢ id) rows
none_named id [] e = All-nil (λ (i : InstRow). i.id.0 ≢ id)
none_named id (r ∷ rows) e = by_test (bytes_eq r.id.0 id) refl e (none_named id rows)
  where
    by_test : (t : Bool) → bytes_eq r.id.0 id ≡ t → (t || list_any (λ i. bytes_eq i.id.0 id) rows) ≡ false → (list_any (λ i. bytes_eq i.id.0 id) rows ≡ false → All (λ i. i.id.0 ≢ id) rows) → All (λ i. i.id.0 ≢ id) (r ∷ rows)
    by_test true is w rest = absurd (true≢false w)
    by_test false is w rest = All-cons (λ (i : InstRow). i.id.0 ≢ id) r rows (λ same. true≢false (sym ((bytes_eq-Decides r.id.0 id).1 same) ∙ is)) (rest w)

pub names_others : (m : MapMeaning) (id : List ℕ) → is_instance_named m id ≡ false → NameOthers id m.records
names_others m id e = all_parts (λ (i : InstRow). i.id.0 ≢ id) (λ (row : MapRecord). row.instances) m.records (none_named id (named_instances m) e)

abbrev pub SameBesides : List ℕ → List ℕ → DiskState → DiskState → Type 0
SameBesides h i a b = (other : FileName) → other ≢ file.Inst h i → b other ≡ a other

besides_reads : (h i : List ℕ) (a b : DiskState) (other : FileName) → SameBesides h i a b → other ≢ file.Inst h i → reading (b other) ≡ reading (a other)
besides_reads h i a b other same apart = ap reading (same other apart)

-- ---- images within the call

pub inst_removed_safe : (disk : DiskState) (lists : Lists) (s : IsSettled disk lists) (h i : List ℕ) (image : Files) → Own disk → LeftBut (file.Inst h i) disk image → NameOthers i (map_meaning s.store s.entries).records → Safe image lists
inst_removed_safe disk lists s h i image own left unnamed =
    let g : ℕ = s.safe.stands.map_log.generation in
    let m : MapMeaning = map_meaning s.store s.entries in
    record {
      store = s.store;
      entries = s.entries;
      by = safe_carried (files_of disk) image s.store s.entries lists s.safe (each_name g m (files_of disk) image (λ name. by_test (same_name name (file.Inst h i)) name refl));
    }
  where
    by_test : (t : Bool) (name : FileName) → same_name name (file.Inst h i) ≡ t → CarriesOver s.safe.stands.map_log.generation (map_meaning s.store s.entries) (files_of disk) name (image name)
    by_test true name e =
        subst (λ (k : FileName). CarriesOver s.safe.stands.map_log.generation (map_meaning s.store s.entries) (files_of disk) k (image k)) (sym (same_name-true name (file.Inst h i) e))
        (All-weaker (λ (row : MapRecord). All (λ (inst : InstRow). inst.id.0 ≢ i) row.instances) (λ (row : MapRecord). All (λ (inst : InstRow). inst.hash.0 ≡ h → inst.id.0 ≡ i → image (file.Inst h i) ≡ files_of disk (file.Inst h i)) row.instances)
        (λ row r. All-weaker (λ (inst : InstRow). inst.id.0 ≢ i) (λ (inst : InstRow). inst.hash.0 ≡ h → inst.id.0 ≡ i → image (file.Inst h i) ≡ files_of disk (file.Inst h i)) (λ inst apart here is. absurd (apart is)) row.instances r)
        (map_meaning s.store s.entries).records unnamed)
    by_test false name e = others_carry disk lists s (file.Inst h i) image own left name (same_name-apart name (file.Inst h i) e)

-- ---- what a store reads

region_besides : (h i : List ℕ) (a b : DiskState) (row : MapRecord) → SameBesides h i a b → LiesInFile (files_of a) row → HasSameRegion (files_of a) (files_of b) row
region_besides h i a b row same l =
    subst (λ (o : Option (List ℕ)). IsSameRegion (reading (a (file.Mail row.file))) o row)
    (sym (besides_reads h i a b (file.Mail row.file) same (λ e. absurd (let w : file.Mail row.file ≡ file.Inst h i = e in cc w))))
    (record { first = l.octets; second = l.octets; in_first = l.there; in_second = l.there; first_holds = l.inside; second_holds = l.inside; same = refl })

inst_besides : (h i : List ℕ) (a b : DiskState) (inst : InstRow) → SameBesides h i a b → inst.id.0 ≢ i → HasSameInstance (files_of a) (files_of b) inst
inst_besides h i a b inst same apart = besides_reads h i a b (file.Inst inst.hash.0 inst.id.0) same (λ e. apart (let w : file.Inst inst.hash.0 inst.id.0 ≡ file.Inst h i = e in cc w))

carry_besides : (g : ℕ) (m : MapMeaning) (h i : List ℕ) (a b : DiskState) → SameBesides h i a b → NameOthers i m.records → All (LiesInFile (files_of a)) m.records → CarryOver g m (files_of a) (files_of b)
carry_besides g m h i a b same unnamed lie = record {
  root = same_entries (reading (a file.Root)) (reading (b file.Root)) (besides_reads h i a b file.Root same (λ e. absurd (let w : file.Root ≡ file.Inst h i = e in cc w)));
  map = same_entries (reading (a (file.Map g))) (reading (b (file.Map g))) (besides_reads h i a b (file.Map g) same (λ e. absurd (let w : file.Map g ≡ file.Inst h i = e in cc w)));
  boxes = λ k d lt. same_entries _ _ (besides_reads h i a b (file.Box _ _) same (λ e. absurd (cc e)));
  regions = All-weaker (LiesInFile (files_of a)) (HasSameRegion (files_of a) (files_of b)) (λ row l. region_besides h i a b row same l) m.records lie;
  instances = All-weaker (λ (row : MapRecord). All (λ (inst : InstRow). inst.id.0 ≢ i) row.instances) (λ (row : MapRecord). All (HasSameInstance (files_of a) (files_of b)) row.instances)
      (λ row r. All-weaker (λ (inst : InstRow). inst.id.0 ≢ i) (HasSameInstance (files_of a) (files_of b)) (λ inst apart. inst_besides h i a b inst same apart) row.instances r) m.records unnamed;
}

pub opens_besides : (h i : List ℕ) (a b : DiskState) (store : List ℕ) (entries : List MapEntry) (logs : List (List BoxEntry)) → SameBesides h i a b → NameOthers i (map_meaning store entries).records → Opens (files_of a) store entries logs → Opens (files_of b) store entries logs
opens_besides h i a b store entries logs same unnamed o =
    let m : MapMeaning = map_meaning store entries in
    let g : ℕ = o.passed.map_log.generation in
    let carry : CarryOver g m (files_of a) (files_of b) = carry_besides g m h i a b same unnamed o.regions in
    let old : HasAll (files_of a) m [] = record { counts = λ guid. omega arith; regions = o.regions; instances = o.instances } in
    let all = has_all_carried g m (files_of a) (files_of b) [] carry old in
    record {
      passed = record { map_log = map_along store entries (files_of a) (files_of b) o.passed.map_log carry; boxes = boxes_pass m (files_of a) (files_of b) m.boxes logs carry.boxes o.passed.boxes };
      counts = o.counts;
      regions = all.regions;
      instances = all.instances;
    }

pub root_besides : (h i : List ℕ) (a b : DiskState) (store : List ℕ) (generation : ℕ) → SameBesides h i a b → HasRoot (files_of a) store generation → HasRoot (files_of b) store generation
root_besides h i a b store generation same r = record {
  before = r.before;
  log = log_as (files_of a) (files_of b) file.Root _ _ (besides_reads h i a b file.Root same (λ e. absurd (let w : file.Root ≡ file.Inst h i = e in cc w))) r.log;
  in_range = r.in_range;
}

-- a record that names others stores what it stored
stored_besides : (h i : List ℕ) (a b : DiskState) (row : MapRecord) (octets : List ℕ) → SameBesides h i a b → All (λ inst. inst.id.0 ≢ i) row.instances → StoresMessage (files_of a) row octets → StoresMessage (files_of b) row octets
stored_besides h i a b row octets same others k =
    kept_along (files_of a) (files_of b) row octets
    (region_besides h i a b row same (record { octets = k.stored.octets_there; there = k.stored.there; inside = k.stored.inside }))
    (All-weaker (λ (inst : InstRow). inst.id.0 ≢ i) (HasSameInstance (files_of a) (files_of b)) (λ inst apart. inst_besides h i a b inst same apart) row.instances others) k

-- ---- a settled disk is settled again

alike_besides : (g : ℕ) (m : MapMeaning) (h i : List ℕ) (a b : DiskState) (before : Option (List ℕ)) (image : Files) → SameBesides h i a b → NameOthers i m.records → AreAlike g m (files_of a) (mixed (file.Inst h i) (λ _. before) image) → AreAlike g m (files_of b) image
alike_besides g m h i a b before image same unnamed e = record {
  root = at file.Root (λ p. absurd (let w : file.Root ≡ file.Inst h i = p in cc w)) e.root;
  map = at (file.Map g) (λ p. absurd (let w : file.Map g ≡ file.Inst h i = p in cc w)) e.map;
  boxes = All-weaker (λ (box : MapBox). mixed (file.Inst h i) (λ _. before) image (file.Box box.number box.generation) ≡ files_of a (file.Box box.number box.generation)) (λ (box : MapBox). image (file.Box box.number box.generation) ≡ files_of b (file.Box box.number box.generation))
      (λ box p. at (file.Box box.number box.generation) (λ q. absurd (let w : file.Box box.number box.generation ≡ file.Inst h i = q in cc w)) p) m.boxes e.boxes;
  regions = All-weaker (HasSameRegion (files_of a) (mixed (file.Inst h i) (λ _. before) image)) (HasSameRegion (files_of b) image) (λ row r. region row r) m.records e.regions;
  instances = λ k d lt. λ j t lt2. at (file.Inst _ _) (λ q. unnamed k d lt j t lt2 (cc q)) (e.instances k d lt j t lt2);
}
  where
    at : (name : FileName) → name ≢ file.Inst h i → mixed (file.Inst h i) (λ _. before) image name ≡ files_of a name → image name ≡ files_of b name
    at name apart is = sym (mixed-other (file.Inst h i) name (λ _. before) image apart) ∙ is ∙ sym (besides_reads h i a b name same apart)

    region : (row : MapRecord) → HasSameRegion (files_of a) (mixed (file.Inst h i) (λ _. before) image) row → HasSameRegion (files_of b) image row
    region row r =
        let other : file.Mail row.file ≢ file.Inst h i = λ p. absurd (let w : file.Mail row.file ≡ file.Inst h i = p in cc w) in
        subst (λ (o : Option (List ℕ)). IsSameRegion o (image (file.Mail row.file)) row) (sym (besides_reads h i a b (file.Mail row.file) same other))
        (subst (λ (o : Option (List ℕ)). IsSameRegion (reading (a (file.Mail row.file))) o row) (mixed-other (file.Inst h i) (file.Mail row.file) (λ _. before) image other) r)

pub settled_besides : (h i : List ℕ) (a b : DiskState) (lists : Lists) → Own a → SameBesides h i a b → (s : IsSettled a lists) → NameOthers i (map_meaning s.store s.entries).records → IsSettled b lists
settled_besides h i a b lists own same s unnamed =
    let m : MapMeaning = map_meaning s.store s.entries in
    let g : ℕ = s.safe.stands.map_log.generation in
    let safe : SafeBy (files_of b) s.store s.entries lists = safe_carried (files_of a) (files_of b) s.store s.entries lists s.safe (carry_besides g m h i a b same unnamed s.safe.has_all.regions) in
    let root : HasRoot (files_of b) s.store g = root_besides h i a b s.store g same s.safe.stands.map_log.root in
    let one : g ≡ safe.stands.map_log.generation = (root_same (files_of b) s.store s.store g safe.stands.map_log.generation root safe.stands.map_log.root).1 in
    record {
      store = s.store;
      entries = s.entries;
      safe = safe;
      alike = λ image is.
          let left : Option (List ℕ) = reading (a (file.Inst h i)) in
          let before : IsImage a (mixed (file.Inst h i) (λ _. left) image) =
          left_image (file.Inst h i) a left image (own (file.Inst h i)) (λ other apart. subst (λ (f : FileState). MayLeave f (image other)) (same other apart) (is other)) in
          subst (λ (k : ℕ). AreAlike k m (files_of b) image) one
          (alike_besides g m h i a b left image same unnamed (s.alike (mixed (file.Inst h i) (λ _. left) image) before));
    }

-- ---- the store

reads_on : (h i : List ℕ) (log : LogState) (entries : List (List ℕ)) (old new : Option History) → SameButFor (file.Inst h i) old new → log.name ≢ file.Inst h i → Reads log entries old → Reads log entries new
reads_on h i log entries old new same apart r =
    between-on (SameBesides h i) (IsLogRead log entries) (IsLogRead log entries) old new (λ a b c l. record { file = besides_reads h i a b log.name c apart ∙ l.file; end = l.end; count = l.count; head_fits = l.head_fits; entries_fit = l.entries_fit }) same r

boxes_on : (h i : List ℕ) (store : List ℕ) (mailboxes : List MapBox) (boxes : List OpenBox) (logs : List (List BoxEntry)) (old new : Option History) → SameButFor (file.Inst h i) old new → AreBoxLogs store mailboxes boxes → ReadBoxLogs old boxes logs → ReadBoxLogs new boxes logs
boxes_on h i store [] [] [] old new same a r = tt
boxes_on h i store [] [] (l ∷ ls) old new same a r = absurd r
boxes_on h i store [] (b ∷ bs) logs old new same a r = absurd a
boxes_on h i store (m ∷ ms) [] logs old new same a r = absurd a
boxes_on h i store (m ∷ ms) (b ∷ bs) [] old new same a r = absurd r
boxes_on h i store (m ∷ ms) (b ∷ bs) (l ∷ ls) old new same a r = (
  reads_on h i b.log (map box_text l) old new same (λ e. absurd (let w : file.Box m.number m.generation ≡ file.Inst h i = sym a.1 ∙ e in cc w)) r.0,
  boxes_on h i store ms bs ls old new same a.3 r.1,
)

no_mail : (h i : List ℕ) (number : ℕ) → file.Mail number ≢ file.Inst h i
no_mail h i number e = absurd (let w : file.Mail number ≡ file.Inst h i = e in cc w)

running_besides : {D : Type 0} → (h i : List ℕ) (old new : Option History) (v : StoreValue D) (disk : D) (instances : InstancesValue) → (s : IsStore old v) → SameButFor (file.Inst h i) old new → NameOthers i v.map.records → IsRunning old s.generation v s.entries s.logs
    → IsRunning new s.generation (record v { disk = disk; instances = instances }) s.entries s.logs
running_besides h i old new v disk instances s same others r =
    let rows : NameOthers i (map_meaning v.map.store s.entries).records = subst (λ (m : MapMeaning). NameOthers i m.records) s.map_is others in
    record {
      opens = between-on (SameBesides h i) (λ now. Opens (files_of now) v.map.store s.entries s.logs) (λ now. Opens (files_of now) v.map.store s.entries s.logs) old new (λ a b c o. opens_besides h i a b v.map.store s.entries s.logs c rows o) same r.opens;
      root = between-on (SameBesides h i) (λ now. HasRoot (files_of now) v.map.store s.generation) (λ now. HasRoot (files_of now) v.map.store s.generation) old new (λ a b c k. root_besides h i a b v.map.store s.generation c k) same r.root;
      root_entries = r.root_entries;
      root_log_reads = reads_on h i v.root_log r.root_entries old new same (λ e. absurd (let w : file.Root ≡ file.Inst h i = sym s.root_name ∙ e in cc w)) r.root_log_reads;
      map_log_reads = reads_on h i v.map_log (map map_text s.entries) old new same (λ e. absurd (let w : file.Map s.generation ≡ file.Inst h i = sym s.map_name ∙ e in cc w)) r.map_log_reads;
      box_logs_read = boxes_on h i v.map.store v.map.boxes v.boxes s.logs old new same s.box_logs r.box_logs_read;
      files_known = known_beside (file.Inst h i) v.files.files old new (no_mail h i) same r.files_known;
      files_stay = stay_beside (file.Inst h i) v.files.files v.map.records old new (no_mail h i) same r.files_stay;
    }

pub store_without : {D : Type 0} → (h i : List ℕ) (old new : Option History) (v : StoreValue D) (disk : D) (instances : InstancesValue) → IsStore old v → v.stopped ≡ false → NameOthers i v.map.records → SameButFor (file.Inst h i) old new → IsStore new (record v { disk = disk; instances = instances })
store_without h i old new v disk instances s runs others same = record {
  entries = s.entries;
  logs = s.logs;
  generation = s.generation;
  good = s.good;
  map_is = s.map_is;
  boxes_are = s.boxes_are;
  counts = s.counts;
  drawn = s.drawn;
  files = record { highest = s.files.highest; numbered = s.files.numbered; taken = s.files.taken; sealed = s.files.sealed; pinned = s.files.pinned; below = s.files.below };
  root_name = s.root_name;
  root_head = s.root_head;
  map_name = s.map_name;
  map_head = s.map_head;
  box_logs = s.box_logs;
  some_lanes = s.some_lanes;
  few_lanes = s.few_lanes;
  running = λ _. running_besides h i old new v disk instances s same others (s.running runs);
}

pub room_without : {D : Type 0} → (v : StoreValue D) (disk : D) (instances : InstancesValue) → HasEntryRoom v → HasEntryRoom (record v { disk = disk; instances = instances })
room_without v disk instances r = record { map_log = r.map_log; box_logs = r.box_logs }

-- ---- what is known then

-- of each that is known still, it held before, and it is another one
all_without : (id : InstId) (P : KnownInstance → Type 0) (known : List KnownInstance) → All P known → All (λ k. P k × (k.row.id.0 ≢ id.0)) (without_instance id known)
all_without id P [] a = All-nil (λ (k : KnownInstance). P k × (k.row.id.0 ≢ id.0))
all_without id P (k ∷ known) a =
    let rest : All (λ j. P j × (j.row.id.0 ≢ id.0)) (without_instance id known) = all_without id P known (All-tail P k known a) in
    elim (cases_Bool (has_id id k)) [
      | inl gone ↦ subst (All (λ (j : KnownInstance). P j × (j.row.id.0 ≢ id.0))) (sym (cond-false (not (has_id id k)) (k ∷ without_instance id known) (without_instance id known) (ap not gone))) rest
      | inr stays ↦ subst (All (λ (j : KnownInstance). P j × (j.row.id.0 ≢ id.0))) (sym (cond-true (not (has_id id k)) (k ∷ without_instance id known) (without_instance id known) (ap not stays)))
          (All-cons (λ (j : KnownInstance). P j × (j.row.id.0 ≢ id.0)) k (without_instance id known) (All-head P k known a, λ same. true≢false (sym ((bytes_eq-Decides k.row.id.0 id.0).1 same) ∙ stays)) rest)
    ]

-- another one is known still
row_without : (id : InstId) (row : InstRow) (known : List KnownInstance) → row.id.0 ≢ id.0 → instance_in row.id (without_instance id known) ≡ instance_in row.id known
row_without id row [] apart = refl
row_without id row (k ∷ known) apart = elim (cases_Bool (has_id id k)) [
  | inl gone ↦
      ap (instance_in row.id) (cond-false (not (has_id id k)) (k ∷ without_instance id known) (without_instance id known) (ap not gone)) ∙ row_without id row known apart
      ∙ sym (cond-false (has_id row.id k) (Some k) (instance_in row.id known) (other_id (has_id row.id k) refl gone))
  | inr stays ↦
      ap (instance_in row.id) (cond-true (not (has_id id k)) (k ∷ without_instance id known) (without_instance id known) (ap not stays))
      ∙ ap (λ (o : Option KnownInstance). cond (has_id row.id k) (Some k) o) (row_without id row known apart)
]
  where
    other_id : (t : Bool) → has_id row.id k ≡ t → has_id id k ≡ true → has_id row.id k ≡ false
    other_id false is gone = is
    other_id true is gone = absurd (apart (sym ((bytes_eq-Decides k.row.id.0 row.id.0).0 is) ∙ (bytes_eq-Decides k.row.id.0 id.0).0 gone))

rows_without : (id : InstId) (known : List KnownInstance) (rows : List InstRow) → All (λ row. row.id.0 ≢ id.0) rows → All (IsKnownRow known) rows → All (IsKnownRow (without_instance id known)) rows
rows_without id known [] others all = All-nil (IsKnownRow (without_instance id known))
rows_without id known (r ∷ rows) others all =
    All-cons (IsKnownRow (without_instance id known)) r rows
    (ap (option_map (λ k. k.row)) (row_without id r known (All-head (λ (i : InstRow). i.id.0 ≢ id.0) r rows others)) ∙ All-head (IsKnownRow known) r rows all)
    (rows_without id known rows (All-tail (λ (i : InstRow). i.id.0 ≢ id.0) r rows others) (All-tail (IsKnownRow known) r rows all))

contains_without : (id : InstId) (known : List KnownInstance) (k : KnownInstance) → k.row.id.0 ≢ id.0 → Contains known k → Contains (without_instance id known) k
contains_without id known k apart c = All-contains (λ (j : KnownInstance). j.row.id.0 ≢ id.0 → Contains (without_instance id known) j) known k (back known (All-contains_itself (without_instance id known))) c apart
  where
    back : (ks : List KnownInstance) → All (Contains (without_instance id known)) (without_instance id ks) → All (λ j. j.row.id.0 ≢ id.0 → Contains (without_instance id known) j) ks
    back [] a = All-nil (λ (j : KnownInstance). j.row.id.0 ≢ id.0 → Contains (without_instance id known) j)
    back (j ∷ ks) a = elim (cases_Bool (has_id id j)) [
      | inl gone ↦ All-cons (λ (x : KnownInstance). x.row.id.0 ≢ id.0 → Contains (without_instance id known) x) j ks (λ other. absurd (other ((bytes_eq-Decides j.row.id.0 id.0).0 gone)))
          (back ks (subst (All (Contains (without_instance id known))) (cond-false (not (has_id id j)) (j ∷ without_instance id ks) (without_instance id ks) (ap not gone)) a))
      | inr stays ↦
          let b : All (Contains (without_instance id known)) (j ∷ without_instance id ks) = subst (All (Contains (without_instance id known))) (cond-true (not (has_id id j)) (j ∷ without_instance id ks) (without_instance id ks) (ap not stays)) a in
          All-cons (λ (x : KnownInstance). x.row.id.0 ≢ id.0 → Contains (without_instance id known) x) j ks (λ other. All-head (Contains (without_instance id known)) j (without_instance id ks) b) (back ks (All-tail (Contains (without_instance id known)) j (without_instance id ks) b))
    ]

-- an own save's instances read as they did
other_besides : (h i : List ℕ) (a b : DiskState) (row : InstRow) (rows : List MapRecord) → SameBesides h i a b → row.id.0 ≢ i → NameOthers i rows → All (λ own. own.origin ≡ 0 → All (λ inst. IsOtherThan a inst row) own.instances) rows
    → All (λ own. own.origin ≡ 0 → All (λ inst. IsOtherThan b inst row) own.instances) rows
other_besides h i a b row rows same apart others all = λ k d lt origin j e lt2 kind before is.
    all k d lt origin j e lt2 kind before
    (sym (besides_reads h i a b (instance_file row) same (inst_apart row apart)) ∙ is
    ∙ besides_reads h i a b (instance_file (get_or (get_or rows k d).instances j e)) same (inst_apart (get_or (get_or rows k d).instances j e) (others k d lt j e lt2)))
  where
    inst_apart : (inst : InstRow) → inst.id.0 ≢ i → instance_file inst ≢ file.Inst h i
    inst_apart inst other e = other (let w : file.Inst inst.hash.0 inst.id.0 ≡ file.Inst h i = e in cc w)

there_besides : (h : List ℕ) (id : InstId) (known : List KnownInstance) (a b : DiskState) → SameBesides h id.0 a b → reading (b (file.Inst h id.0)) ≡ None → ((k : KnownInstance) → Contains known k → k.row.id.0 ≡ id.0 → k.row.hash.0 ≡ h) → AreInstancesThere known a → AreInstancesThere (without_instance id known) b
there_besides h id known a b same gone one t = record {
  whole = All-weaker (λ (k : KnownInstance). IsThereWhole (files_of a) k.row × (k.row.id.0 ≢ id.0)) (λ (k : KnownInstance). IsThereWhole (files_of b) k.row)
      (λ k w. record { octets = w.0.octets; there = inst_besides h id.0 a b k.row same w.1 ∙ w.0.there; size = w.0.size }) (without_instance id known) (all_without id (λ k. IsThereWhole (files_of a) k.row) known t.whole);
  only = λ hash other octets e.
      let apart : file.Inst hash other ≢ file.Inst h id.0 = λ is. let w : None ≡ Some octets = sym gone ∙ ap (λ (n : FileName). reading (b n)) (sym is) ∙ e in cc w in
      let k = t.only hash other octets (sym (besides_reads h id.0 a b (file.Inst hash other) same apart) ∙ e) in
      (k.0, contains_without id known k.0 (λ same_id. apart (sym k.2 ∙ ap (λ (x : List ℕ). file.Inst x k.0.row.id.0) (one k.0 k.1 same_id) ∙ ap (file.Inst h) same_id)) k.1, k.2);
}

-- the others may be named by a record that is made, if they could be before
firm_besides : (h : List ℕ) (id : InstId) (known : List KnownInstance) (m : MapMeaning) (a b : DiskState) → SameBesides h id.0 a b → NameOthers id.0 m.records → AreInstancesFirm known m a → AreInstancesFirm (without_instance id known) m b
firm_besides h id known m a b same others firm =
    All-weaker (λ (k : KnownInstance). IsFirmInstance m a k.row × (k.row.id.0 ≢ id.0)) (λ (k : KnownInstance). IsFirmInstance m b k.row) (λ k w. still k w.1 w.0) (without_instance id known) (all_without id (λ k. IsFirmInstance m a k.row) known firm)
  where
    still : (k : KnownInstance) → k.row.id.0 ≢ id.0 → IsFirmInstance m a k.row → IsFirmInstance m b k.row
    still k apart f =
        let file_apart : instance_file k.row ≢ file.Inst h id.0 = λ e. apart (let w : file.Inst k.row.hash.0 k.row.id.0 ≡ file.Inst h id.0 = e in cc w) in
        record {
          left = λ left may. f.left left (subst (λ (g : FileState). MayLeave g left) (same (instance_file k.row) file_apart) may) ∙ sym (besides_reads h id.0 a b (instance_file k.row) same file_apart);
          other = other_besides h id.0 a b k.row m.records same apart others f.other;
        }

named_apart : (id : InstId) (rows : List MapRecord) → NameOthers id.0 rows → All (λ row. row.id.0 ≢ id.0) (flat_map (λ row. row.instances) rows)
named_apart id rows all = of_named (λ (i : InstRow). i.id.0 ≢ id.0) rows all

-- ---- by what the call has at hand

-- the hash of the one that is known of this id
abbrev pub hash_of : InstId → List KnownInstance → List ℕ
hash_of id known = option_map_or (λ k. k.row.hash.0) (instance_in id known) []

pub one_known : (value : InstancesValue) (id : InstId) → AreInstances value → (k : KnownInstance) → Contains value.known k → k.row.id.0 ≡ id.0 → k.row.hash.0 ≡ hash_of id value.known
one_known value id are k c same =
    let is : instance_in id value.known ≡ Some k = ap (λ (x : InstId). instance_in x value.known) (sym (same_id k.row.id id same)) ∙ instance-in value.known k are.rising c in
    sym (ap (λ (o : Option KnownInstance). option_map_or (λ (x : KnownInstance). x.row.hash.0) o []) is)

pub grown : (P : ℕ → Files → Type 0) (old new : Option History) → EachImage P old new → Grows old new
grown P None new e = omega arith
grown P (Some a) None e = absurd e
grown P (Some a) (Some b) e = e.later

pub same_removed : (name : FileName) (old new : Option History) → new ≡ after (change name removed) old → SameButFor name old new
same_removed name old new is = same-goes_on name removed old old new (same-begins name old) is

pub gone_removed : (name : FileName) (old new : Option History) → new ≡ after (change name removed) old → IfTold new (λ now. reading (now name) ≡ None)
gone_removed name None new is = subst (λ (h : Option History). IfTold h (λ now. reading (now name) ≡ None)) (sym is) tt
gone_removed name (Some old) new is = subst (λ (h : Option History). IfTold h (λ now. reading (now name) ≡ None)) (sym is) (ap reading (change-here name removed old.now))

pub known_without : {D : Type 0} → (h : List ℕ) (id : InstId) (old new : Option History) (v : StoreValue D) (disk : D) (instances : InstancesValue) → HasKnownInstances old v → v.stopped ≡ false → NameOthers id.0 v.map.records → ((k : KnownInstance) → Contains v.instances.known k → k.row.id.0 ≡ id.0 → k.row.hash.0 ≡ h)
    → instances ≡ record v.instances { known = without_instance id v.instances.known } → SameButFor (file.Inst h id.0) old new → IfTold new (λ now. reading (now (file.Inst h id.0)) ≡ None) → HasKnownInstances new (record v { disk = disk; instances = instances })
known_without h id old new v disk instances k runs others one is same gone = subst (λ (x : InstancesValue). HasKnownInstances new (record v { disk = disk; instances = x })) (sym is) (record {
  kept = record { store = k.kept.store; highest = k.kept.highest; named = rows_without id v.instances.known (named_instances v.map) (named_apart id v.map.records others) k.kept.named };
  running = λ _. go old new same gone (k.running runs);
})
  where
    go : (a b : Option History) → SameButFor (file.Inst h id.0) a b → IfTold b (λ now. reading (now (file.Inst h id.0)) ≡ None) → IfTold a (AreInstancesThere v.instances.known) → IfTold b (AreInstancesThere (without_instance id v.instances.known))
    go None b s g t = subst (λ (x : Option History). IfTold x (AreInstancesThere (without_instance id v.instances.known))) (sym s) tt
    go (Some a) None s g t = absurd s
    go (Some a) (Some b) s g t = there_besides h id v.instances.known a.now b.now s g one t

pub firm_without : {D : Type 0} → (h : List ℕ) (id : InstId) (old new : Option History) (v : StoreValue D) (disk : D) (instances : InstancesValue) → NameOthers id.0 v.map.records → instances ≡ record v.instances { known = without_instance id v.instances.known } → SameButFor (file.Inst h id.0) old new
    → KeepsFirm v (record v { disk = disk; instances = instances }) old new
firm_without h id old new v disk instances others is same = record {
  stays = subst (λ (x : InstancesValue). Between (λ a b. AreInstancesFirm v.instances.known v.map a → AreInstancesFirm x.known v.map b) old new) (sym is)
      (between-map (SameBesides h id.0) (λ a b. AreInstancesFirm v.instances.known v.map a → AreInstancesFirm (without_instance id v.instances.known) v.map b) old new (λ a b s firm. firm_besides h id v.instances.known v.map a b s others firm) same);
}

-- the records of a settled disk's map are the store's
settled_others : {D : Type 0} → (i : List ℕ) (old : History) (v : StoreValue D) (lists : Lists) → IsStore (Some old) v → v.stopped ≡ false → NameOthers i v.map.records → (s : IsSettled old.now lists) → NameOthers i (map_meaning s.store s.entries).records
settled_others i old v lists st runs others s =
    let r = st.running runs in
    let one = map_same (files_of old.now) v.map.store s.store st.entries s.entries r.opens.passed.map_log s.safe.stands.map_log in
    subst (λ (m : MapMeaning). NameOthers i m.records) (st.map_is ∙ ap (λ (id : List ℕ). map_meaning id st.entries) one.0 ∙ ap (map_meaning s.store) one.1) others

pub leaves_without : {D : Type 0} → (h i : List ℕ) (old new : Option History) (v : StoreValue D) → IsStore old v → v.stopped ≡ false → NameOthers i v.map.records → IfTold old Own → EachImage (λ _ image. OthersStay (file.Inst h i) old image) old new → (lists : Lists) → IsSettledFor lists old
    → Leaves lists lists old new
leaves_without h i None new v s runs others own each lists settled = absurd settled
leaves_without h i (Some old) new v s runs others own each lists settled =
    each_image-map (λ _ image. OthersStay (file.Inst h i) (Some old) image) (λ _ image. Safe image lists ⊎ Safe image lists) (Some old) new
    (λ moment image left. inl (inst_removed_safe old.now lists settled h i image own left (settled_others i old v lists s runs others settled))) each

pub settled_without : {D : Type 0} → (h i : List ℕ) (old new : Option History) (v : StoreValue D) → IsStore old v → v.stopped ≡ false → NameOthers i v.map.records → IfTold old Own → SameButFor (file.Inst h i) old new → (lists : Lists) → IsSettledFor lists old → IsSettledFor lists new
settled_without h i None new v s runs others own same lists settled = absurd settled
settled_without h i (Some old) None v s runs others own same lists settled = absurd same
settled_without h i (Some old) (Some new) v s runs others own same lists settled = settled_besides h i old.now new.now lists own same settled (settled_others i old v lists s runs others settled)

pub stored_without : (h i : List ℕ) (old new : Option History) → SameButFor (file.Inst h i) old new → KeepsStoredBeside i old new
stored_without h i old new same =
    between-map (SameBesides h i) (λ a b. (row : MapRecord) (octets : List ℕ) → All (λ inst. inst.id.0 ≢ i) row.instances → StoresMessage (files_of a) row octets → StoresMessage (files_of b) row octets) old new
    (λ a b c row octets others k. stored_besides h i a b row octets c others k) same

pub mail_without : (h i : List ℕ) (old new : Option History) (m : MapMeaning) → NameOthers i m.records → EachImage (λ _ image. OthersStay (file.Inst h i) old image) old new → MailIsKept m old new
mail_without h i old new m others each = kept_beside m (file.Inst h i) old new unknown each
  where
    unknown : IsUnknownTo m (file.Inst h i)
    unknown f octets =
        All-weaker (λ (row : MapRecord). All (λ (inst : InstRow). inst.id.0 ≢ i) row.instances) (λ (row : MapRecord). All (λ (inst : InstRow). inst.hash.0 ≡ h → inst.id.0 ≡ i → MayLeave f octets) row.instances)
        (λ row r. All-weaker (λ (inst : InstRow). inst.id.0 ≢ i) (λ (inst : InstRow). inst.hash.0 ≡ h → inst.id.0 ≡ i → MayLeave f octets) (λ inst apart hash is. absurd (apart is)) row.instances r) m.records others
