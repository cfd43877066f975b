-- What a store knows of its instances, over changes of other files and entries of the map log.
use Rattle.store_core.proofs.Common.{Contains, not, filter, inl, inr, ◌≡◌, ◌≢◌, ℕ, Bool, true, false, List, [], ◌∷◌, ◌++◌, map, get_or, Option, Some, None, All, refl, sym, ◌∙◌, ap, subst, cond-true, true≢false, option_map, All-nil, All-cons, All-head, All-tail, All-contains, All-append}
use Rattle.store_core.proofs.Common.{All-contains_itself, All-weaker, FileState, DiskState, History, MayLeave, IfTold, Between, SameState, SameButFor, reading, named, FileName, between-map, between-on, if_told-map, named-narrows, BoxEntry, Highest, InstRow, MapEntry, InstId, stored_row, MapRecord}
use Rattle.store_core.proofs.Common.{MapMeaning, map_applied, record_made, record_changed, record_rules, named_instances, FileNo, MapUid, MapPlace, kept_all, kept_rows, changed_same, IsThereWhole, files_of, InstancesValue, instance_in, has_id, with_holders, KnownInstance, OthersAreNamed, KeepsFirm}
use Rattle.store_core.proofs.Common.{IsAppendable, NamesKnown, NamesFirst, drawn_by, IsStore, IsOtherThan, IsFirstKnown, IsKnownRow, AreInstancesFirm, AreInstancesThere, HasKnownInstances, StoreValue, OpenBox}
use Rattle.std.proofs.Common.{flat_map, if◌then◌else◌}
use Rattle.std.proofs.lemmas.Grind.{flat_map-append}
use Rattle.disk_model.specs.declared.name.FileName.TheVariants as file
use Rattle.disk_model.proofs.BetweenLemmas.{between-begins}
use Rattle.mdbox_base.specs.declared.entries.MapEntry.TheVariants as entry
use Rattle.model_meaning.specs.MapMeaning.{record_dropped}
use Rattle.model_meaning.proofs.AppliedLemmas.{records_by_purged}
use Rattle.store_core.specs.Keeping.{NameTheSame, SyncsInstances, origin_and_names}
use Rattle.store_core.specs.StoreInstances.{AreInstancesKept}
use Rattle.store_core.proofs.BoxAppendLemmas.{Placed, own_box}
use Rattle.store_core.proofs.EntryFileLemmas.{LeavesPlaces, none_dropped}
use Rattle.store_core.proofs.InstanceAppendLemmas.{names_made, of_named, parts_of}
use Rattle.store_core.proofs.MailChangeLemmas.{named_reads}
use Rattle.store_core.proofs.MapAppendLemmas.{leaves_places}

-- ---- disks that have the same instances

-- Instances read as before, and a crash leaves of them what it could.
pub record SameInstances (a b : DiskState) : Type 0 where
  pub reads : (hash id : List ℕ) → reading (b (file.Inst hash id)) ≡ reading (a (file.Inst hash id))
  pub leaves : (hash id : List ℕ) (left : Option (List ℕ)) → MayLeave (b (file.Inst hash id)) left → MayLeave (a (file.Inst hash id)) left

-- a file that is no instance
abbrev pub IsNoInstance : FileName → Type 0
IsNoInstance name = (hash id : List ℕ) → file.Inst hash id ≢ name

pub instances_beside : (name : FileName) (old new : Option History) → IsNoInstance name → SameButFor name old new → Between SameInstances old new
instances_beside name old new apart same =
    between-map (λ a b. (other : FileName) → other ≢ name → b other ≡ a other) SameInstances old new (λ a b s. record {
      reads = λ h i. ap reading (s (file.Inst h i) (apart h i));
      leaves = λ h i left may. subst (λ (f : FileState). MayLeave f left) (s (file.Inst h i) (apart h i)) may;
    }) same

pub instances_named : (name : FileName) (old new : Option History) → IsNoInstance name → OthersAreNamed name old new → Between SameInstances old new
instances_named name old new apart same =
    between-map (λ a b. (other : FileName) → other ≢ name → b other ≡ named (a other)) SameInstances old new (λ a b s. record {
      reads = λ h i. ap reading (s (file.Inst h i) (apart h i)) ∙ named_reads (a (file.Inst h i));
      leaves = λ h i left may. named-narrows (a (file.Inst h i)) left (subst (λ (f : FileState). MayLeave f left) (s (file.Inst h i) (apart h i)) may);
    }) same

pub instances_idle : (old new : Option History) → SameState old new → Between SameInstances old new
instances_idle old new same =
    between-map (λ a b. b ≡ a) SameInstances old new (λ a b e. record {
      reads = λ h i. ap (λ (d : DiskState). reading (d (file.Inst h i))) e;
      leaves = λ h i left may. subst (λ (d : DiskState). MayLeave (d (file.Inst h i)) left) e may;
    }) same

pub mail_is_none : (number : ℕ) → IsNoInstance (file.Mail number)
mail_is_none number = λ h i e. absurd (let w : file.Inst h i ≡ file.Mail number = e in cc w)

pub map_is_none : (name : FileName) (generation : ℕ) → name ≡ file.Map generation → IsNoInstance name
map_is_none name generation is = λ h i e. absurd (let w : file.Inst h i ≡ file.Map generation = e ∙ is in cc w)

pub root_is_none : IsNoInstance file.Root
root_is_none = λ h i e. absurd (let w : file.Inst h i ≡ file.Root = e in cc w)

pub box_is_none : (name : FileName) (number generation : ℕ) → name ≡ file.Box number generation → IsNoInstance name
box_is_none name number generation is = λ h i e. absurd (let w : file.Inst h i ≡ file.Box number generation = e ∙ is in cc w)

-- ---- what is there

-- no own save names a later instance with this one's octets
abbrev pub IsOtherAll : MapMeaning → DiskState → InstRow → Type 0
IsOtherAll m disk row = All (λ own. own.origin ≡ 0 → All (λ inst. IsOtherThan disk inst row) own.instances) m.records

-- and none does by the other map
abbrev pub KeepsOther : List KnownInstance → MapMeaning → MapMeaning → DiskState → Type 0
KeepsOther known m n disk = All (λ k. IsOtherAll m disk k.row → IsOtherAll n disk k.row) known

other_on : (m : MapMeaning) (a b : DiskState) (row : InstRow) → SameInstances a b → IsOtherAll m a row → IsOtherAll m b row
other_on m a b row c h =
    All-weaker (λ (own : MapRecord). own.origin ≡ 0 → All (λ inst. IsOtherThan a inst row) own.instances) (λ (own : MapRecord). own.origin ≡ 0 → All (λ inst. IsOtherThan b inst row) own.instances)
    (λ own f origin. All-weaker (λ (inst : InstRow). IsOtherThan a inst row) (λ (inst : InstRow). IsOtherThan b inst row)
    (λ inst g kind before e. g kind before (sym (c.reads row.hash.0 row.id.0) ∙ e ∙ c.reads inst.hash.0 inst.id.0)) own.instances (f origin)) m.records h

there_on : (known : List KnownInstance) (a b : DiskState) → SameInstances a b → AreInstancesThere known a → AreInstancesThere known b
there_on known a b c t = record {
  whole = All-weaker (λ (k : KnownInstance). IsThereWhole (files_of a) k.row) (λ (k : KnownInstance). IsThereWhole (files_of b) k.row)
      (λ k w. record { octets = w.octets; there = c.reads k.row.hash.0 k.row.id.0 ∙ w.there; size = w.size }) known t.whole;
  only = λ hash id octets e. t.only hash id octets (sym (c.reads hash id) ∙ e);
}

-- and those that may be named may be so still
pub firm_on : (known : List KnownInstance) (m n : MapMeaning) (a b : DiskState) → KeepsOther known m n a → SameInstances a b → AreInstancesFirm known m a → AreInstancesFirm known n b
firm_on known m n a b others c firm = λ i d lt.
    let row : InstRow = (get_or known i d).row in
    record {
      left = λ left may. (firm i d lt).left left (c.leaves row.hash.0 row.id.0 left may) ∙ sym (c.reads row.hash.0 row.id.0);
      other = other_on n a b row c (others i d lt (firm i d lt).other);
    }

-- ---- the store

-- on another disk, with other parts
pub instances_on : {D : Type 0} → (old new : Option History) (v w : StoreValue D) → HasKnownInstances old v → Between SameInstances old new → w.instances ≡ v.instances → w.drawn.instance ≡ v.drawn.instance → w.map ≡ v.map → (w.stopped ≡ false → v.stopped ≡ false)
    → HasKnownInstances new w
instances_on old new v w k change instances drawn m runs = record {
  kept = subst (λ (i : InstancesValue). AreInstancesKept i w.drawn w.map) (sym instances)
      (subst (λ (n : MapMeaning). AreInstancesKept v.instances w.drawn n) (sym m) (record { store = k.kept.store; highest = k.kept.highest ∙ sym drawn; named = k.kept.named }));
  running = λ on. subst (λ (i : InstancesValue). IfTold new (AreInstancesThere i.known)) (sym instances)
      (between-on SameInstances (AreInstancesThere v.instances.known) (AreInstancesThere v.instances.known) old new (λ a b c t. there_on v.instances.known a b c t) change (k.running (runs on)));
}

-- stopped after a change that failed
pub instances_stopped : {D : Type 0} → (old new : Option History) (v w : StoreValue D) → HasKnownInstances old v → w.instances ≡ v.instances → w.drawn.instance ≡ v.drawn.instance → w.map ≡ v.map → w.stopped ≡ true → HasKnownInstances new w
instances_stopped old new v w k instances drawn m stops = record {
  kept = subst (λ (i : InstancesValue). AreInstancesKept i w.drawn w.map) (sym instances)
      (subst (λ (n : MapMeaning). AreInstancesKept v.instances w.drawn n) (sym m) (record { store = k.kept.store; highest = k.kept.highest ∙ sym drawn; named = k.kept.named }));
  running = λ on. absurd (true≢false (sym stops ∙ on));
}

-- ---- by what the calls have at hand

pub instances_still : {D : Type 0} → (h : Option History) (v w : StoreValue D) → HasKnownInstances h v → w.instances ≡ v.instances → w.drawn.instance ≡ v.drawn.instance → w.map ≡ v.map → (w.stopped ≡ false → v.stopped ≡ false) → HasKnownInstances h w
instances_still h v w k instances drawn m runs =
    instances_on h h v w k (between-begins SameInstances h (λ disk. record { reads = λ hash id. refl; leaves = λ hash id left may. may })) instances drawn m runs

pub instances_placed : {D : Type 0} → (n : ℕ) (old new : Option History) (v w : StoreValue D) → HasKnownInstances old v → SameButFor (file.Mail n) old new → w.instances ≡ v.instances → w.drawn.instance ≡ v.drawn.instance → w.map ≡ v.map → (w.stopped ≡ false → v.stopped ≡ false)
    → HasKnownInstances new w
instances_placed n old new v w k same instances drawn m runs = instances_on old new v w k (instances_beside (file.Mail n) old new (mail_is_none n) same) instances drawn m runs

pub instances_made : {D : Type 0} → (n : ℕ) (old new : Option History) (v w : StoreValue D) → HasKnownInstances old v → OthersAreNamed (file.Mail n) old new → w.instances ≡ v.instances → w.drawn.instance ≡ v.drawn.instance → w.map ≡ v.map → (w.stopped ≡ false → v.stopped ≡ false)
    → HasKnownInstances new w
instances_made n old new v w k same instances drawn m runs = instances_on old new v w k (instances_named (file.Mail n) old new (mail_is_none n) same) instances drawn m runs

pub instances_since : {D : Type 0} → (old new : Option History) (v w : StoreValue D) → HasKnownInstances old v → SameState old new → w.instances ≡ v.instances → w.drawn.instance ≡ v.drawn.instance → w.map ≡ v.map → (w.stopped ≡ false → v.stopped ≡ false) → HasKnownInstances new w
instances_since old new v w k same instances drawn m runs = instances_on old new v w k (instances_idle old new same) instances drawn m runs

pub instances_boxed : {D : Type 0} → (old new : Option History) (v w : StoreValue D) (k : ℕ) (b : OpenBox) (number : ℕ) (e : BoxEntry) → Placed old v k b number e → HasKnownInstances old v → SameButFor b.log.name old new → w.instances ≡ v.instances → w.drawn.instance ≡ v.drawn.instance → w.map ≡ v.map
    → HasKnownInstances new w
instances_boxed old new v w k b number e p known same instances drawn m =
    let q = own_box old v k b number e p in
    instances_on old new v w known (instances_beside b.log.name old new (box_is_none b.log.name q.box.number q.box.generation q.name) same) instances drawn m (λ on. p.running)

-- ---- holders

pub row_held : (id other : InstId) (holders : ℕ) (known : List KnownInstance) → option_map (λ k. k.row) (instance_in other (with_holders id holders known)) ≡ option_map (λ k. k.row) (instance_in other known)
row_held id other holders [] = refl
row_held id other holders (k ∷ known) = by_hit (has_id id k) (has_id other k) refl (row_held id other holders known)
  where
    by_hit : (hit found : Bool) → has_id other k ≡ found → option_map (λ k. k.row) (instance_in other (with_holders id holders known)) ≡ option_map (λ k. k.row) (instance_in other known)
        → option_map (λ k. k.row) (if has_id other (if hit then record k { holders = holders } else k) then Some (if hit then record k { holders = holders } else k) else instance_in other (with_holders id holders known))
        ≡ option_map (λ k. k.row) (if found then Some k else instance_in other known)
    by_hit true true e rest = ap (λ (t : Bool). option_map (λ (k : KnownInstance). k.row) (if t then Some (record k { holders = holders }) else instance_in other (with_holders id holders known))) e
    by_hit true false e rest = ap (λ (t : Bool). option_map (λ (k : KnownInstance). k.row) (if t then Some (record k { holders = holders }) else instance_in other (with_holders id holders known))) e ∙ rest
    by_hit false true e rest = ap (λ (t : Bool). option_map (λ (k : KnownInstance). k.row) (if t then Some k else instance_in other (with_holders id holders known))) e
    by_hit false false e rest = ap (λ (t : Bool). option_map (λ (k : KnownInstance). k.row) (if t then Some k else instance_in other (with_holders id holders known))) e ∙ rest

-- what holds of a row holds of it with other holders
pub all_held : (P : InstRow → Type 0) (id : InstId) (holders : ℕ) (known : List KnownInstance) → All (λ k. P k.row) known → All (λ k. P k.row) (with_holders id holders known)
all_held P id holders [] a = All-nil (λ (k : KnownInstance). P k.row)
all_held P id holders (k ∷ known) a =
    All-cons (λ (j : KnownInstance). P j.row) (if has_id id k then record k { holders = holders } else k) (with_holders id holders known)
    (by_hit (has_id id k)) (all_held P id holders known (All-tail (λ (j : KnownInstance). P j.row) k known a))
  where
    by_hit : (hit : Bool) → P (if hit then record k { holders = holders } else k).row
    by_hit true = All-head (λ (j : KnownInstance). P j.row) k known a
    by_hit false = All-head (λ (j : KnownInstance). P j.row) k known a

contains_map : {X Y : Type 0} → (f : X → Y) (xs : List X) (x : X) → Contains xs x → Contains (map f xs) (f x)
contains_map f xs x c = All-contains (λ y. Contains (map f xs) (f y)) xs x (back xs (All-contains_itself (map f xs))) c
  where
    back : (ys : List _) → All (Contains (map f xs)) (map f ys) → All (λ y. Contains (map f xs) (f y)) ys
    back [] a = All-nil (λ y. Contains (map f xs) (f y))
    back (y ∷ ys) a = All-cons (λ z. Contains (map f xs) (f z)) y ys (All-head (Contains (map f xs)) (f y) (map f ys) a) (back ys (All-tail (Contains (map f xs)) (f y) (map f ys) a))

there_held : (id : InstId) (holders : ℕ) (known : List KnownInstance) (disk : DiskState) → AreInstancesThere known disk → AreInstancesThere (with_holders id holders known) disk
there_held id holders known disk t = record {
  whole = all_held (IsThereWhole (files_of disk)) id holders known t.whole;
  only = λ hash other octets e.
      let k = t.only hash other octets e in
      (if has_id id k.0 then record k.0 { holders = holders } else k.0, contains_map (λ (j : KnownInstance). if has_id id j then record j { holders = holders } else j) known k.0 k.1, ap (λ (row : InstRow). file.Inst row.hash.0 row.id.0) (same_row (has_id id k.0) k.0) ∙ k.2);
}
  where
    same_row : (hit : Bool) (k : KnownInstance) → (if hit then record k { holders = holders } else k).row ≡ k.row
    same_row true k = refl
    same_row false k = refl

pub instances_holding : {D : Type 0} → (h : Option History) (v : StoreValue D) (instances : InstancesValue) (id : InstId) (holders : ℕ) → instances ≡ record v.instances { known = with_holders id holders v.instances.known } → HasKnownInstances h v → HasKnownInstances h (record v { instances = instances })
instances_holding h v instances id holders is k =
    subst (λ (i : InstancesValue). HasKnownInstances h (record v { instances = i })) (sym is) (record {
      kept = record {
        store = k.kept.store;
        highest = k.kept.highest;
        named = All-weaker (IsKnownRow v.instances.known) (IsKnownRow (with_holders id holders v.instances.known)) (λ row known. row_held id row.id holders v.instances.known ∙ known) (named_instances v.map) k.kept.named;
      };
      running = λ on. if_told-map (AreInstancesThere v.instances.known) (AreInstancesThere (with_holders id holders v.instances.known)) h (λ disk t. there_held id holders v.instances.known disk t) (k.running on);
    })

-- of all else nothing changes
pub store_holding : {D : Type 0} → (h : Option History) (v : StoreValue D) (instances : InstancesValue) → IsStore h v → IsStore h (record v { instances = instances })
store_holding h v instances s = record {
  entries = s.entries;
  logs = s.logs;
  generation = s.generation;
  good = s.good;
  map_is = s.map_is;
  boxes_are = s.boxes_are;
  counts = s.counts;
  drawn = s.drawn;
  files = s.files;
  root_name = s.root_name;
  root_head = s.root_head;
  map_name = s.map_name;
  map_head = s.map_head;
  box_logs = s.box_logs;
  some_lanes = s.some_lanes;
  few_lanes = s.few_lanes;
  running = λ runs. let r = s.running runs in record {
    opens = r.opens;
    root = r.root;
    root_entries = r.root_entries;
    root_log_reads = r.root_log_reads;
    map_log_reads = r.map_log_reads;
    box_logs_read = r.box_logs_read;
    files_known = r.files_known;
    files_stay = r.files_stay;
  };
}

-- ---- an entry of the map log

abbrev names_of : List MapRecord → List InstRow
names_of rows = flat_map (λ row. row.instances) rows

names_kept : (e : MapEntry) (rows : List MapRecord) → LeavesPlaces e → names_of (kept_rows record_rules e rows) ≡ names_of rows
names_kept e [] l = refl
names_kept e (row ∷ rows) l =
    let stays : not (record_dropped e row) ≡ true = ap not (none_dropped e row l) in
    ap (λ (rs : List MapRecord). names_of (map (record_changed e) rs)) (cond-true (not (record_dropped e row)) (row ∷ filter (λ r. not (record_dropped e r)) rows) (filter (λ r. not (record_dropped e r)) rows) stays)
    ∙ ap (λ (is : List InstRow). is ++ names_of (kept_rows record_rules e rows)) (changed_same e row).instances
    ∙ ap (λ (is : List InstRow). row.instances ++ is) (names_kept e rows l)

-- records name what they did, and the one that is made names its own
pub names_with : (e : MapEntry) (m : MapMeaning) → LeavesPlaces e → named_instances (map_applied e m) ≡ named_instances m ++ names_of (record_made e)
names_with e m l = flat_map-append (λ (row : MapRecord). row.instances) (kept_rows record_rules e m.records) (record_made e) ∙ ap (λ (is : List InstRow). is ++ names_of (record_made e)) (names_kept e m.records l)

all_known : (known : List KnownInstance) (e : MapEntry) (m : MapMeaning) → LeavesPlaces e → NamesKnown e known → All (IsKnownRow known) (named_instances m) → All (IsKnownRow known) (named_instances (map_applied e m))
all_known known e m l names all =
    subst (All (IsKnownRow known)) (sym (names_with e m l)) (All-append (IsKnownRow known) (named_instances m) (names_of (record_made e)) all (names_made e known names))

-- none of the known instances has the octets of a later one that the record names
other_made : (known : List KnownInstance) (e : MapEntry) (h : History) → NamesFirst e known (Some h) → All (λ k. All (λ own. own.origin ≡ 0 → All (λ inst. IsOtherThan h.now inst k.row) own.instances) (record_made e)) known
other_made known (entry.S o c u f p z g is) h first = λ i d lt.
    let row : InstRow = (get_or known i d).row in
    All-cons (λ (own : MapRecord). own.origin ≡ 0 → All (λ inst. IsOtherThan h.now inst row) own.instances) (stored_row o c u f p z g is) []
    (λ own. All-weaker (IsFirstKnown known h.now) (λ (inst : InstRow). IsOtherThan h.now inst row) (λ inst q. q i d lt) is (first own))
    (All-nil (λ (own : MapRecord). own.origin ≡ 0 → All (λ inst. IsOtherThan h.now inst row) own.instances))
other_made known (entry.U u) h first = λ i d lt. All-nil (λ (own : MapRecord). own.origin ≡ 0 → All (λ inst. IsOtherThan h.now inst (get_or known i d).row) own.instances)
other_made known (entry.D us) h first = λ i d lt. All-nil (λ (own : MapRecord). own.origin ≡ 0 → All (λ inst. IsOtherThan h.now inst (get_or known i d).row) own.instances)
other_made known (entry.T cs) h first = λ i d lt. All-nil (λ (own : MapRecord). own.origin ≡ 0 → All (λ inst. IsOtherThan h.now inst (get_or known i d).row) own.instances)
other_made known (entry.H x) h first = λ i d lt. All-nil (λ (own : MapRecord). own.origin ≡ 0 → All (λ inst. IsOtherThan h.now inst (get_or known i d).row) own.instances)
other_made known (entry.B b g n) h first = λ i d lt. All-nil (λ (own : MapRecord). own.origin ≡ 0 → All (λ inst. IsOtherThan h.now inst (get_or known i d).row) own.instances)
other_made known (entry.G b g) h first = λ i d lt. All-nil (λ (own : MapRecord). own.origin ≡ 0 → All (λ inst. IsOtherThan h.now inst (get_or known i d).row) own.instances)
other_made known (entry.P f t ms us) h first = λ i d lt. All-nil (λ (own : MapRecord). own.origin ≡ 0 → All (λ inst. IsOtherThan h.now inst (get_or known i d).row) own.instances)
other_made known (entry.E f) h first = λ i d lt. All-nil (λ (own : MapRecord). own.origin ≡ 0 → All (λ inst. IsOtherThan h.now inst (get_or known i d).row) own.instances)
other_made known (entry.X b cs) h first = λ i d lt. All-nil (λ (own : MapRecord). own.origin ≡ 0 → All (λ inst. IsOtherThan h.now inst (get_or known i d).row) own.instances)
other_made known (entry.V b n) h first = λ i d lt. All-nil (λ (own : MapRecord). own.origin ≡ 0 → All (λ inst. IsOtherThan h.now inst (get_or known i d).row) own.instances)

other_with : (known : List KnownInstance) (e : MapEntry) (m : MapMeaning) (h : History) → NamesFirst e known (Some h) → KeepsOther known m (map_applied e m) h.now
other_with known e m h first = λ i d lt others.
    let row : InstRow = (get_or known i d).row in
    All-append (λ (own : MapRecord). own.origin ≡ 0 → All (λ inst. IsOtherThan h.now inst row) own.instances) (kept_rows record_rules e m.records) (record_made e)
    (kept_all record_rules e m.records (λ own. own.origin ≡ 0 → All (λ inst. IsOtherThan h.now inst row) own.instances) (λ own. own.origin ≡ 0 → All (λ inst. IsOtherThan h.now inst row) own.instances)
    (λ own f origin. let same = changed_same e own in subst (All (λ (inst : InstRow). IsOtherThan h.now inst row)) (sym same.instances) (f (sym same.origin ∙ origin))) others)
    (other_made known e h first i d lt)

firm_entry : (known : List KnownInstance) (e : MapEntry) (m : MapMeaning) (old new : Option History) → NamesFirst e known old → Between SameInstances old new → Between (λ a b. AreInstancesFirm known m a → AreInstancesFirm known (map_applied e m) b) old new
firm_entry known e m None new first change = change
firm_entry known e m (Some old) None first change = absurd change
firm_entry known e m (Some old) (Some new) first change = λ firm. firm_on known m (map_applied e m) old.now new.now (other_with known e m old first) change firm

-- of a store, once such an entry was taken in
pub firm_with : {D : Type 0} → (name : FileName) (generation : ℕ) (old new : Option History) (v w : StoreValue D) (e : MapEntry) → NamesFirst e v.instances.known old → name ≡ file.Map generation → SameButFor name old new → w.instances ≡ v.instances → w.map ≡ map_applied e v.map → KeepsFirm v w old new
firm_with name generation old new v w e first is same instances m = record {
  stays = subst (λ (i : InstancesValue). Between (λ a b. AreInstancesFirm v.instances.known v.map a → AreInstancesFirm i.known w.map b) old new) (sym instances)
      (subst (λ (n : MapMeaning). Between (λ a b. AreInstancesFirm v.instances.known v.map a → AreInstancesFirm v.instances.known n b) old new) (sym m)
      (firm_entry v.instances.known e v.map old new first (instances_beside name old new (map_is_none name generation is) same)));
}

none_drawn : (e : MapEntry) (drawn : Highest) → (drawn_by e drawn).instance ≡ drawn.instance
none_drawn (entry.U u) drawn = refl
none_drawn (entry.D us) drawn = refl
none_drawn (entry.T cs) drawn = refl
none_drawn (entry.S o c u f p z g is) drawn = refl
none_drawn (entry.H h) drawn = refl
none_drawn (entry.B b g n) drawn = refl
none_drawn (entry.G b g) drawn = refl
none_drawn (entry.P f t ms us) drawn = refl
none_drawn (entry.E f) drawn = refl
none_drawn (entry.X b cs) drawn = refl
none_drawn (entry.V b n) drawn = refl

-- of any entry that leaves records where they are and names no instance
pub instances_changed : {D : Type 0} → (name : FileName) (generation : ℕ) (old new : Option History) (v w : StoreValue D) (e : MapEntry) → HasKnownInstances old v → LeavesPlaces e → NamesKnown e v.instances.known → name ≡ file.Map generation → SameButFor name old new
    → w.instances ≡ v.instances → w.drawn.instance ≡ v.drawn.instance → w.map ≡ map_applied e v.map → (w.stopped ≡ false → v.stopped ≡ false) → HasKnownInstances new w
instances_changed name generation old new v w e k places names is same instances drawn m runs = record {
  kept = subst (λ (i : InstancesValue). AreInstancesKept i w.drawn w.map) (sym instances)
      (subst (λ (n : MapMeaning). AreInstancesKept v.instances w.drawn n) (sym m) (record {
        store = k.kept.store;
        highest = k.kept.highest ∙ sym drawn;
        named = all_known v.instances.known e v.map places names k.kept.named;
      }));
  running = λ on. subst (λ (i : InstancesValue). IfTold new (AreInstancesThere i.known)) (sym instances)
      (between-on SameInstances (AreInstancesThere v.instances.known) (AreInstancesThere v.instances.known) old new (λ a b c t. there_on v.instances.known a b c t) (instances_beside name old new (map_is_none name generation is) same) (k.running (runs on)));
}

pub instances_with : {D : Type 0} → (name : FileName) (generation : ℕ) (old new : Option History) (v w : StoreValue D) (e : MapEntry) → HasKnownInstances old v → IsAppendable e → NamesKnown e v.instances.known → NamesFirst e v.instances.known old → name ≡ file.Map generation → SameButFor name old new
    → w.instances ≡ v.instances → w.drawn ≡ drawn_by e v.drawn → w.map ≡ map_applied e v.map → (w.stopped ≡ false → v.stopped ≡ false) → HasKnownInstances new w
instances_with name generation old new v w e k kind names first is same instances drawn m runs =
    instances_changed name generation old new v w e k (leaves_places e kind) names is same instances (ap (λ (d : Highest). d.instance) drawn ∙ none_drawn e v.drawn) m runs

-- ---- the log of a mailbox

-- made or removed, with all names synced
pub instances_logged : {D : Type 0} → (number generation : ℕ) (old new : Option History) (v w : StoreValue D) → HasKnownInstances old v → OthersAreNamed (file.Box number generation) old new → w.instances ≡ v.instances → w.drawn.instance ≡ v.drawn.instance → w.map ≡ v.map → (w.stopped ≡ false → v.stopped ≡ false)
    → HasKnownInstances new w
instances_logged number generation old new v w k same instances drawn m runs = instances_on old new v w k (instances_named (file.Box number generation) old new (box_is_none (file.Box number generation) number generation refl) same) instances drawn m runs

-- named by an entry of the map log, which leaves the records as they are
pub instances_naming : {D : Type 0} → (name : FileName) (generation : ℕ) (old new : Option History) (v w : StoreValue D) → HasKnownInstances old v → name ≡ file.Map generation → SameButFor name old new → w.instances ≡ v.instances → w.drawn.instance ≡ v.drawn.instance
    → w.map.store ≡ v.map.store → w.map.records ≡ v.map.records → (w.stopped ≡ false → v.stopped ≡ false) → HasKnownInstances new w
instances_naming name generation old new v w k is same instances drawn store records runs = record {
  kept = subst (λ (i : InstancesValue). AreInstancesKept i w.drawn w.map) (sym instances) (record {
    store = k.kept.store ∙ sym store;
    highest = k.kept.highest ∙ sym drawn;
    named = subst (λ (rows : List MapRecord). All (IsKnownRow v.instances.known) (names_of rows)) (sym records) k.kept.named;
  });
  running = λ on. subst (λ (i : InstancesValue). IfTold new (AreInstancesThere i.known)) (sym instances)
      (between-on SameInstances (AreInstancesThere v.instances.known) (AreInstancesThere v.instances.known) old new (λ a b c t. there_on v.instances.known a b c t) (instances_beside name old new (map_is_none name generation is) same) (k.running (runs on)));
}

-- by what the caller sees of the store
pub firm_seen : {D : Type 0} → (H : D → Option History) (v now w : StoreValue D) → v ≡ now → KeepsFirm v w (H v.disk) (H w.disk) → KeepsFirm now w (H now.disk) (H w.disk)
firm_seen H v now w same firm = subst (λ (n : StoreValue _). KeepsFirm n w (H n.disk) (H w.disk)) same firm

-- ---- maps that name the same

all_back : (P : ℕ × List InstRow → Type 0) (rows : List MapRecord) → All P (map origin_and_names rows) → All (λ row. P (origin_and_names row)) rows
all_back P [] a = All-nil (λ (row : MapRecord). P (origin_and_names row))
all_back P (row ∷ rows) a =
    All-cons (λ (r : MapRecord). P (origin_and_names r)) row rows (All-head P (origin_and_names row) (map origin_and_names rows) a)
    (all_back P rows (All-tail P (origin_and_names row) (map origin_and_names rows) a))

all_on : (P : ℕ × List InstRow → Type 0) (rows : List MapRecord) → All (λ row. P (origin_and_names row)) rows → All P (map origin_and_names rows)
all_on P [] a = All-nil P
all_on P (row ∷ rows) a =
    All-cons P (origin_and_names row) (map origin_and_names rows) (All-head (λ (r : MapRecord). P (origin_and_names r)) row rows a)
    (all_on P rows (All-tail (λ (r : MapRecord). P (origin_and_names r)) row rows a))

other_same : (known : List KnownInstance) (m n : MapMeaning) (disk : DiskState) → NameTheSame m n → KeepsOther known m n disk
other_same known m n disk names = λ i d lt others.
    let row : InstRow = (get_or known i d).row in
    let P : ℕ × List InstRow → Type 0 = λ p. p.0 ≡ 0 → All (λ inst. IsOtherThan disk inst row) p.1 in
    all_back P n.records (subst (All P) (sym names) (all_on P m.records others))

-- names that were synced
same_synced : (a b : DiskState) → SyncsInstances a b → SameInstances a b
same_synced a b s = record {
  reads = λ h i. elim (s h i) [
    | inl same ↦ ap reading same
    | inr synced ↦ ap reading synced ∙ named_reads (a (file.Inst h i))
  ];
  leaves = λ h i left may. elim (s h i) [
    | inl same ↦ subst (λ (f : FileState). MayLeave f left) same may
    | inr synced ↦ named-narrows (a (file.Inst h i)) left (subst (λ (f : FileState). MayLeave f left) synced may)
  ];
}

pub firm_same : {D : Type 0} → (old new : StoreValue D) (before after : Option History) → new.instances ≡ old.instances → NameTheSame old.map new.map → Between SyncsInstances before after → KeepsFirm old new before after
firm_same old new before after instances names synced = record {
  stays = subst (λ (i : InstancesValue). Between (λ a b. AreInstancesFirm old.instances.known old.map a → AreInstancesFirm i.known new.map b) before after) (sym instances)
      (between-map SyncsInstances (λ a b. AreInstancesFirm old.instances.known old.map a → AreInstancesFirm old.instances.known new.map b) before after
      (λ a b s firm. firm_on old.instances.known old.map new.map a b (other_same old.instances.known old.map new.map a names) (same_synced a b s) firm) synced);
}

-- ---- a storage file is switched

names_switched : (f : FileNo) (t : ℕ) (ms : List MapPlace) (us : List MapUid) (known : List KnownInstance) (rows : List MapRecord) → All (IsKnownRow known) (names_of rows) → All (IsKnownRow known) (names_of (kept_rows record_rules (entry.P f t ms us) rows))
names_switched f t ms us known rows all =
    of_named (IsKnownRow known) (kept_rows record_rules (entry.P f t ms us) rows)
    (kept_all record_rules (entry.P f t ms us) rows (λ row. All (IsKnownRow known) row.instances) (λ row. All (IsKnownRow known) row.instances)
    (λ row a. subst (All (IsKnownRow known)) (sym (changed_same (entry.P f t ms us) row).instances) a) (parts_of (IsKnownRow known) rows all))

-- fewer records name no more of them
other_switched : (f : FileNo) (t : ℕ) (ms : List MapPlace) (us : List MapUid) (known : List KnownInstance) (m : MapMeaning) (disk : DiskState) → KeepsOther known m (map_applied (entry.P f t ms us) m) disk
other_switched f t ms us known m disk = λ i d lt others.
    let row : InstRow = (get_or known i d).row in
    subst (All (λ (own : MapRecord). own.origin ≡ 0 → All (λ inst. IsOtherThan disk inst row) own.instances)) (sym (records_by_purged f t ms us m.records))
    (kept_all record_rules (entry.P f t ms us) m.records (λ own. own.origin ≡ 0 → All (λ inst. IsOtherThan disk inst row) own.instances) (λ own. own.origin ≡ 0 → All (λ inst. IsOtherThan disk inst row) own.instances)
    (λ own g origin. let same = changed_same (entry.P f t ms us) own in subst (All (λ (inst : InstRow). IsOtherThan disk inst row)) (sym same.instances) (g (sym same.origin ∙ origin))) others)

-- so those that may be named may be so still
pub firm_switched : {D : Type 0} → (generation : ℕ) (old new : Option History) (v w : StoreValue D) (f : FileNo) (t : ℕ) (ms : List MapPlace) (us : List MapUid) → v.map_log.name ≡ file.Map generation → SameButFor v.map_log.name old new → w.instances ≡ v.instances → w.map ≡ map_applied (entry.P f t ms us) v.map → KeepsFirm v w old new
firm_switched generation old new v w f t ms us name same instances m = record {
  stays = subst (λ (i : InstancesValue). Between (λ a b. AreInstancesFirm v.instances.known v.map a → AreInstancesFirm i.known w.map b) old new) (sym instances)
      (subst (λ (n : MapMeaning). Between (λ a b. AreInstancesFirm v.instances.known v.map a → AreInstancesFirm v.instances.known n b) old new) (sym m)
      (between-map SameInstances (λ a b. AreInstancesFirm v.instances.known v.map a → AreInstancesFirm v.instances.known (map_applied (entry.P f t ms us) v.map) b) old new
      (λ a b c firm. firm_on v.instances.known v.map (map_applied (entry.P f t ms us) v.map) a b (other_switched f t ms us v.instances.known v.map a) c firm) (instances_beside v.map_log.name old new (map_is_none v.map_log.name generation name) same)));
}

pub instances_switched : {D : Type 0} → (old new : Option History) (v w : StoreValue D) (generation : ℕ) → v.map_log.name ≡ file.Map generation → (f : FileNo) (t : ℕ) (ms : List MapPlace) (us : List MapUid) → w.map ≡ map_applied (entry.P f t ms us) v.map → w.instances ≡ v.instances → w.drawn ≡ v.drawn → w.stopped ≡ v.stopped
    → SameButFor v.map_log.name old new → HasKnownInstances old v → HasKnownInstances new w
instances_switched old new v w generation name f t ms us m instances drawn stopped same k = record {
  kept = subst (λ (i : InstancesValue). AreInstancesKept i w.drawn w.map) (sym instances)
      (subst (λ (n : MapMeaning). AreInstancesKept v.instances w.drawn n) (sym m) (record {
        store = k.kept.store;
        highest = k.kept.highest ∙ ap (λ (d : Highest). d.instance) (sym drawn);
        named = subst (λ (rows : List MapRecord). All (IsKnownRow v.instances.known) (names_of rows)) (sym (records_by_purged f t ms us v.map.records)) (names_switched f t ms us v.instances.known v.map.records k.kept.named);
      }));
  running = λ on. subst (λ (i : InstancesValue). IfTold new (AreInstancesThere i.known)) (sym instances)
      (between-on SameInstances (AreInstancesThere v.instances.known) (AreInstancesThere v.instances.known) old new (λ a b c t. there_on v.instances.known a b c t) (instances_beside v.map_log.name old new (map_is_none v.map_log.name generation name) same) (k.running (sym stopped ∙ on)));
}
