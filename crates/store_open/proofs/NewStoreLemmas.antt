-- A new store, as it is opened.
use Rattle.std.proofs.Common.{◌≡◌, ℕ, false, List, [], ◌∷◌, length, Option, Some, None, refl, sym, ◌∙◌, ap, subst, arith, lit≤, lit<}
use Rattle.std.proofs.lemmas.List.Elements.{All-nil}
use Rattle.disk_model.specs.Disk.{FileState, DiskState, History, IfTold, reading}
use Rattle.disk_model.specs.declared.name.FileName.TheVariants as file
use Rattle.disk_model.proofs.MomentLemmas.{if_told-all, if_told-map, if_told-both}
use Rattle.mdbox_base.specs.declared.entries.MapEntry.{MapEntry}
use Rattle.mdbox_base.specs.declared.ids.StoreId.{StoreId}
use Rattle.model_meaning.specs.BoxMeaning.{box_meaning}
use Rattle.model_logs.specs.Entries.{root_text, map_text}
use Rattle.model_store.specs.GoodLogs.{AreGoodLogs}
use Rattle.model_logs.specs.LogFile.{HeadFits}
use Rattle.model_meaning.specs.MapFits.{MapFits}
use Rattle.model_meaning.specs.MapMeaning.{MapMeaning, map_meaning}
use Rattle.model_store.proofs.NewStoreLemmas.{new_safe_by}
use Rattle.model_store.specs.Opening.{Opens, IsNewStore, first_root, first_box}
use Rattle.model_store.specs.Safe.{IsThereWhole}
use Rattle.model_store.specs.Settled.{files_of}
use Rattle.model_store.proofs.StoreExampleLemmas.{inbox_is_name}
use Rattle.gate_log.specs.State.{LogState}
use Rattle.gate_log.specs.Log.{Holds}
use Rattle.std.specs.Option.{option_map}
use Rattle.sis_store.specs.Instances.{InstancesValue}
use Rattle.sis_store.specs.declared.instance.KnownInstance.{KnownInstance}
use Rattle.storage_files.specs.Files.{file_in}
use Rattle.storage_files.specs.declared.file.MailFile.{MailFile}
use Rattle.store_core.specs.Files.{LiesBelowEnd, StayThere}
use Rattle.store_core.specs.Running.{IsStore}
use Rattle.store_core.specs.StoreInstances.{IsKnownRow, AreInstancesThere, HasKnownInstances}
use Rattle.store_core.specs.Value.{StoreValue, none_due, newly_open}
use Rattle.store_core.specs.declared.store.OpenBox.{OpenBox}
use Rattle.store_core.specs.declared.store.OpenLogs.{OpenLogs}
use Rattle.std.specs.declared.alloc.Global.{Global}
use Rattle.store_open.specs.Making.{IsMadeStore, new_root_head, new_map_head, inbox_head, no_files, no_instances}
use Rattle.store_open.proofs.FirstFilesLemmas.{made-new}

-- ---- the map

new_fits : (store : List ℕ) → MapFits (map_meaning store []) first_box
new_fits store = record { box_number = record { low = lit≤ tt; high = lit≤ tt }; box_new = lit< tt; first = record { low = lit≤ tt; high = lit≤ tt }; name_new = All-nil _; room = lit< tt }

pub first_fits : (store : List ℕ) (m : MapMeaning) (entry : MapEntry) → m ≡ map_meaning store [] → entry ≡ first_box → MapFits m entry
first_fits store m entry e f = subst (λ (k : MapMeaning). MapFits k entry) (sym e) (subst (λ (x : MapEntry). MapFits (map_meaning store []) x) (sym f) (new_fits store))

-- ---- the store

new_opens : (store : List ℕ) (disk : DiskState) → IsNewStore (files_of disk) store → Opens (files_of disk) store (first_box ∷ []) ([] ∷ [])
new_opens store disk n = record {
  passed = record { map_log = (new_safe_by (files_of disk) store n).stands.map_log; boxes = (record { log = record { log = n.inbox; in_range = tt; fit = tt }; records = All-nil _ }, tt) };
  counts = All-nil _;
  regions = All-nil _;
  instances = All-nil _;
}

new_good : (store : List ℕ) → AreGoodLogs store (first_box ∷ []) ([] ∷ [])
new_good store = record {
  map_entries = (((lit< tt, lit< tt, inbox_is_name), tt), (new_fits store, tt));
  box_entries = ((tt, tt), tt);
  one_each = refl;
  records = (All-nil _, tt);
  counts = All-nil _;
}

is_new : (store : List ℕ) (box_log : LogState) (new : Option History) → box_log.head ≡ inbox_head store → IfTold new (IsMadeStore store) → Holds box_log [] new → IfTold new (λ disk. IsNewStore (files_of disk) store)
is_new store box_log new e made held = if_told-both _ _ _ new (λ disk m h. made-new store disk m (subst HeadFits e h.reads.head_fits)) made held

-- no storage file is there, or known

no_mail : (store : List ℕ) (disk : DiskState) (number : ℕ) → IsMadeStore store disk → option_map length (reading (disk (file.Mail number))) ≡ None
no_mail store disk number m = ap (λ (f : FileState). option_map length (reading f)) (m.nothing_else (file.Mail number) (λ e. cc e) (λ e. cc e) (λ e. cc e))

no_file_in : (number : ℕ) (f : MailFile) → file_in number [] ≡ Some f → ⊥
no_file_in number f e = let w : None ≡ Some f = e in cc

-- what is known of a new store's logs
pub record HasNewLogs (store : List ℕ) (root_log map_log box_log : LogState) (new : Option History) : Type 0 where
  pub made : IfTold new (IsMadeStore store)
  pub root_held : Holds root_log (root_text first_root ∷ []) new
  pub root_name : root_log.name ≡ file.Root
  pub root_head_is : root_log.head ≡ new_root_head store
  pub map_held : Holds map_log (map_text first_box ∷ []) new
  pub map_name : map_log.name ≡ file.Map 1
  pub map_head_is : map_log.head ≡ new_map_head store
  pub box_held : Holds box_log [] new
  pub box_is : box_log ≡ record { name = file.Box 1 1; head = inbox_head store; end = 25; count = 0; room = 0 }

-- logs that are opened, with this meaning and these mailboxes
abbrev opened_with : {D : Type 0} → Global → D → OpenLogs → InstancesValue → MapMeaning → List OpenBox → StoreValue D
opened_with alloc disk o instances m boxes = record { alloc = alloc; disk = disk; root_log = o.root_log; map_log = o.map_log; map = m; boxes = boxes; made = []; files = no_files; instances = instances; drawn = m.highest; dues = none_due m.records; lanes = 1; stopped = false }

pub new_store : {D : Type 0} (alloc : Global) (disk : D) (store : List ℕ) (box : OpenBox) (o : OpenLogs) (instances : InstancesValue) (new : Option History) → o.map.meaning ≡ map_meaning store (first_box ∷ []) → HasNewLogs store o.root_log o.map_log box.log new
    → box.number.0 ≡ 1 → box.index.meaning ≡ box_meaning [] → o.boxes.items ≡ box ∷ [] → IsStore new (newly_open alloc disk o no_files instances 1)
new_store alloc disk store box o instances new is l number index one =
    let n = is_new store box.log new (ap (λ (s : LogState). s.head) l.box_is) l.made l.box_held in
    let F : List OpenBox → Type 0 = λ bs. IsStore new (opened_with alloc disk o instances o.map.meaning bs) in
    let G : MapMeaning → Type 0 = λ k. IsStore new (opened_with alloc disk o instances k (box ∷ [])) in
    subst F (sym one) (subst G (sym is) (record {
      entries = first_box ∷ [];
      logs = [] ∷ [];
      generation = 1;
      good = new_good store;
      map_is = refl;
      boxes_are = ap (λ (i : _). i ∷ []) index;
      counts = tt;
      drawn = record { file = omega arith; map = omega arith; instance = omega arith; mailbox = omega arith };
      files = record { highest = refl; numbered = λ number f e. absurd (no_file_in number f e); taken = λ number f e taken. absurd (no_file_in number f e); sealed = λ number f e. absurd (no_file_in number f e); pinned = λ number f e is. absurd (no_file_in number f e); below = All-nil (LiesBelowEnd store []) };
      root_name = l.root_name;
      root_head = l.root_head_is;
      map_name = l.map_name;
      map_head = l.map_head_is;
      box_logs = (number, ap (λ (s : LogState). s.name) l.box_is, ap (λ (s : LogState). s.head) l.box_is, tt);
      some_lanes = lit≤ tt;
      few_lanes = lit≤ tt;
      running = λ _. record {
        opens = if_told-map _ _ new (new_opens store) n;
        root = if_told-map _ _ new (λ disk s. record { before = []; log = s.root_log; in_range = (lit< tt, tt) }) n;
        root_entries = root_text first_root ∷ [];
        root_log_reads = if_told-map _ _ new (λ disk h. h.reads) l.root_held;
        map_log_reads = if_told-map _ _ new (λ disk h. h.reads) l.map_held;
        box_logs_read = (if_told-map _ _ new (λ disk h. h.reads) l.box_held, tt);
        files_known = λ number. if_told-map (IsMadeStore store) (λ disk. option_map length (reading (disk (file.Mail number))) ≡ None) new (λ disk m. no_mail store disk number m) l.made;
        files_stay = if_told-all (StayThere [] []) new (λ disk number f e. absurd (no_file_in number f e));
      };
    }))

-- it knows no instance
pub new_instances : {D : Type 0} (alloc : Global) (disk : D) (id : StoreId) (o : OpenLogs) (instances : InstancesValue) (new : Option History) → o.map.meaning ≡ map_meaning id.0 (first_box ∷ []) → instances ≡ no_instances id → IfTold new (IsMadeStore id.0) → HasKnownInstances new (newly_open alloc disk o no_files instances 1)
new_instances alloc disk id o instances new is none made =
    let F : InstancesValue → Type 0 = λ i. HasKnownInstances new (opened_with alloc disk o i o.map.meaning o.boxes.items) in
    let G : MapMeaning → Type 0 = λ k. HasKnownInstances new (opened_with alloc disk o (no_instances id) k o.boxes.items) in
    subst F (sym none) (subst G (sym is) (record {
      kept = record { store = refl; highest = refl; named = All-nil (IsKnownRow []) };
      running = λ on. if_told-map (IsMadeStore id.0) (AreInstancesThere []) new (λ disk m. record {
        whole = All-nil (λ (k : KnownInstance). IsThereWhole (files_of disk) k.row);
        only = λ hash i octets e. absurd (let w : None ≡ Some octets = sym (ap reading (m.nothing_else (file.Inst hash i) (λ e. cc e) (λ e. cc e) (λ e. cc e))) ∙ e in cc w);
      }) made;
    }))
