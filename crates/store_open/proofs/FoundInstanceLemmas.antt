-- The instances that an opening found, as the store keeps them.
use Rattle.std.proofs.Common.{inl, inr, ◌≡◌, ◌&&◌, ◌||◌, ℕ, Bool, true, false, List, [], ◌∷◌, flat_map, All, Option, refl, sym, ◌∙◌, ap, subst}
use Rattle.std.specs.Prelude.{Contains, Some}
use Rattle.std.specs.List.{list_any}
use Rattle.std.specs.Option.{option_map}
use Rattle.std.specs.Str.{bytes_eq}
use Rattle.std.proofs.lemmas.Bool.{cases_Bool, false≢true}
use Rattle.std.proofs.lemmas.List.Elements.{All-contains, All-weaker, Contains-append_left, Contains-append_right}
use Rattle.std.proofs.lemmas.List.Folds.{Any-from_list_any}
use Rattle.std.proofs.lemmas.Slice.Eq.{bytes_eq-Decides}
use Rattle.disk_model.specs.Disk.{DiskState, History, IfTold, IsThere, reading}
use Rattle.disk_model.specs.declared.name.FileName.{FileName}
use Rattle.disk_model.specs.declared.name.FileName.TheVariants as file
use Rattle.disk_model.proofs.FirmLemmas.{reads_there}
use Rattle.disk_model.proofs.MomentLemmas.{if_told-map, if_told-both}
use Rattle.mdbox_base.specs.declared.entries.Highest.{Highest}
use Rattle.mdbox_base.specs.declared.entries.InstRow.{InstRow}
use Rattle.model_meaning.specs.MapMeaning.{MapRecord, MapMeaning, named_instances}
use Rattle.model_octets.proofs.SearchLemmas.{found_one}
use Rattle.model_store.specs.Opening.{Opens}
use Rattle.model_store.specs.Safe.{IsThereWhole}
use Rattle.model_store.specs.Settled.{files_of}
use Rattle.sis_store.specs.Instances.{InstancesValue, has_id, instance_found, instance_in}
use Rattle.sis_store.specs.OnDisk.{instance_file}
use Rattle.sis_store.specs.declared.instance.KnownInstance.{KnownInstance}
use Rattle.store_core.specs.Running.{IsStore}
use Rattle.store_core.specs.StoreInstances.{IsKnownRow, AreInstancesThere, HasKnownInstances}
use Rattle.store_core.specs.Value.{StoreValue}
use Rattle.store_instances.specs.FoundInstances.{IsFoundInstances}
use Rattle.store_sweep.specs.Wanted.{row_names, is_wanted}

-- each instance that is there is known
abbrev pub AreKnown : List KnownInstance → DiskState → Type 0
AreKnown known disk = (hash id octets : List ℕ) → reading (disk (file.Inst hash id)) ≡ Some octets → (k : KnownInstance) × Contains known k × (instance_file k.row ≡ file.Inst hash id)

-- a sweep leaves those alone that records name
text_same : (a b : List ℕ) → bytes_eq a b ≡ true → a ≡ b
text_same a b e = (bytes_eq-Decides a b).0 e

both_true : (p q : Bool) → (p && q) ≡ true → (p ≡ true) × (q ≡ true)
both_true true true e = (refl, refl)
both_true true false e = absurd (cc e)
both_true false q e = absurd (cc e)

named_by : (hash id : List ℕ) (rows : List MapRecord) → list_any (row_names hash id) rows ≡ true → (i : InstRow) × Contains (flat_map (λ row. row.instances) rows) i × (file.Inst i.hash.0 i.id.0 ≡ file.Inst hash id)
named_by hash id [] e = absurd (false≢true e)
named_by hash id (row ∷ rows) e = elim (cases_Bool (row_names hash id row)) [
  | inl hit ↦
      let a = Any-from_list_any (λ (inst : InstRow). bytes_eq inst.hash.0 hash && bytes_eq inst.id.0 id) row.instances hit in
      let p = both_true (bytes_eq a.1.hash.0 hash) (bytes_eq a.1.id.0 id) a.4 in
      let h : a.1.hash.0 ≡ hash = text_same a.1.hash.0 hash p.0 in
      let i : a.1.id.0 ≡ id = text_same a.1.id.0 id p.1 in
      (a.1, Contains-append_left row.instances (flat_map (λ (r : MapRecord). r.instances) rows) a.1 (a.0, a.2, a.3), cc (h, i))
  | inr miss ↦
      let n = named_by hash id rows (sym (ap (λ (t : Bool). t || list_any (row_names hash id) rows) miss) ∙ e) in
      (n.0, Contains-append_right row.instances (flat_map (λ (r : MapRecord). r.instances) rows) n.0 n.1, n.2)
]

pub only_found : (generation : ℕ) (m : MapMeaning) (known : InstancesValue) (new : Option History) → IsFoundInstances m known → IfTold new (λ now. (name : FileName) → IsThere (now name) → is_wanted generation m name ≡ true) → IfTold new (AreKnown known.known)
only_found generation m known new found swept =
    if_told-map (λ (now : DiskState). (name : FileName) → IsThere (now name) → is_wanted generation m name ≡ true) (AreKnown known.known) new (λ disk only hash id octets e.
    let n = named_by hash id m.records (only (file.Inst hash id) (reads_there (disk (file.Inst hash id)) octets e).0) in
    let k = found_one (has_id n.0.id) known.known (instance_found n.0) (All-contains (λ (row : InstRow). instance_in row.id known.known ≡ Some (instance_found row)) (named_instances m) n.0 found.named n.1) in
    (instance_found n.0, k.0, n.2)) swept

-- those that records name are there, since the files open
instances_there : (m : MapMeaning) (known : InstancesValue) (disk : DiskState) → IsFoundInstances m known → All (IsThereWhole (files_of disk)) (named_instances m) → AreKnown known.known disk → AreInstancesThere known.known disk
instances_there m known disk found there only = record {
  only = only;
  whole = All-weaker (λ (k : KnownInstance). Contains (named_instances m) k.row) (λ (k : KnownInstance). IsThereWhole (files_of disk) k.row) (λ k c. All-contains (IsThereWhole (files_of disk)) (named_instances m) k.row there c) known.known found.only;
}

pub instances_opened : {D : Type 0} → (h : Option History) (v : StoreValue D) → IsStore h v → v.stopped ≡ false → IsFoundInstances v.map v.instances → v.drawn ≡ v.map.highest → IfTold h (AreKnown v.instances.known) → HasKnownInstances h v
instances_opened h v s runs found drawn only = record {
  kept = record {
    store = found.store;
    highest = found.highest ∙ ap (λ (d : Highest). d.instance) (sym drawn);
    named = All-weaker (λ (row : InstRow). instance_in row.id v.instances.known ≡ Some (instance_found row)) (IsKnownRow v.instances.known) (λ row e. ap (option_map (λ (k : KnownInstance). k.row)) e) (named_instances v.map) found.named;
  };
  running = λ on. if_told-both (λ (disk : DiskState). Opens (files_of disk) v.map.store s.entries s.logs) (AreKnown v.instances.known) (AreInstancesThere v.instances.known) h
      (λ disk o known. instances_there v.map v.instances disk found (subst (λ (m : MapMeaning). All (IsThereWhole (files_of disk)) (named_instances m)) (sym s.map_is) o.instances) known) (s.running runs).opens only;
}

pub found_as : (m n : MapMeaning) (instances : InstancesValue) → n ≡ m → IsFoundInstances m instances → IsFoundInstances n instances
found_as m n instances same found = subst (λ (k : MapMeaning). IsFoundInstances k instances) (sym same) found
