-- The instances that a store knows after its opening: nobody holds one, and those that records name are there.
use Rattle.std.specs.Prelude.{◌≡◌, All, List, [], ◌∷◌, ◌++◌, Contains, flat_map, get_or, option_map, Option, Some, None, false}
use Rattle.std.specs.Option.{option_map_or}
use Rattle.std.proofs.Common.{refl, sym, ◌∙◌, ap, subst}
use Rattle.std.proofs.lemmas.List.Elements.{All-cons, All-contains, All-head, All-nil, All-tail}
use Rattle.disk_model.specs.Disk.{DiskState, History, IfTold}
use Rattle.disk_model.proofs.MomentLemmas.{if_told-map}
use Rattle.mdbox_base.specs.declared.entries.InstRow.{InstRow}
use Rattle.mdbox_base.specs.declared.ids.InstId.{InstId}
use Rattle.model_meaning.specs.MapMeaning.{MapRecord, named_instances}
use Rattle.model_octets.proofs.SearchLemmas.{found_one, text_is}
use Rattle.model_store.specs.Safe.{IsThereWhole}
use Rattle.model_store.specs.Settled.{files_of}
use Rattle.sis_store.proofs.IdLemmas.{same_id}
use Rattle.sis_store.specs.Instances.{has_id, holders_in, instance_found, instance_in}
use Rattle.sis_store.specs.declared.instance.KnownInstance.{KnownInstance}
use Rattle.store_core.specs.StoreInstances.{HasKnownInstances, IsKnownRow}
use Rattle.store_core.specs.Value.{StoreValue}
use Rattle.store_instances.specs.FoundInstances.{IsFoundInstances}
use Rattle.tasks_alone.proofs.WroteLemmas.{IsNamedThere}

-- ---- nobody holds one

pub none_held : {D : Type 0} → (s : StoreValue D) → IsFoundInstances s.map s.instances → (id : InstId) → holders_in id s.instances.known ≡ 0
none_held s f id = by_found (instance_in id s.instances.known) refl
  where
    by_found : (o : Option KnownInstance) → instance_in id s.instances.known ≡ o → option_map_or (λ k. k.holders) o 0 ≡ 0
    by_found None is = refl
    by_found (Some k) is =
        let one = found_one (has_id id) s.instances.known k is in
        let same : k.row.id ≡ id = same_id k.row.id id (text_is k.row.id.0 id.0 one.1) in
        let named : Contains (named_instances s.map) k.row = All-contains (λ (x : KnownInstance). Contains (named_instances s.map) x.row) s.instances.known k f.only one.0 in
        let found : instance_in k.row.id s.instances.known ≡ Some (instance_found k.row) = All-contains (λ (row : InstRow). instance_in row.id s.instances.known ≡ Some (instance_found row)) (named_instances s.map) k.row f.named named in
        let e : Some k ≡ Some (instance_found k.row) = sym is ∙ (ap (λ (i : InstId). instance_in i s.instances.known) (sym same) ∙ found) in
        let i : k ≡ instance_found k.row = cc e in
        ap (λ (x : KnownInstance). x.holders) i

-- ---- they are there

all_left : {X : Type 0} → (P : X → Type 0) (xs ys : List X) → All P (xs ++ ys) → All P xs
all_left P [] ys h = All-nil P
all_left P (x ∷ xs) ys h = All-cons P x xs (All-head P x (xs ++ ys) h) (all_left P xs ys (All-tail P x (xs ++ ys) h))

all_right : {X : Type 0} → (P : X → Type 0) (xs ys : List X) → All P (xs ++ ys) → All P ys
all_right P [] ys h = h
all_right P (x ∷ xs) ys h = all_right P xs ys (All-tail P x (xs ++ ys) h)

-- what holds of all instances that records name holds of each record's
each_named : (P : InstRow → Type 0) (records : List MapRecord) → All P (flat_map (λ row. row.instances) records) → All (λ row. All P row.instances) records
each_named P [] h = All-nil (λ (row : MapRecord). All P row.instances)
each_named P (r ∷ rs) h =
    All-cons (λ (row : MapRecord). All P row.instances) r rs (all_left P r.instances (flat_map (λ (row : MapRecord). row.instances) rs) h) (each_named P rs (all_right P r.instances (flat_map (λ (row : MapRecord). row.instances) rs) h))

known_there : (known : List KnownInstance) (disk : DiskState) (row : InstRow) → All (λ k. IsThereWhole (files_of disk) k.row) known → IsKnownRow known row → IsNamedThere disk row
known_there known disk row whole is = by_found (instance_in row.id known) refl is
  where
    by_found : (o : Option KnownInstance) → instance_in row.id known ≡ o → option_map (λ k. k.row) o ≡ Some row → IsNamedThere disk row
    by_found None e f = absurd (let k : None ≡ Some row = f in cc k)
    by_found (Some k) e f =
        let same : k.row ≡ row = cc f in
        let one = found_one (has_id row.id) known k e in
        let there : IsThereWhole (files_of disk) row = subst (λ (r : InstRow). IsThereWhole (files_of disk) r) same (All-contains (λ (x : KnownInstance). IsThereWhole (files_of disk) x.row) known k whole one.0) in
        λ none. let z : Some there.octets ≡ None = sym there.there ∙ none in cc z

pub named_there : {D : Type 0} → (history : Option History) (s : StoreValue D) → s.stopped ≡ false → HasKnownInstances history s → IfTold history (λ disk. All (λ row. All (IsNamedThere disk) row.instances) s.map.records)
named_there history s running h =
    if_told-map _ (λ disk. All (λ row. All (IsNamedThere disk) row.instances) s.map.records) history
    (λ disk there. each_named (IsNamedThere disk) s.map.records (λ n row lt. known_there s.instances.known disk (get_or (named_instances s.map) n row) there.whole (h.kept.named n row lt))) (h.running running)
