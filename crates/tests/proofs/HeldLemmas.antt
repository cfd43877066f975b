-- Nobody holds an instance of a store that was just opened or made.
use Rattle.std.specs.Prelude.{◌≡◌, ◌≤◌, ◌+◌, ℕ, List, Contains, length, Option, Some, None}
use Rattle.std.specs.Option.{option_map_or}
use Rattle.std.proofs.Common.{refl, sym, ◌∙◌, ap, subst, arith}
use Rattle.std.proofs.lemmas.List.Elements.{All-contains}
use Rattle.disk_mem.specs.Mem.{told}
use Rattle.disk_mem.specs.declared.disk.MemDisk.{MemDisk}
use Rattle.mail_save.specs.Task.{HasLeft, SaveValue}
use Rattle.mail_save.specs.declared.task.SaveStage.{SaveStage}
use Rattle.mdbox_base.specs.declared.entries.InstRow.{InstRow}
use Rattle.mdbox_base.specs.declared.ids.InstId.{InstId}
use Rattle.model_meaning.specs.MapMeaning.{MapMeaning, named_instances}
use Rattle.model_octets.proofs.SearchLemmas.{found_one, text_is}
use Rattle.saved_message.proofs.ReferenceLemmas.{parts_few}
use Rattle.sis_store.specs.Instances.{InstancesValue, has_id, holders_in, instance_found, instance_in}
use Rattle.sis_store.specs.declared.instance.KnownInstance.{KnownInstance}
use Rattle.store_core.specs.Value.{StoreValue}
use Rattle.store_instances.specs.FoundInstances.{IsFoundInstances}
use Rattle.tests.specs.Deliveries.{IsFresh, IsHeldByNone}

-- ids of the same octets are the same
same_ids : (a b : InstId) → a.0 ≡ b.0 → a ≡ b
same_ids a b e = ap (λ (octets : List ℕ). let id : InstId = record { 0 = octets } in id) e

pub found_unheld : (m : MapMeaning) (value : InstancesValue) → IsFoundInstances m value → (id : InstId) → holders_in id value.known ≡ 0
found_unheld m value found id = by_found (instance_in id value.known) refl
  where
    by_found : (o : Option KnownInstance) → instance_in id value.known ≡ o → option_map_or (λ k. k.holders) o 0 ≡ 0
    by_found None is = refl
    by_found (Some k) is =
        let one = found_one (has_id id) value.known k is in
        let named : Contains (named_instances m) k.row = All-contains (λ (x : KnownInstance). Contains (named_instances m) x.row) value.known k found.only one.0 in
        let known : instance_in k.row.id value.known ≡ Some (instance_found k.row) = All-contains (λ (row : InstRow). instance_in row.id value.known ≡ Some (instance_found row)) (named_instances m) k.row found.named named in
        let same : instance_in k.row.id value.known ≡ instance_in id value.known = ap (λ (i : InstId). instance_in i value.known) (same_ids k.row.id id (text_is k.row.id.0 id.0 one.1)) in
        let both : Some k ≡ Some (instance_found k.row) = sym is ∙ (sym same ∙ known) in
        let is_found : k ≡ instance_found k.row = (cc both) in
        ap (λ (i : KnownInstance). i.holders) is_found

-- ---- a delivery has not begun yet

held_by_none : (held more : ℕ) → held ≡ 0 → more ≤ 512 → held + more ≤ 4294967295
held_by_none held more none few = omega (arith, none, few)

-- Its first event has what it asks where nobody holds an instance.
pub fresh_left : (task : SaveValue) (store : StoreValue MemDisk) → IsFresh task → IsHeldByNone store → HasLeft task.stage task.name task.time store (Some (told store.disk))
fresh_left task store f none =
    subst (λ (s : SaveStage). HasLeft s task.name task.time store (Some (told store.disk))) (sym f.first)
    ((f.octets, f.small, f.is), λ id. held_by_none (holders_in id store.instances.known) (length f.prepared.parts) (none id) (parts_few f.octets f.prepared f.small f.is))
