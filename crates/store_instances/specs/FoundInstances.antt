-- The instances of a store as an opening makes them known.
use Rattle.std.specs.Prelude.{◌≡◌, ◌≢◌, ◌≤◌, All, Contains, Some}
use Rattle.mdbox_base.specs.declared.entries.InstRow.{InstRow}
use Rattle.model_meaning.specs.MapFits.{AgreesOn}
use Rattle.model_meaning.specs.MapMeaning.{MapMeaning, instance_number, named_instances}
use Rattle.sis_store.specs.Instances.{InstancesValue, instance_found, instance_in}

-- The highest running number is at least that of each instance of this store's form that a record names, and is one; and
-- instances of one id have one hash and one size.
pub record AreInstancesSound (m : MapMeaning) : Type 0 where
  pub numbers : All (λ row. instance_number m.store row.id.0 ≤ m.highest.instance) (named_instances m)
  pub last : m.highest.instance ≢ 4294967295
  pub agree : (a b : InstRow) → Contains (named_instances m) a → Contains (named_instances m) b → AgreesOn a b

-- The instances that records name, and no others, are known, nobody holds one, and the greatest number drawn is that of the map.
pub record IsFoundInstances (m : MapMeaning) (value : InstancesValue) : Type 0 where
  pub store : value.store.0 ≡ m.store
  pub highest : value.highest ≡ m.highest.instance
  pub only : All (λ k. Contains (named_instances m) k.row) value.known
  pub named : All (λ row. instance_in row.id value.known ≡ Some (instance_found row)) (named_instances m)
