-- What a store keeps of its instances.
use Rattle.std.specs.Prelude.{◌≡◌, ◌≢◌, ◌+◌, ℕ, true, false, List, All, Contains, Option, Some}
use Rattle.std.specs.Option.{option_map}
use Rattle.disk_model.specs.Disk.{DiskState, History, IfTold, reading}
use Rattle.disk_model.specs.declared.name.FileName.TheVariants.{Inst}
use Rattle.mdbox_base.specs.declared.entries.Highest.{Highest}
use Rattle.mdbox_base.specs.declared.entries.InstRow.{InstRow}
use Rattle.model_appends.specs.Appending.{LeavesAsRead}
use Rattle.model_meaning.specs.MapMeaning.{MapMeaning, named_instances}
use Rattle.model_store.specs.Safe.{IsThereWhole}
use Rattle.model_store.specs.Settled.{files_of}
use Rattle.sis_store.specs.Instances.{InstancesValue, IsIdBefore, instance_in, is_of_kind}
use Rattle.sis_store.specs.OnDisk.{instance_file}
use Rattle.sis_store.specs.declared.instance.KnownInstance.{KnownInstance}
use Rattle.store_core.specs.Value.{StoreValue}

-- the instance of this row's id is known, with its hash and size
abbrev pub IsKnownRow : List KnownInstance → InstRow → Type 0
IsKnownRow known row = option_map (λ k. k.row) (instance_in row.id known) ≡ Some row

-- What the store knows of its instances: they are of this store, the greatest running number is the one that was drawn, and
-- each instance that a record names is known.
pub record AreInstancesKept (instances : InstancesValue) (drawn : Highest) (m : MapMeaning) : Type 0 where
  pub store : instances.store.0 ≡ m.store
  pub highest : instances.highest ≡ drawn.instance
  pub named : All (IsKnownRow instances.known) (named_instances m)

-- an earlier instance, of the same hash and size and with a lesser id, has other octets than this one
abbrev pub IsOtherThan : DiskState → InstRow → InstRow → Type 0
IsOtherThan disk inst earlier = is_of_kind inst.hash inst.size earlier ≡ true → IsIdBefore earlier.id inst.id → reading (disk (instance_file earlier)) ≢ reading (disk (instance_file inst))

-- no known instance of its hash and size with a lesser id has its octets
abbrev pub IsFirstKnown : List KnownInstance → DiskState → InstRow → Type 0
IsFirstKnown known disk inst = All (λ k. IsOtherThan disk inst k.row) known

-- The row is that of a known instance which has these octets, and is the first that has them.
pub record IsFirstWith (octets : List ℕ) (row : InstRow) (known : List KnownInstance) (history : Option History) : Type 0 where
  pub is_known : IsKnownRow known row
  pub reads : IfTold history (λ now. reading (now (instance_file row)) ≡ Some octets)
  pub first : IfTold history (λ now. IsFirstKnown known now row)

-- A record that is made may name the instance: a crash leaves it as the disk reads it, and no own save (a record of origin 0) names a
-- later instance with its octets.
pub record IsFirmInstance (m : MapMeaning) (disk : DiskState) (row : InstRow) : Type 0 where
  pub left : LeavesAsRead (instance_file row) disk
  pub other : All (λ own. own.origin ≡ 0 → All (λ inst. IsOtherThan disk inst row) own.instances) m.records

-- It may name whichever is known. So it is of a settled disk as a store is opened over it; once an entry of the map log has dropped
-- records, it isn't known of every disk.
abbrev pub AreInstancesFirm : List KnownInstance → MapMeaning → DiskState → Type 0
AreInstancesFirm known m disk = All (λ k. IsFirmInstance m disk k.row) known

-- Each known instance is there with its size, and no other is there.
pub record AreInstancesThere (known : List KnownInstance) (disk : DiskState) : Type 0 where
  pub whole : All (λ k. IsThereWhole (files_of disk) k.row) known
  pub only : (hash id octets : List ℕ) → reading (disk (Inst hash id)) ≡ Some octets → (k : KnownInstance) × Contains known k × (instance_file k.row ≡ Inst hash id)

-- A store has the instances that its records name, and knows those that are there. What a failed change leaves of them on the
-- disk of a stopped store is said by the clauses of the call that made it.
pub record HasKnownInstances {D : Type 0} (history : Option History) (store : StoreValue D) : Type 0 where
  pub kept : AreInstancesKept store.instances store.drawn store.map
  pub running : store.stopped ≡ false → IfTold history (AreInstancesThere store.instances.known)

-- a store in which an instance was placed, with a number that was drawn for it
abbrev pub with_placed : {D : Type 0} → D → InstancesValue → StoreValue D → StoreValue D
with_placed disk instances store = record store { disk = disk; instances = instances; drawn = record store.drawn { instance = store.drawn.instance + 1 } }
