-- Why an instance was not placed.
use Rattle.std.specs.Prelude.{◌≡◌, ◌+◌, ◌<◌, ℕ, List, codes}
use Rattle.sis_store.specs.declared.error.PlaceFault.{PlaceFault}
use Rattle.sis_store.specs.declared.error.PlaceFault.TheVariants as fault
use Rattle.sis_store.specs.Instances.{InstancesValue}

abbrev pub place_fault_text : PlaceFault → List ℕ
place_fault_text (fault.Full n) = codes "no number for an instance is left"
place_fault_text fault.DiskFault = codes "disk fault"
place_fault_text fault.NoMemory = codes "out of memory"

-- An instance was not placed, for this cause, and this is known then. After a fault of the disk its number stays drawn.
abbrev pub IsPlaceError : InstancesValue → InstancesValue → PlaceFault → Type 0
IsPlaceError old new (fault.Full n) = (n ≡ 4294967294) × (old.highest ≡ 4294967294) × (new ≡ old)
IsPlaceError old new fault.DiskFault = (old.highest < 4294967294) × (new ≡ record old { highest = old.highest + 1 })
IsPlaceError old new fault.NoMemory = (old.highest < 4294967294) × (new ≡ old)
