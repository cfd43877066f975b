-- Why an instance was not placed in a store.
use Rattle.std.specs.Prelude.{◌≡◌, ◌+◌, ◌<◌, true}
use Rattle.store_core.specs.StoreInstances.{with_placed}
use Rattle.store_core.specs.Value.{StoreValue}
use Rattle.store_core.specs.declared.error.PlaceStop.{PlaceStop}
use Rattle.store_core.specs.declared.error.PlaceStop.TheVariants as stop

-- An instance was not placed, for this cause, and this is the store then. After a failed change its number stays drawn.
abbrev pub IsPlaceStop : {D : Type 0} → StoreValue D → StoreValue D → PlaceStop → Type 0
IsPlaceStop old new (stop.Full last) = (last ≡ 4294967294) × (old.drawn.instance ≡ 4294967294) × (new ≡ record old { disk = new.disk })
IsPlaceStop old new stop.Stopped = (old.drawn.instance < 4294967294) × (new ≡ record (with_placed new.disk (record old.instances { highest = old.instances.highest + 1 }) old) { stopped = true })
IsPlaceStop old new stop.NoMemory = (old.drawn.instance < 4294967294) × (new ≡ record old { disk = new.disk })
