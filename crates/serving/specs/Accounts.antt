-- What the tasks of all lanes claim of a store.
use Rattle.std.specs.Prelude.{◌≡◌, ℕ, List, map, slice_get, Option, Some}
use Rattle.std.specs.Option.{option_map_or}
use Rattle.disk_model.specs.Disk.{History}
use Rattle.store_core.specs.Value.{StoreValue}
use Rattle.task_claims.specs.Claims.{AddsUp, Claims, no_claims}
use Rattle.serving.specs.Lanes.{LaneValue}

-- the claims of a lane's task: a lane that has none claims nothing
abbrev pub lane_claims : {T : Type 0} → (T → Claims) → LaneValue T → Claims
lane_claims claims value = option_map_or claims value.task no_claims

-- a lane's task, if it has one, is ready for its next event
abbrev pub IsReadyLane : {T D : Type 0} → (T → StoreValue D → Option History → Type 0) → LaneValue T → StoreValue D → Option History → Type 0
IsReadyLane Ready value store history = (task : _) → value.task ≡ Some task → Ready task store history

-- Lanes account for a store: what their tasks claim is all that the store knows of, and each is ready for its next event.
pub record LanesAccount {T D : Type 0} (claims : T → Claims) (Ready : T → StoreValue D → Option History → Type 0) (store : StoreValue D) (history : Option History) (lanes : List (LaneValue T)) : Type 0 where
  pub adds_up : AddsUp store (map (lane_claims claims) lanes)
  pub ready : (k : ℕ) (value : LaneValue T) → slice_get lanes k ≡ Some value → IsReadyLane Ready value store history
