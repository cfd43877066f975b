-- The lanes of a world are ready for their next events, and the store has room for them.
use Rattle.std.proofs.Common.{◌≡◌, ℕ, suc, false, List, [], ◌∷◌, map, Option, Some, None, refl, sym, ap, subst, arith}
use Rattle.std.specs.Prelude.{All, length, option_map, slice_get}
use Rattle.std.proofs.lemmas.List.Elements.{All-cons, All-nil}
use Rattle.disk_model.specs.Disk.{History}
use Rattle.serving.specs.Accounts.{IsReadyLane, lane_claims}
use Rattle.serving.specs.Lanes.{LaneValue}
use Rattle.store_core.specs.Value.{StoreValue}
use Rattle.mail_fetch.specs.Claims.{HasUseRoom}
use Rattle.lane_tasks.specs.Clause.{ClaimsFew}
use Rattle.lane_tasks.specs.Tasks.{IsReadyTask, claims_at}
use Rattle.lane_tasks.specs.declared.task.Task.{Task}
use Rattle.lane_tasks.proofs.RoomLemmas.{room_left, task_claims_few}
use Rattle.lanes.specs.Rows.{IsReadyRow, LaneRow, lane_value, lanes_of}
use Rattle.lanes.specs.Worlds.{IsSoundWorld, WorldValue}
use Rattle.lanes.specs.declared.lane.Queued.{Queued}
use Rattle.lanes.proofs.GoingLemmas.{value_at}

pub row_ready : {D : Type 0} → (k : ℕ) (row : LaneRow) (world : WorldValue D) (history : Option History) → IsSoundWorld history world → slice_get world.rows k ≡ Some row → world.store.stopped ≡ false → IsReadyRow row world.store history
row_ready k row world history s there runs queued is = (s.accounts runs).ready k (lane_value row) (value_at world.rows k row there) queued.task (ap (option_map (λ (q : Queued). q.task)) is)

lane_few : {D : Type 0} → (value : LaneValue Task) (store : StoreValue D) (history : Option History) → IsReadyLane IsReadyTask value store history → ClaimsFew (lane_claims claims_at value)
lane_few {D} value store history ready = by_task value.task refl
  where
    by_task : (o : Option Task) → value.task ≡ o → ClaimsFew (lane_claims claims_at value)
    by_task None is = subst (λ (o : Option Task). ClaimsFew (lane_claims claims_at (record value { task = o }))) (sym is) (record { pinned = λ file. omega arith; held = λ id. omega arith })
    by_task (Some t) is = subst (λ (o : Option Task). ClaimsFew (lane_claims claims_at (record value { task = o }))) (sym is) (task_claims_few t store history (ready t is))

all_few : {D : Type 0} → (lanes : List (LaneValue Task)) (store : StoreValue D) (history : Option History) → ((k : ℕ) (value : LaneValue Task) → slice_get lanes k ≡ Some value → IsReadyLane IsReadyTask value store history) → All ClaimsFew (map (lane_claims claims_at) lanes)
all_few [] store history ready = All-nil ClaimsFew
all_few (a ∷ lanes) store history ready = All-cons ClaimsFew (lane_claims claims_at a) (map (lane_claims claims_at) lanes) (lane_few a store history (ready 0 a refl)) (all_few lanes store history (λ k value there. ready (suc k) value there))

as_many : (rows : List LaneRow) → length (map (lane_claims claims_at) (lanes_of rows)) ≡ length rows
as_many [] = refl
as_many (a ∷ rows) = let h = as_many rows in omega (arith, h)

pub has_room : {D : Type 0} → (world : WorldValue D) (history : Option History) → IsSoundWorld history world → world.store.stopped ≡ false → HasUseRoom world.store
has_room world history s runs =
    room_left world.store (map (lane_claims claims_at) (lanes_of world.rows)) (s.accounts runs).adds_up (let n = as_many world.rows in let f = s.few in omega (arith, n, f)) (all_few (lanes_of world.rows) world.store history (s.accounts runs).ready)
