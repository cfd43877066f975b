-- What is left of a request that may begin again: each entry that it appends to the map log takes of the room left there.
use Rattle.mail_ops.proofs.Common.{◌<◌, ◌≤◌, ◌+◌, ℕ, arith, StoreValue}
use Rattle.std.specs.Prelude.{◌*◌, ◌^◌}
use Rattle.std.proofs.Common.{◌-◌}
use Rattle.mail_ops.specs.Owing.{map_room_left}

-- a map log that is no shorter can get no more
pub no_more_left : {D : Type 0} → (next now : ℕ) (old new : StoreValue D) → next < now → old.map_log.end ≤ new.map_log.end → next + 3 * map_room_left new < now + 3 * map_room_left old
no_more_left next now old new fewer grows = less_by next now old.map_log.end new.map_log.end fewer grows
  where
    less_by : (a b e f : ℕ) → a < b → e ≤ f → a + 3 * (2 ^ 64 - f) < b + 3 * (2 ^ 64 - e)
    less_by a b e f less grown = omega (arith, less, grown)

-- and one that has grown pays for a beginning
pub paid_by_map : {D : Type 0} → (next now : ℕ) (old new : StoreValue D) → next < now + 3 → old.map_log.end < 2 ^ 64 → old.map_log.end < new.map_log.end → next + 3 * map_room_left new < now + 3 * map_room_left old
paid_by_map next now old new few bounded further = paid next now old.map_log.end new.map_log.end few bounded further
  where
    paid : (a b e f : ℕ) → a < b + 3 → e < 2 ^ 64 → e < f → a + 3 * (2 ^ 64 - f) < b + 3 * (2 ^ 64 - e)
    paid a b e f few below grown = omega (arith, few, below, grown)
