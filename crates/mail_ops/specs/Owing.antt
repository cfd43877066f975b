-- What a task holds and owes, and what a copy that begins again takes of the map log.
use Rattle.std.specs.Prelude.{◌≤◌, ◌-◌, ◌^◌, ℕ}
use Rattle.store_core.specs.Dues.{Amounts, due_at}
use Rattle.store_core.specs.Value.{StoreValue}

-- what a task holds and owes is due in the store: so much of each record, or more for other tasks
abbrev pub AreDueIn : {D : Type 0} → StoreValue D → Amounts → Type 0
AreDueIn store mine = (uid : ℕ) → mine.due uid ≤ due_at uid store

-- How many octets the map log can still get. A request that begins again has given a count back by an entry of it, so it ends.
abbrev pub map_room_left : {D : Type 0} → StoreValue D → ℕ
map_room_left store = 2 ^ 64 - store.map_log.end
