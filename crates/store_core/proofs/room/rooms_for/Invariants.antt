use Rattle.store_core.proofs.Common.{◌≡◌, length, All, entry_room}
use Rattle.store_core.proofs.room.rooms_for.Given as goal

abbrev pub invariant-loop : goal.invariant-loop
invariant-loop l = (length l.rooms.items ≡ l.counter) × All (λ room. room ≡ entry_room) l.rooms.items
