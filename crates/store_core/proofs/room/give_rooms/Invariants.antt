use Rattle.store_core.proofs.Common.{◌≡◌, ◌+◌, length, All, entry_room, roomy_box}
use Rattle.std.specs.Prelude.{vec_len}
use Rattle.model_octets.proofs.InPlaceLemmas.{changed_to}
use Rattle.store_core.proofs.room.give_rooms.Given as goal

-- the boxes before this place have their room, and there is one for each of the others
abbrev pub invariant-loop-place : goal.invariant-loop-place
invariant-loop-place l =
    (l.boxes.items ≡ changed_to roomy_box l.place l.fn.boxes.items) × (vec_len l.rooms + l.place ≡ length l.fn.boxes.items) × All (λ room. room ≡ entry_room) l.rooms.items
