use Rattle.std.proofs.Common.{◌≤◌, length, drop, All}
use Rattle.storage_files.specs.Files.{MayBeTakenFor}
use Rattle.storage_files.proofs.list.last_with_room.Given as goal

-- no file from this place on has room
abbrev pub invariant-loop-place : goal.invariant-loop-place
invariant-loop-place l = record { within : l.place ≤ length l.files; behind : All (λ f. MayBeTakenFor l.size f → ⊥) (drop l.place l.files) }

abbrev pub decreases-loop-place : goal.decreases-loop-place
decreases-loop-place l = l.place
