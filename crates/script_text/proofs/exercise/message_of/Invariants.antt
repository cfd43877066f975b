use Rattle.std.proofs.Common.{◌≡◌}
use Rattle.std.specs.Prelude.{map}
use Rattle.script_text.specs.MadeScript.{made_octet, below}
use Rattle.script_text.proofs.exercise.message_of.Given as goal

-- the octets so far
abbrev pub invariant-loop-place : goal.invariant-loop-place
invariant-loop-place l = l.message ≡ map (made_octet l.size) (below l.place)
