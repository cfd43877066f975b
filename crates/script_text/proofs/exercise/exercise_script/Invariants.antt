use Rattle.std.proofs.Common.{◌≡◌}
use Rattle.std.specs.Prelude.{map}
use Rattle.script_text.specs.MadeScript.{made_request, below}
use Rattle.script_text.proofs.exercise.exercise_script.Given as goal

-- the requests so far
abbrev pub invariant-loop-i : goal.invariant-loop-i
invariant-loop-i l = l.requests ≡ map (made_request l.lanes l.number) (below l.i)
