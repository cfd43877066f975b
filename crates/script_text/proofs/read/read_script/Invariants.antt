use Rattle.std.proofs.Common.{length}
use Rattle.script_text.proofs.ScriptLemmas.{IsReadTo}
use Rattle.script_text.proofs.read.read_script.Given as goal

-- the requests so far, and what is left of the text
abbrev pub invariant-loop-rest : goal.invariant-loop-rest
invariant-loop-rest l = IsReadTo l.lanes l.text l.requests l.rest

abbrev pub decreases-loop-rest : goal.decreases-loop-rest
decreases-loop-rest l = length l.rest
