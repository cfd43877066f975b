use Rattle.map_index.proofs.Common.{length, AllPairs, ◌↔◌, AgreesOn}
use Rattle.map_index.proofs.fitting.agree_among.Given as goal

-- the instances agree if and only if the rest does
abbrev pub invariant-loop-first : goal.invariant-loop-first
invariant-loop-first l = AllPairs AgreesOn l.rest ↔ AllPairs AgreesOn l.fn.instances

abbrev pub decreases-loop-first : goal.decreases-loop-first
decreases-loop-first l = length l.rest
