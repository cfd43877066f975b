use Rattle.std.proofs.Common.{length}
use Rattle.b64_lines.proofs.PairLemmas.{ArePutPairs}
use Rattle.b64_lines.proofs.pairs.put_groups.Given as goal

abbrev pub invariant-loop-rest : goal.invariant-loop-rest
invariant-loop-rest l = ArePutPairs l.octets l.fn.at l.fn.into l.rest l.at l.into

abbrev pub decreases-loop-rest : goal.decreases-loop-rest
decreases-loop-rest l = length l.rest
