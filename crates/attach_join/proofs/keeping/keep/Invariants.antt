use Rattle.std.proofs.Common.{length}
use Rattle.attach_join.proofs.KeptLemmas.{IsKeeping}
use Rattle.attach_join.proofs.keeping.keep.Given as goal

abbrev pub invariant-loop-reference : goal.invariant-loop-reference
invariant-loop-reference l = IsKeeping l.fn.refs l.fn.rows l.kept l.octets l.fn.whole l.refs l.rows l.before l.rest l.whole

abbrev pub decreases-loop-reference : goal.decreases-loop-reference
decreases-loop-reference l = length l.refs
