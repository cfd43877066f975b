use Rattle.std.proofs.Common.{length}
use Rattle.attach_join.proofs.SpreadLemmas.{IsSpreading}
use Rattle.attach_join.proofs.spreading.spread.Given as goal

abbrev pub invariant-loop-reference : goal.invariant-loop-reference
invariant-loop-reference l = IsSpreading l.refs l.rest l.stored l.left l.end l.fn.buffer l.buffer

abbrev pub decreases-loop-reference : goal.decreases-loop-reference
decreases-loop-reference l = length l.rest
