use Rattle.std.proofs.Common.{length}
use Rattle.b64_lines.proofs.WritingLemmas.{IsWritten}
use Rattle.b64_lines.proofs.write.push_each.Given as goal

abbrev pub invariant-loop-rest : goal.invariant-loop-rest
invariant-loop-rest l = IsWritten l.form l.octets l.rest l.fn.out.items l.out.items

abbrev pub decreases-loop-rest : goal.decreases-loop-rest
decreases-loop-rest l = length l.rest
