use Rattle.std.proofs.Common.{length}
use Rattle.b64_lines.proofs.WriterLemmas.{ArePut}
use Rattle.b64_lines.proofs.writer.put_lines.Given as goal

abbrev pub invariant-loop-rest : goal.invariant-loop-rest
invariant-loop-rest l = ArePut l.form l.octets l.fn.at l.fn.into l.rest l.at l.into

abbrev pub decreases-loop-rest : goal.decreases-loop-rest
decreases-loop-rest l = length l.rest
