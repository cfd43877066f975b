use Rattle.gate_log.proofs.LayoutLemmas.{Laid}
use Rattle.gate_log.proofs.layout.lay_out.Given as goal

abbrev pub invariant-loop-size : goal.invariant-loop-size
invariant-loop-size l = Laid l.lengths l.octets l.rest l.buffer l.size-index l.end
