use Rattle.std.proofs.Common.{◌≡◌, length}
use Rattle.dump_text.proofs.LogPrintLemmas.{Encoded}
use Rattle.dump_text.proofs.log_print.put_digits.Given as goal

abbrev pub invariant-loop-rest : goal.invariant-loop-rest
invariant-loop-rest g l = record {
  encoded : Encoded l.octets l.rest (g.O.Sink.held l.fn.output) (g.O.Sink.held l.output) l.fn.writer.piece l.writer.piece;
  quiet : g.O.Sink.faults l.output ≡ g.O.Sink.faults l.fn.output;
}

abbrev pub decreases-loop-rest : goal.decreases-loop-rest
decreases-loop-rest g l = length l.rest
