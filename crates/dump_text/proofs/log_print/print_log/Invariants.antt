use Rattle.std.proofs.Common.{◌≡◌, ◌-◌, length}
use Rattle.dump_text.proofs.LogPrintLemmas.{Printed}
use Rattle.dump_text.proofs.log_print.print_log.Given as goal

-- the head and the entries so far are printed, or stand in the piece
abbrev pub invariant-loop-place : goal.invariant-loop-place
invariant-loop-place g l = record {
  printed : Printed l.text l.entries.octets.now l.entries.gate (g.O.Sink.held l.fn.output) (g.O.Sink.held l.output) l.writer.piece;
  quiet : g.O.Sink.faults l.output ≡ g.O.Sink.faults l.fn.output;
}

abbrev pub decreases-loop-place : goal.decreases-loop-place
decreases-loop-place g l = length l.entries.octets.now - l.entries.gate
