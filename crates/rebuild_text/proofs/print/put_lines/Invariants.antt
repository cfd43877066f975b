use Rattle.std.proofs.Common.{◌≡◌}
use Rattle.piece_writer.specs.Pieces.{Gathers}
use Rattle.rebuild_text.proofs.PrintLemmas.{lines_to}
use Rattle.rebuild_text.proofs.print.put_lines.Given as goal

-- the lines so far are printed, or stand in the piece
abbrev pub invariant-loop-place : goal.invariant-loop-place
invariant-loop-place g l = record {
  passed : Gathers (g.O.Sink.held l.fn.output) l.fn.writer.piece (lines_to l.places l.place-index) (g.O.Sink.held l.output) l.writer.piece;
  quiet : g.O.Sink.faults l.output ≡ g.O.Sink.faults l.fn.output;
}
