use Rattle.std.proofs.Common.{◌≡◌}
use Rattle.piece_writer.specs.Pieces.{Gathers}
use Rattle.request_text.specs.BoxesText.{box_line}
use Rattle.request_text.proofs.ReplyPrintLemmas.{rows_to}
use Rattle.request_text.proofs.boxes.put_boxes.Given as goal

-- the first line and the rows so far are printed, or stand in the piece
abbrev pub invariant-loop-row : goal.invariant-loop-row
invariant-loop-row g l = record {
  passed : Gathers (g.O.Sink.held l.fn.output) l.fn.writer.piece (rows_to box_line l.rows l.row-index) (g.O.Sink.held l.output) l.writer.piece;
  quiet : g.O.Sink.faults l.output ≡ g.O.Sink.faults l.fn.output;
}
