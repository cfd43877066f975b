use Rattle.std.proofs.Common.{◌≡◌, ◌≤◌, ◌-◌, [], length}
use Rattle.piece_writer.specs.Pieces.{Gathers}
use Rattle.request_text.proofs.BatchLemmas.{text_to}
use Rattle.request_text.proofs.batch_print.print_batch.Given as goal

-- the replies so far are printed, or stand in the piece
abbrev pub invariant-loop-request : goal.invariant-loop-request
invariant-loop-request g l = record {
  within : l.request ≤ length l.replies;
  passed : Gathers (g.O.Sink.held l.fn.output) [] (text_to l.journal l.replies l.request) (g.O.Sink.held l.output) l.writer.piece;
  quiet : g.O.Sink.faults l.output ≡ g.O.Sink.faults l.fn.output;
}

abbrev pub decreases-loop-request : goal.decreases-loop-request
decreases-loop-request g l = length l.replies - l.request
