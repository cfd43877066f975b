use Rattle.std.proofs.Common.{List, ◌≡◌, length}
use Rattle.model_storage.specs.StorageFile.{Line, AreLines}
use Rattle.dump_text.proofs.DumpLemmas.{IsLeft}
use Rattle.dump_text.proofs.dump_print.print_lines.Given as goal

-- the rest is a row of lines, and printing these prints the whole row
abbrev pub invariant-loop-rest : goal.invariant-loop-rest
invariant-loop-rest g l =
    ((lines : List Line) → AreLines l.text lines → IsLeft lines l.rest l.fn.writer.piece l.writer.piece (g.O.Sink.held l.fn.output) (g.O.Sink.held l.output))
    × (g.O.Sink.faults l.output ≡ g.O.Sink.faults l.fn.output)

abbrev pub decreases-loop-rest : goal.decreases-loop-rest
decreases-loop-rest g l = length l.rest
