use Rattle.std.proofs.Common.{List, ℕ, [], ◌≡◌, drop}
use Rattle.dump_text.specs.DumpText.{ShowsMessages}
use Rattle.dump_text.proofs.DumpLemmas.{IsRest}
use Rattle.dump_text.proofs.dump_print.print_places.Given as goal

-- printing the messages that are left prints all
abbrev pub invariant-loop-place : goal.invariant-loop-place
invariant-loop-place g l =
    ((text : List ℕ) → ShowsMessages l.file l.messages text → IsRest l.file (drop l.place-index l.messages) text [] l.writer.piece (g.O.Sink.held l.fn.output) (g.O.Sink.held l.output))
    × (g.O.Sink.faults l.output ≡ g.O.Sink.faults l.fn.output)
