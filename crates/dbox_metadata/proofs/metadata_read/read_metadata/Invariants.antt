use Rattle.std.proofs.Common.{length}
use Rattle.dbox_metadata.proofs.LinesLemmas.{TakenBefore}
use Rattle.dbox_metadata.proofs.metadata_read.read_metadata.Given as goal

abbrev pub invariant-loop-rest : goal.invariant-loop-rest
invariant-loop-rest l = TakenBefore l.lines l.rest l.reader

abbrev pub decreases-loop-rest : goal.decreases-loop-rest
decreases-loop-rest l = length l.rest
