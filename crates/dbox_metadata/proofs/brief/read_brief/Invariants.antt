use Rattle.std.proofs.Common.{length, vec_capacity}
use Rattle.dbox_metadata.proofs.BriefLemmas.{TakenInBrief}
use Rattle.dbox_metadata.proofs.brief.read_brief.Given as goal

abbrev pub invariant-loop-rest : goal.invariant-loop-rest
invariant-loop-rest l = TakenInBrief (vec_capacity l.fn.refs) l.lines l.rest l.reader

abbrev pub decreases-loop-rest : goal.decreases-loop-rest
decreases-loop-rest l = length l.rest
