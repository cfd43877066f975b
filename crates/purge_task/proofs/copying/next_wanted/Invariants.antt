use Rattle.purge_task.proofs.Common.{◌-◌}
use Rattle.purge_task.proofs.NextLemmas.{AreUnwantedBetween}
use Rattle.purge_task.proofs.copying.next_wanted.Given as goal

abbrev pub invariant-loop-row : goal.invariant-loop-row
invariant-loop-row l = AreUnwantedBetween l.map.meaning l.file.0 l.fn.from l.from

abbrev pub decreases-loop-row : goal.decreases-loop-row
decreases-loop-row l = 4294967295 - l.from
