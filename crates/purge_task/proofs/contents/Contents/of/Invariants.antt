use Rattle.purge_task.proofs.Common.{◌-◌}
use Rattle.purge_task.proofs.ContentsLemmas.{IsWalked}
use Rattle.purge_task.proofs.contents.Contents.of.Given as goal

abbrev pub invariant-loop-row : goal.invariant-loop-row
invariant-loop-row l = IsWalked l.map.meaning l.file.0 l.contents

abbrev pub decreases-loop-row : goal.decreases-loop-row
decreases-loop-row l = 4294967295 - l.contents.end
