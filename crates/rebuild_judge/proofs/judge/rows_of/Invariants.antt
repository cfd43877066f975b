use Rattle.std.proofs.Common.{◌≡◌, ◌++◌, length}
use Rattle.rebuild_judge.specs.Kept.{sized_rows}
use Rattle.rebuild_judge.proofs.judge.rows_of.Given as goal

abbrev pub invariant-loop-reference : goal.invariant-loop-reference
invariant-loop-reference l = l.rows ++ sized_rows l.left l.told ≡ sized_rows l.refs l.sizes

abbrev pub decreases-loop-reference : goal.decreases-loop-reference
decreases-loop-reference l = length l.left
