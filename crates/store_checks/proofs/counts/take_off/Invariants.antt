use Rattle.std.proofs.Common.{◌==◌, length, take}
use Rattle.std.specs.Prelude.{count_by}
use Rattle.store_checks.specs.Checked.{AreTakenOff}
use Rattle.store_checks.proofs.counts.take_off.Given as goal

abbrev pub invariant-loop-row : goal.invariant-loop-row
invariant-loop-row l = AreTakenOff (λ uid. count_by (λ row. row.map_uid == uid) (take (length l.yielded) l.index.meaning.rows)) l.map.meaning.records l.initial.left l.left
