use Rattle.std.proofs.Common.{All, length, take}
use Rattle.model_store.specs.Opening.{HasItsRecord}
use Rattle.store_checks.proofs.dangling.each_has_record.Given as goal

abbrev pub invariant-loop-row : goal.invariant-loop-row
invariant-loop-row l = All (HasItsRecord l.map.meaning) (take (length l.yielded) l.index.meaning.rows)
