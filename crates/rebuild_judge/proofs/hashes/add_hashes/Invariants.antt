use Rattle.std.proofs.Common.{List, length}
use Rattle.mdbox_base.specs.declared.entries.InstRow.{InstRow}
use Rattle.rebuild_judge.specs.Kept.{AreHashesOf, NameNoOther}
use Rattle.rebuild_judge.proofs.HashLemmas.{IsAdding}
use Rattle.rebuild_judge.proofs.hashes.add_hashes.Given as goal

abbrev pub invariant-loop-row : goal.invariant-loop-row
invariant-loop-row l = (named : List InstRow) → AreHashesOf l.fn.hashes named → NameNoOther named l.rows → IsAdding l.hashes named l.rows l.rest

abbrev pub decreases-loop-row : goal.decreases-loop-row
decreases-loop-row l = length l.rest
