use Rattle.std.proofs.Common.{◌≡◌, List, length, map}
use Rattle.model_taken.specs.Taken.{TakenMessage}
use Rattle.rebuild_judge.specs.Kept.{taken_row}
use Rattle.store_rebuild.proofs.MapTextLemmas.{LeftToStore}
use Rattle.store_rebuild.proofs.map.push_stored.Given as goal

abbrev pub invariant-loop-row : goal.invariant-loop-row
invariant-loop-row l = (messages : List TakenMessage) → l.taken ≡ map taken_row messages → LeftToStore messages l.rest l.uid l.fn.draft l.draft

abbrev pub decreases-loop-row : goal.decreases-loop-row
decreases-loop-row l = length l.rest
