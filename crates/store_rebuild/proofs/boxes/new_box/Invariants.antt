use Rattle.std.proofs.Common.{◌≡◌, List, length, map}
use Rattle.model_taken.specs.Taken.{TakenMessage}
use Rattle.rebuild_judge.specs.Kept.{taken_row}
use Rattle.store_rebuild.proofs.BoxTextLemmas.{LeftToAdd}
use Rattle.store_rebuild.proofs.boxes.new_box.Given as goal

-- what is left to be added
abbrev pub invariant-loop-row : goal.invariant-loop-row
invariant-loop-row l = (messages : List TakenMessage) → l.taken ≡ map taken_row messages → LeftToAdd l.name messages l.rest l.uid l.map_uid l.draft

abbrev pub decreases-loop-row : goal.decreases-loop-row
decreases-loop-row l = length l.rest
