use Rattle.std.proofs.Common.{◌≡◌, ◌+◌, ◌++◌, List, length, map}
use Rattle.model_taken.specs.Taken.{TakenMessage}
use Rattle.rebuild_judge.specs.Kept.{taken_row}
use Rattle.store_rebuild.specs.NewLogs.{box_logs_for}
use Rattle.store_rebuild.proofs.boxes.new_boxes.Given as goal

-- what is left to be made
abbrev pub invariant-loop-name : goal.invariant-loop-name
invariant-loop-name l = record {
  logs : (messages : List TakenMessage) → l.taken ≡ map taken_row messages → l.logs.items ++ box_logs_for l.rest messages ≡ box_logs_for l.names messages;
  one_each : length l.logs.items + length l.rest ≡ length l.names;
}

abbrev pub decreases-loop-name : goal.decreases-loop-name
decreases-loop-name l = length l.rest
