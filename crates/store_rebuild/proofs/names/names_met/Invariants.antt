use Rattle.std.proofs.Common.{◌≡◌, ◌≤◌, List, length, map}
use Rattle.model_taken.specs.Taken.{TakenMessage}
use Rattle.rebuild_judge.specs.Kept.{taken_row}
use Rattle.store_rebuild.proofs.BoxTextLemmas.{LeftToMeet}
use Rattle.store_rebuild.proofs.names.names_met.Given as goal

-- whose mailboxes are left to be met
abbrev pub invariant-loop-row : goal.invariant-loop-row
invariant-loop-row l = record {
  met : (messages : List TakenMessage) → l.taken ≡ map taken_row messages → LeftToMeet messages l.rest l.names.items;
  few : length l.names.items ≤ 4294967294;
}

abbrev pub decreases-loop-row : goal.decreases-loop-row
decreases-loop-row l = length l.rest
