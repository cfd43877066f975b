use Rattle.std.proofs.Common.{◌≡◌, ◌≤◌, ◌-◌, length, take}
use Rattle.request_text.specs.BatchText.{request_steps}
use Rattle.request_text.proofs.places.steps_behind.Given as goal

-- the steps among the entries so far
abbrev pub invariant-loop-at : goal.invariant-loop-at
invariant-loop-at l = record {
  within : l.at ≤ length l.journal;
  steps_are : l.steps ≡ request_steps (take l.at l.journal) l.request;
}

abbrev pub decreases-loop-at : goal.decreases-loop-at
decreases-loop-at l = length l.journal - l.at
