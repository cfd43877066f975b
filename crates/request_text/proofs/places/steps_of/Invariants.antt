use Rattle.std.proofs.Common.{◌≡◌, length, take}
use Rattle.request_text.specs.Steps.{AreStepsOf}
use Rattle.request_text.proofs.places.steps_of.Given as goal

-- the rows for the entries so far
abbrev pub invariant-loop-at : goal.invariant-loop-at
invariant-loop-at l = AreStepsOf (take l.at l.journal) l.count l.rows.items
