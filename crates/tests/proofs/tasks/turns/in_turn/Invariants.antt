use Rattle.tests.specs.Deliveries.{AreBesideIn}
use Rattle.tests.proofs.tasks.turns.in_turn.Given as goal

abbrev pub invariant-loop-turn : goal.invariant-loop-turn
invariant-loop-turn l = AreBesideIn l.first l.second l.store
