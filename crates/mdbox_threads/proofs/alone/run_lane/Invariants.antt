use Rattle.mdbox_threads.specs.Handed.{KeepsFirst}
use Rattle.lanes.specs.Worlds.{world_left}
use Rattle.mdbox_threads.proofs.TraceLemmas.{Grown}
use Rattle.mdbox_threads.proofs.alone.run_lane.Given as goal

abbrev pub invariant-lane : goal.invariant-lane
invariant-lane g l = KeepsFirst l.initial.handed l.handed × Grown l.initial.handed.world.turns l.handed.world.turns

abbrev pub decreases-lane : goal.decreases-lane
decreases-lane g l = world_left l.handed.world
