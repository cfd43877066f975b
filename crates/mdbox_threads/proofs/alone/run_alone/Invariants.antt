use Rattle.std.proofs.Common.{◌<◌, ◌≤◌, ℕ, true}
use Rattle.lanes.specs.Worlds.{turn_of}
use Rattle.mdbox_threads.specs.Handed.{KeepsFirst}
use Rattle.mdbox_threads.specs.Traces.{HasMarkOrIsFull}
use Rattle.mdbox_threads.proofs.alone.run_alone.Given as goal

abbrev pub invariant-loop-at : goal.invariant-loop-at
invariant-loop-at g l = KeepsFirst l.initial.handed l.handed × ((lane : ℕ) → 0 < lane → lane ≤ l.at → HasMarkOrIsFull (turn_of lane true) l.initial.handed.first.turn_room l.handed.world.turns)
