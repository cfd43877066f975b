use Rattle.std.proofs.Common.{ℕ, List}
use Rattle.lanes.specs.Asked.{GoesWith, events_of}
use Rattle.lanes.specs.Worlds.{world_left}
use Rattle.lanes.proofs.world.World.answer_all.Given as goal

-- events of these lanes were made
abbrev pub invariant-loop-lane : goal.invariant-loop-lane
invariant-loop-lane g l = record {
  lanes : List ℕ;
  goes : GoesWith g.D.Disk.history g.D.Disk.faults (events_of lanes) l.initial.self l.self;
}

abbrev pub decreases-loop-lane : goal.decreases-loop-lane
decreases-loop-lane g l = world_left l.self
