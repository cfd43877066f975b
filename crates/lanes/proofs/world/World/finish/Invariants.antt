use Rattle.std.proofs.Common.{◌≡◌, ℕ, List}
use Rattle.lanes.specs.Worlds.{GoesInRounds, world_left}
use Rattle.lanes.proofs.RoundLemmas.{last_of}
use Rattle.lanes.proofs.TraceLemmas.{as_finished}
use Rattle.lanes.proofs.world.World.finish.Given as goal

-- events of these lanes were made, and this is the last of them
abbrev pub invariant-loop-lane : goal.invariant-loop-lane
invariant-loop-lane g l = record {
  lanes : List ℕ;
  goes : GoesInRounds 0 lanes (as_finished l.initial.self) (as_finished l.self) (g.D.Disk.history l.initial.self.store.disk) (g.D.Disk.history l.self.store.disk) (g.D.Disk.faults l.initial.self.store.disk) (g.D.Disk.faults l.self.store.disk);
  last : l.last ≡ last_of 0 lanes;
  turns : l.self.turns ≡ l.initial.self.turns;
}

abbrev pub decreases-loop-lane : goal.decreases-loop-lane
decreases-loop-lane g l = world_left l.self
