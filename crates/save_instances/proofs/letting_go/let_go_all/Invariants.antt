use Rattle.std.proofs.Common.{◌≡◌, drop}
use Rattle.save_instances.specs.Attaching.{found_let_go}
use Rattle.store_core.specs.Keeping.{KeepsInstances, MovesHolds, holds_of}
use Rattle.save_instances.proofs.letting_go.let_go_all.Given as goal

-- those in front of the place were let go
abbrev pub invariant-loop-row : goal.invariant-loop-row
invariant-loop-row g l = record {
  moves : MovesHolds (holds_of l.found) (holds_of (drop l.row-index l.found)) l.fn.store l.store;
  keeps : KeepsInstances l.fn.store l.store (g.D.Disk.history l.fn.store.disk) (g.D.Disk.history l.store.disk);
  same : l.store ≡ record l.fn.store { instances = record l.fn.store.instances { known = l.store.instances.known } };
  known : found_let_go (drop l.row-index l.found) l.store.instances.known ≡ found_let_go l.found l.fn.store.instances.known;
}
