use Rattle.mail_fetch.proofs.Common.{◌≡◌, drop, KeepsInstances, MovesHolds, holds_of, held_for}
use Rattle.mail_fetch.proofs.claim.hold_all.Given as goal

-- those in front of the place are held
abbrev pub invariant-loop-row : goal.invariant-loop-row
invariant-loop-row g l = record {
  moves : MovesHolds (holds_of (drop l.row-index l.rows)) (holds_of l.rows) l.fn.store l.store;
  keeps : KeepsInstances l.fn.store l.store (g.D.Disk.history l.fn.store.disk) (g.D.Disk.history l.store.disk);
  same : l.store ≡ record l.fn.store { instances = record l.fn.store.instances { known = l.store.instances.known } };
  known : held_for (drop l.row-index l.rows) l.store.instances.known ≡ held_for l.rows l.fn.store.instances.known;
}
