use Rattle.std.proofs.Common.{◌≡◌, All, length, [], false}
use Rattle.disk_model.specs.FaultCounts.{NoFault}
use Rattle.gate_log.specs.State.{IsSameLog}
use Rattle.box_snapshot.specs.Due.{AreUndueTo, KeepsUndue, is_box_due}
use Rattle.box_snapshot.specs.Rewrites.{LeavesNoOldLogs, Rewrites, WritesOnce}
use Rattle.box_snapshot.proofs.due_logs.snapshot_due_boxes.Given as goal

abbrev pub invariant-loop-place : goal.invariant-loop-place
invariant-loop-place g l = record {
  rewrites : Rewrites g.D.Disk.history l.fn.store l.store;
  runs : l.store.stopped ≡ false;
  unmade : l.store.made ≡ [];
  many : l.place-end ≡ length l.store.map.boxes;
  undue : AreUndueTo l.place l.store.boxes;
  kept : KeepsUndue l.fn.store l.store;
  once : WritesOnce l.fn.store l.store;
  map_log : IsSameLog l.fn.store.map_log l.store.map_log;
  only : LeavesNoOldLogs g.D.Disk.history l.fn.store l.store;
  idle : All (λ b. is_box_due b ≡ false) l.fn.store.boxes → l.store ≡ l.fn.store;
  faults : NoFault (g.D.Disk.faults l.fn.store.disk) (g.D.Disk.faults l.store.disk);
}
