use Rattle.std.proofs.Common.{◌≡◌, ◌+◌, ◌++◌, length}
use Rattle.disk_model.specs.Disk.{DiskState, Between, EachImage, IfTold}
use Rattle.disk_model.specs.FaultCounts.{NoFault}
use Rattle.store_rebuild.specs.Writing.{IsRootless, IsWithoutStore, IsBoxLogOf, KeepBoxLogs, KeepsAllBut}
use Rattle.store_rebuild.proofs.logs.write_boxes.Given as goal

-- the logs so far are written
abbrev pub invariant-loop-log : goal.invariant-loop-log
invariant-loop-log g l = record {
  whole : l.yielded ++ l.log-iterator.rest.items ≡ l.fn.logs.items;
  left : l.log-iterator.rest.len ≡ length l.log-iterator.rest.items;
  number : l.number ≡ length l.yielded + 1;
  rootless : (first : DiskState) → IfTold (g.D.Disk.history l.fn.disk) (IsRootless first) → EachImage (λ _ image. IsWithoutStore first image) (g.D.Disk.history l.fn.disk) (g.D.Disk.history l.disk) × IfTold (g.D.Disk.history l.disk) (IsRootless first);
  made : IfTold (g.D.Disk.history l.disk) (λ disk. KeepBoxLogs disk l.id.0 1 l.generation l.yielded);
  others : Between (KeepsAllBut (IsBoxLogOf l.generation)) (g.D.Disk.history l.fn.disk) (g.D.Disk.history l.disk);
  unfailed : NoFault (g.D.Disk.faults l.fn.disk) (g.D.Disk.faults l.disk);
}
