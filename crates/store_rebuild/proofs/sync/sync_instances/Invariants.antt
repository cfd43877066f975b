use Rattle.std.proofs.Common.{All, length}
use Rattle.disk_model.specs.Disk.{DiskState, Between, EachImage, IfTold}
use Rattle.disk_model.specs.FaultCounts.{NoFault}
use Rattle.model_rebuild.specs.RebuildMoments.{IsBeforeLogs, IsOldButForRoot}
use Rattle.store_rebuild.specs.Writing.{IsInstanceSynced, IsInstanceThere, IsOnlySynced}
use Rattle.store_rebuild.proofs.SyncLemmas.{LeftSynced}
use Rattle.store_rebuild.proofs.sync.sync_instances.Given as goal

-- the instances so far are synced
abbrev pub invariant-loop-row : goal.invariant-loop-row
invariant-loop-row g l = record {
  before : (first : DiskState) → IfTold (g.D.Disk.history l.fn.disk) (IsBeforeLogs first) → EachImage (λ _ image. IsOldButForRoot first image) (g.D.Disk.history l.fn.disk) (g.D.Disk.history l.disk) × IfTold (g.D.Disk.history l.disk) (IsBeforeLogs first);
  same : Between IsOnlySynced (g.D.Disk.history l.fn.disk) (g.D.Disk.history l.disk);
  left : IfTold (g.D.Disk.history l.disk) (LeftSynced IsInstanceSynced l.rest l.rows);
  there : IfTold (g.D.Disk.history l.disk) (λ disk. All (IsInstanceThere disk) l.rest);
  unfailed : NoFault (g.D.Disk.faults l.fn.disk) (g.D.Disk.faults l.disk);
}

abbrev pub decreases-loop-row : goal.decreases-loop-row
decreases-loop-row g l = length l.rest
