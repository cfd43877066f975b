use Rattle.std.proofs.Common.{◌-◌, ◌≤◌, length}
use Rattle.disk_model.specs.Disk.{IfTold, reading, IsIdle}
use Rattle.disk_model.specs.FaultCounts.{NoFault}
use Rattle.sis_store.proofs.CompareLemmas.{IsSameTo}
use Rattle.sis_store.proofs.reading.reads_as.Given as goal

-- the file is as long as the octets, and the same so far
abbrev pub invariant-loop-at : goal.invariant-loop-at
invariant-loop-at g l = record {
  within : l.at ≤ length l.octets;
  same : IfTold (g.D.Disk.history l.fn.disk) (λ now. IsSameTo l.octets l.at (reading (now l.name)));
  idle : IsIdle (g.D.Disk.history l.fn.disk) (g.D.Disk.history l.disk);
  unfailed : NoFault (g.D.Disk.faults l.fn.disk) (g.D.Disk.faults l.disk);
}

abbrev pub decreases-loop-at : goal.decreases-loop-at
decreases-loop-at g l = length l.octets - l.at
