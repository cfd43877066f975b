use Rattle.std.proofs.Common.{◌≡◌, ◌+◌, length}
use Rattle.disk_model.specs.Disk.{IfTold, IsIdle}
use Rattle.disk_model.specs.FaultCounts.{NoFault}
use Rattle.rebuild_judge.proofs.InstanceLemmas.{GoesOn, itself}
use Rattle.rebuild_judge.proofs.instances.instance_octets.Given as goal

-- the references so far
abbrev pub invariant-loop-reference : goal.invariant-loop-reference
invariant-loop-reference g l = record {
  told : IfTold (g.D.Disk.history l.disk) (GoesOn itself l.refs l.rest l.found);
  count : length l.found + length l.rest ≡ length l.refs;
  idle : IsIdle (g.D.Disk.history l.fn.disk) (g.D.Disk.history l.disk);
  unfailed : NoFault (g.D.Disk.faults l.fn.disk) (g.D.Disk.faults l.disk);
}

abbrev pub decreases-loop-reference : goal.decreases-loop-reference
decreases-loop-reference g l = length l.rest
