use Rattle.std.proofs.Common.{◌<◌, ◌-◌}
use Rattle.disk_model.specs.Disk.{IfTold, IsIdle}
use Rattle.disk_model.specs.FaultCounts.{NoFault}
use Rattle.rebuild_files.proofs.NumberLemmas.{NumbersUpTo}
use Rattle.rebuild_files.proofs.storage.storage_numbers.Given as goal

-- the numbers so far
abbrev pub invariant-loop-numbers : goal.invariant-loop-numbers
invariant-loop-numbers g l = record {
  numbers : IfTold (g.D.Disk.history l.disk) (NumbersUpTo l.last l.numbers);
  small : l.last < 4294967295;
  idle : IsIdle (g.D.Disk.history l.fn.disk) (g.D.Disk.history l.disk);
  unfailed : NoFault (g.D.Disk.faults l.fn.disk) (g.D.Disk.faults l.disk);
}

abbrev pub decreases-loop-numbers : goal.decreases-loop-numbers
decreases-loop-numbers g l = 4294967295 - l.last
