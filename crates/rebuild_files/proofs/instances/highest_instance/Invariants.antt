use Rattle.std.proofs.Common.{◌<◌, Some}
use Rattle.disk_model.proofs.NameOrderLemmas.{names_left}
use Rattle.disk_model.specs.Disk.{IfTold, IsIdle}
use Rattle.disk_model.specs.FaultCounts.{NoFault}
use Rattle.disk_model.specs.Name.{IsNameInRange}
use Rattle.rebuild_files.proofs.ListingLemmas.{IsMostUpTo}
use Rattle.rebuild_files.proofs.instances.highest_instance.Given as goal

-- the greatest number so far
abbrev pub invariant-loop-name : goal.invariant-loop-name
invariant-loop-name g l = record {
  most : IfTold (g.D.Disk.history l.disk) (IsMostUpTo l.store.0 l.last l.most);
  small : l.most < 4294967295;
  range : IsNameInRange l.last;
  idle : IsIdle (g.D.Disk.history l.fn.disk) (g.D.Disk.history l.disk);
  unfailed : NoFault (g.D.Disk.faults l.fn.disk) (g.D.Disk.faults l.disk);
}

abbrev pub decreases-loop-name : goal.decreases-loop-name
decreases-loop-name g l = names_left (Some l.last)
