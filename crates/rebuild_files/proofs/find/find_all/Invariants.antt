use Rattle.std.proofs.Common.{take}
use Rattle.disk_model.specs.Disk.{IfTold, IsIdle}
use Rattle.disk_model.specs.FaultCounts.{NoFault}
use Rattle.rebuild_files.proofs.FindingLemmas.{AreFoundIn}
use Rattle.rebuild_files.specs.Listing.{AreStorageNumbers}
use Rattle.rebuild_files.proofs.find.find_all.Given as goal

-- the files so far
abbrev pub invariant-loop-number : goal.invariant-loop-number
invariant-loop-number g l = record {
  numbers : IfTold (g.D.Disk.history l.disk) (AreStorageNumbers l.number-items);
  found : IfTold (g.D.Disk.history l.disk) (AreFoundIn (take l.number-index l.number-items) l.found);
  idle : IsIdle (g.D.Disk.history l.fn.disk) (g.D.Disk.history l.disk);
  unfailed : NoFault (g.D.Disk.faults l.fn.disk) (g.D.Disk.faults l.disk);
}
