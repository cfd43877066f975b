use Rattle.std.proofs.Common.{All, take}
use Rattle.disk_model.specs.Disk.{IfTold, IsIdle}
use Rattle.model_store.specs.Settled.{files_of}
use Rattle.disk_model.specs.FaultCounts.{NoFault}
use Rattle.store_checks.specs.Lengths.{IsAsked, LiesIn}
use Rattle.store_checks.proofs.regions.check_regions.Given as goal

abbrev pub invariant-loop-region : goal.invariant-loop-region
invariant-loop-region g l = record {
  asked : IsAsked l.asked (g.D.Disk.history l.disk);
  idle : IsIdle (g.D.Disk.history l.fn.disk) (g.D.Disk.history l.disk);
  unfailed : NoFault (g.D.Disk.faults l.fn.disk) (g.D.Disk.faults l.disk);
  lie : IfTold (g.D.Disk.history l.fn.disk) (λ now. All (LiesIn (files_of now)) (take l.region-index l.region-items));
}
