use Rattle.std.proofs.Common.{All, take}
use Rattle.disk_model.specs.Disk.{IfTold, IsIdle}
use Rattle.model_store.specs.Settled.{files_of}
use Rattle.disk_model.specs.FaultCounts.{NoFault}
use Rattle.store_checks.specs.Lengths.{IsAsked, IsWholeIn}
use Rattle.store_checks.proofs.instances.check_instances.Given as goal

abbrev pub invariant-loop-inst : goal.invariant-loop-inst
invariant-loop-inst g l = record {
  asked : IsAsked l.asked (g.D.Disk.history l.disk);
  idle : IsIdle (g.D.Disk.history l.fn.disk) (g.D.Disk.history l.disk);
  unfailed : NoFault (g.D.Disk.faults l.fn.disk) (g.D.Disk.faults l.disk);
  whole : IfTold (g.D.Disk.history l.fn.disk) (λ now. All (IsWholeIn (files_of now)) (take l.inst-index l.inst-items));
}
