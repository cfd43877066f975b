use Rattle.std.proofs.Common.{◌≤◌}
use Rattle.disk_model.specs.Disk.{IfTold, IsIdle}
use Rattle.disk_model.specs.FaultCounts.{NoFault}
use Rattle.model_rebuild.specs.RebuildPlan.{IsMapUsed}
use Rattle.model_store.specs.Settled.{files_of}
use Rattle.rebuild_files.proofs.ListingLemmas.{AreUsedBelow}
use Rattle.rebuild_files.proofs.generations.free_map_generation.Given as goal

-- all generations before this one are used
abbrev pub invariant-loop-generation : goal.invariant-loop-generation
invariant-loop-generation g l = record {
  used : IfTold (g.D.Disk.history l.disk) (λ now. AreUsedBelow (IsMapUsed (files_of now)) l.generation);
  low : 1 ≤ l.generation;
  idle : IsIdle (g.D.Disk.history l.fn.disk) (g.D.Disk.history l.disk);
  unfailed : NoFault (g.D.Disk.faults l.fn.disk) (g.D.Disk.faults l.disk);
}
