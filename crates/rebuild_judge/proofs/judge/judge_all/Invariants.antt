use Rattle.disk_model.specs.Disk.{IfTold, IsIdle}
use Rattle.disk_model.specs.FaultCounts.{NoFault}
use Rattle.rebuild_judge.proofs.EndLemmas.{JudgedUpTo}
use Rattle.rebuild_judge.proofs.judge.judge_all.Given as goal

-- what was found so far
abbrev pub invariant-loop-found : goal.invariant-loop-found
invariant-loop-found g l = record {
  judged : IfTold (g.D.Disk.history l.disk) (JudgedUpTo l.store.0 l.places l.found-index l.keeping l.skipped l.file);
  idle : IsIdle (g.D.Disk.history l.fn.disk) (g.D.Disk.history l.disk);
  unfailed : NoFault (g.D.Disk.faults l.fn.disk) (g.D.Disk.faults l.disk);
}
