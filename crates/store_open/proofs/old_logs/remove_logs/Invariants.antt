use Rattle.disk_model.specs.FaultCounts.{NoFault}
use Rattle.disk_model.proofs.NameOrderLemmas.{names_left}
use Rattle.store_open.proofs.OldLogLemmas.{Walked}
use Rattle.store_open.proofs.old_logs.remove_logs.Given as goal

abbrev pub invariant-loop-name : goal.invariant-loop-name
invariant-loop-name g l = record {
  walked : Walked l.after (g.D.Disk.history l.fn.disk) (g.D.Disk.history l.disk);
  faults : NoFault (g.D.Disk.faults l.fn.disk) (g.D.Disk.faults l.disk);
}

abbrev pub decreases-loop-name : goal.decreases-loop-name
decreases-loop-name g l = names_left l.after
