use Rattle.std.proofs.Common.{length}
use Rattle.disk_model.specs.FaultCounts.{NoFault}
use Rattle.storage_files.proofs.AddingLemmas.{AreAddedSoFar}
use Rattle.storage_files.proofs.adding.write_pieces.Given as goal

abbrev pub invariant-loop-rest : goal.invariant-loop-rest
invariant-loop-rest g l = record {
  added : AreAddedSoFar l.name l.at l.octets (g.D.Disk.history l.fn.disk) l.end l.rest (g.D.Disk.history l.disk);
  unfailed : NoFault (g.D.Disk.faults l.fn.disk) (g.D.Disk.faults l.disk);
}

abbrev pub decreases-loop-rest : goal.decreases-loop-rest
decreases-loop-rest g l = length l.rest
