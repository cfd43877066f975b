use Rattle.std.proofs.Common.{All}
use Rattle.disk_model.specs.Disk.{IsIdle}
use Rattle.disk_model.specs.FaultCounts.{NoFault}
use Rattle.store_files.specs.Found.{IsFoundEnd, IsUnbarred}
use Rattle.store_files.proofs.EndLemmas.{Gathered}
use Rattle.store_files.proofs.states.file_states.Given as goal

-- the files of the numbers so far
abbrev pub invariant-loop-number : goal.invariant-loop-number
invariant-loop-number g l = record {
  gathered : Gathered (IsFoundEnd l.map.meaning (g.D.Disk.history l.fn.disk)) l.numbers l.number-index l.states.items;
  marks : All (IsUnbarred l.map.meaning) l.states.items;
  idle : IsIdle (g.D.Disk.history l.fn.disk) (g.D.Disk.history l.disk);
  unfailed : NoFault (g.D.Disk.faults l.fn.disk) (g.D.Disk.faults l.disk);
}
