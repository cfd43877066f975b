use Rattle.std.proofs.Common.{◌≡◌, ◌≤◌, ◌-◌}
use Rattle.disk_model.specs.Disk.{IfTold, IsIdle}
use Rattle.disk_model.specs.FaultCounts.{NoFault}
use Rattle.rebuild_files.proofs.FindingLemmas.{IsFoundToOn}
use Rattle.scan_pieces.specs.WindowValue.{IsWindowOn}
use Rattle.rebuild_files.proofs.find.find_in_file.Given as goal

-- the file up to the offset
abbrev pub invariant-loop-offset : goal.invariant-loop-offset
invariant-loop-offset g l = record {
  number : l.window.number ≡ l.fn.number.0;
  within : l.offset ≤ l.window.size;
  window : IfTold (g.D.Disk.history l.disk) (IsWindowOn l.window);
  added : IfTold (g.D.Disk.history l.disk) (IsFoundToOn l.fn.number.0 l.offset l.fn.found l.found);
  idle : IsIdle (g.D.Disk.history l.fn.disk) (g.D.Disk.history l.disk);
  unfailed : NoFault (g.D.Disk.faults l.fn.disk) (g.D.Disk.faults l.disk);
}

abbrev pub decreases-loop-offset : goal.decreases-loop-offset
decreases-loop-offset g l = l.window.size - l.offset
