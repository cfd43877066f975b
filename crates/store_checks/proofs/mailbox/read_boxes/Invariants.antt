use Rattle.std.proofs.Common.{List, take}
use Rattle.mdbox_base.specs.declared.entries.BoxEntry.{BoxEntry}
use Rattle.disk_model.specs.Disk.{IsIdle}
use Rattle.disk_model.specs.FaultCounts.{NoFault}
use Rattle.store_checks.specs.Boxes.{AreRead}
use Rattle.store_checks.proofs.mailbox.read_boxes.Given as goal

abbrev pub invariant-loop-place : goal.invariant-loop-place
invariant-loop-place g l = record {
  idle : IsIdle (g.D.Disk.history l.fn.disk) (g.D.Disk.history l.disk);
  unfailed : NoFault (g.D.Disk.faults l.fn.disk) (g.D.Disk.faults l.disk);
  read : (logs : List (List BoxEntry)) × AreRead l.id.0 l.map.meaning (take l.place l.map.meaning.boxes) l.boxes logs (g.D.Disk.history l.fn.disk) (g.D.Disk.history l.disk);
}
