use Rattle.std.proofs.Common.{◌≡◌, ◌≤◌, ◌++◌, ℕ, length, map, take, vec_len, vec_capacity}
use Rattle.std.specs.List.{All, AllZip}
use Rattle.disk_model.specs.FaultCounts.{NoFault}
use Rattle.gate_log.specs.State.{IsWholeLog}
use Rattle.model_kept.specs.Kept.{MailIsKept}
use Rattle.store_sweep.specs.Boxes.{found_logs, opened_logs}
use Rattle.store_sweep.specs.Moments.{ImagesCarry, KeepsStore, SameWhere, SameThere}
use Rattle.store_sweep.specs.Repaired.{IsRepaired, is_outside}
use Rattle.store_sweep.proofs.repairs.repair_boxes.Given as goal

abbrev pub invariant-loop-checked : goal.invariant-loop-checked
invariant-loop-checked g l = record {
  whole : l.yielded ++ l.checked-iterator.rest.items ≡ l.fn.found.items;
  left : l.checked-iterator.rest.len ≡ length l.checked-iterator.rest.items;
  images : (generation : ℕ) → ImagesCarry generation l.map.meaning (g.D.Disk.history l.initial.disk) (g.D.Disk.history l.disk);
  keeps : (generation : ℕ) → KeepsStore generation l.map.meaning (g.D.Disk.history l.initial.disk) (g.D.Disk.history l.disk);
  outside : SameWhere (is_outside (found_logs l.yielded)) (g.D.Disk.history l.initial.disk) (g.D.Disk.history l.disk);
  opened : AllZip (IsRepaired (g.D.Disk.history l.initial.disk) (g.D.Disk.history l.disk)) (found_logs l.yielded) (opened_logs l.opened.items);
  numbers : map (λ b. b.number.0) l.opened.items ≡ map (λ b. b.number) (take (length l.yielded) l.map.meaning.boxes);
  indexes : map (λ b. b.index) l.opened.items ≡ map (λ b. b.index) l.yielded;
  mail_stays : MailIsKept l.map.meaning (g.D.Disk.history l.initial.disk) (g.D.Disk.history l.disk);
  untouched : All IsWholeLog (found_logs l.fn.found.items) → l.disk ≡ l.initial.disk;
  len : vec_len l.opened ≡ length l.yielded;
  items : length l.opened.items ≡ length l.yielded;
  capacity : vec_capacity l.initial.opened ≤ vec_capacity l.opened;
  there : SameThere (g.D.Disk.history l.initial.disk) (g.D.Disk.history l.disk);
  faults : NoFault (g.D.Disk.faults l.initial.disk) (g.D.Disk.faults l.disk);
}
