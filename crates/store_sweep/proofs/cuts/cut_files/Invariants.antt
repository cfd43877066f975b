use Rattle.std.proofs.Common.{ℕ}
use Rattle.std.specs.Prelude.{IfSome}
use Rattle.disk_model.specs.FaultCounts.{NoFault}
use Rattle.disk_model.specs.Disk.{IfTold, IsThere, IsPast}
use Rattle.disk_model.specs.contracts.name.FileNameOrd.TheImpl.{ghosts}
use Rattle.disk_model.specs.declared.name.FileName.{FileName}
use Rattle.disk_model.specs.Name.{IsNameInRange, is_log}
use Rattle.model_kept.specs.Kept.{MailIsKept}
use Rattle.store_sweep.specs.Wanted.{EndsByLastRegion}
use Rattle.store_sweep.specs.Moments.{ImagesCarry, KeepsStore, SameWhere, SameThere, AreFitted, IdleIf}
use Rattle.disk_model.proofs.NameOrderLemmas.{names_left}
use Rattle.store_sweep.proofs.cuts.cut_files.Given as goal

abbrev pub invariant-loop-name : goal.invariant-loop-name
invariant-loop-name g l = record {
  images : (generation : ℕ) → ImagesCarry generation l.map.meaning (g.D.Disk.history l.initial.disk) (g.D.Disk.history l.disk);
  keeps : (generation : ℕ) → KeepsStore generation l.map.meaning (g.D.Disk.history l.initial.disk) (g.D.Disk.history l.disk);
  logs : SameWhere is_log (g.D.Disk.history l.initial.disk) (g.D.Disk.history l.disk);
  mail : AreFitted l.map.meaning (g.D.Disk.history l.initial.disk) (g.D.Disk.history l.disk);
  there : SameThere (g.D.Disk.history l.initial.disk) (g.D.Disk.history l.disk);
  cut : IfTold (g.D.Disk.history l.disk) (λ now. (name : FileName) → IsThere (now name) → (IsPast ghosts.cmp l.last name → ⊥) → EndsByLastRegion l.map.meaning name (now name));
  mail_stays : MailIsKept l.map.meaning (g.D.Disk.history l.initial.disk) (g.D.Disk.history l.disk);
  idle : IdleIf (λ now. (name : FileName) → IsThere (now name) → EndsByLastRegion l.map.meaning name (now name)) (g.D.Disk.history l.initial.disk) (g.D.Disk.history l.disk);
  in_range : IfSome l.last IsNameInRange;
  faults : NoFault (g.D.Disk.faults l.initial.disk) (g.D.Disk.faults l.disk);
}

abbrev pub decreases-loop-name : goal.decreases-loop-name
decreases-loop-name g l = names_left l.last
