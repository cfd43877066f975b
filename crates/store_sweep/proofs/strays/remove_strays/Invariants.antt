use Rattle.std.proofs.Common.{◌≡◌, true, false}
use Rattle.disk_model.specs.FaultCounts.{NoFault}
use Rattle.disk_model.specs.Disk.{SameState, IfTold, IsThere, IsPast}
use Rattle.std.specs.Prelude.{IfSome}
use Rattle.disk_model.specs.contracts.name.FileNameOrd.TheImpl.{ghosts}
use Rattle.disk_model.specs.declared.name.FileName.{FileName}
use Rattle.disk_model.specs.Name.{IsNameInRange}
use Rattle.model_kept.specs.Kept.{MailIsKept}
use Rattle.store_sweep.specs.Wanted.{is_wanted, HasStray}
use Rattle.store_sweep.specs.Moments.{ImagesCarry, SameWhere, IdleIf}
use Rattle.disk_model.proofs.NameOrderLemmas.{names_left}
use Rattle.store_sweep.proofs.strays.remove_strays.Given as goal

abbrev pub invariant-loop-name : goal.invariant-loop-name
invariant-loop-name g l = record {
  images : ImagesCarry l.generation l.map.meaning (g.D.Disk.history l.initial.disk) (g.D.Disk.history l.disk);
  same : SameWhere (is_wanted l.generation l.map.meaning) (g.D.Disk.history l.initial.disk) (g.D.Disk.history l.disk);
  gone : IfTold (g.D.Disk.history l.disk) (λ now. (name : FileName) → IsThere (now name) → (IsPast ghosts.cmp l.last name → ⊥) → is_wanted l.generation l.map.meaning name ≡ true);
  none : l.removed ≡ false → SameState (g.D.Disk.history l.initial.disk) (g.D.Disk.history l.disk);
  mail_stays : MailIsKept l.map.meaning (g.D.Disk.history l.initial.disk) (g.D.Disk.history l.disk);
  some : l.removed ≡ true → IfTold (g.D.Disk.history l.initial.disk) (HasStray l.generation l.map.meaning);
  idle : IdleIf (λ now. HasStray l.generation l.map.meaning now → ⊥) (g.D.Disk.history l.initial.disk) (g.D.Disk.history l.disk);
  in_range : IfSome l.last IsNameInRange;
  faults : NoFault (g.D.Disk.faults l.initial.disk) (g.D.Disk.faults l.disk);
}

abbrev pub decreases-loop-name : goal.decreases-loop-name
decreases-loop-name g l = names_left l.last
