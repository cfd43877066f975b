-- A store that wasn't opened for lack of memory, before any call of its disk.
use Rattle.std.specs.Prelude.{Option, Some, None}
use Rattle.std.proofs.Common.{refl, arith}
use Rattle.disk_model.specs.Disk.{DiskState, Faults, History}
use Rattle.disk_model.proofs.IdleLemmas.{idle-begins}
use Rattle.model_meaning.specs.MapMeaning.{map_meaning}
use Rattle.task_steps.proofs.UnmovedLemmas.{mail_still}
use Rattle.store_open.specs.Making.{IdleUnless}
use Rattle.store_open.specs.Opened.{HasNoLogDue, IsClosedWell, Opening}
use Rattle.store_open.specs.declared.error.OpenError.TheVariants as error
use Rattle.store_open.proofs.SweptStoreLemmas.{carries-idle, idle_safe}
use Rattle.store_sweep.specs.Moments.{IdleIf}
use Rattle.script_run.proofs.DoneLemmas.{settled_safe}
use Rattle.script_run.specs.Opening.{IsUnopened}

untouched : (history : Option History) → IdleUnless Opening history history
untouched None = tt
untouched (Some h) = λ no. idle-begins (Some h)

still_if : (P : DiskState → Type 0) (history : Option History) → IdleIf P history history
still_if P None = tt
still_if P (Some h) = λ p. idle-begins (Some h)

pub unopened_still : (history : Option History) (faults : Faults) → IsUnopened error.NoMemory history history faults faults
unopened_still history faults = record {
  cause = tt;
  idle = λ no none. idle-begins history;
  memory = λ why. still_if HasNoLogDue history;
  untouched = untouched history;
  stays = λ store entries logs opens. mail_still (map_meaning store entries) history;
  closed_well = still_if IsClosedWell history;
  moments = λ lists at. idle_safe lists history history (idle-begins history) at;
  safe = λ lists at. settled_safe lists history at;
  settled_again = λ no lists at. at;
  carried = λ no. carries-idle history history (idle-begins history);
  fault = record { reads = omega arith; changes = omega arith; rose = λ e. absurd (cc e) };
  unfailed = λ no. refl;
}
