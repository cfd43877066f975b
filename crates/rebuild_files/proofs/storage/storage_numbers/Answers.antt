use Rattle.std.proofs.Common.{refl, arith}
use Rattle.disk_model.proofs.FaultCountLemmas.{no_fault-then}
use Rattle.disk_model.proofs.IdleLemmas.{idle-back, idle-begins, idle-on, idle-then}
use Rattle.rebuild_files.proofs.NumberLemmas.{NumbersUpTo, numbers_begin, numbers_more, numbers_end}
use Rattle.rebuild_files.proofs.storage.storage_numbers.Goals as goal

pub loop-numbers-init : goal.loop-numbers-init
loop-numbers-init g c = record {
  numbers = numbers_begin (g.D.Disk.history c.args.disk.now) c.empty-numbers.result c.empty-numbers.ensures;
  small = omega arith;
  idle = idle-begins _;
  unfailed = refl;
}

pub loop-numbers-preserved : goal.loop-numbers-preserved
loop-numbers-preserved g c =
    let past = rw c.in-Some.is at c.in_ok-number.ensures.past in
    record {
      numbers = idle-on (NumbersUpTo c.in-Some.number c.push.new.self) (g.D.Disk.history c.loop-numbers.disk) (g.D.Disk.history c.next_storage.new.disk) c.in_ok-number.ensures.idle
          (numbers_more (g.D.Disk.history c.loop-numbers.disk) c.loop-numbers.last c.in-Some.number c.loop-numbers.numbers c.push.new.self c.loop-numbers.invariant.numbers past (rw c.in-Some.is at c.in_ok-number.ensures.next) c.in_ok-push.ensures.ok);
      small = past.1;
      idle = idle-then _ _ _ c.loop-numbers.invariant.idle c.in_ok-number.ensures.idle;
      unfailed = no_fault-then _ _ _ c.loop-numbers.invariant.unfailed c.in_ok-number.ensures.unfailed;
    }

pub returns-in_err-number-clause-idle : goal.returns-in_err-number-clause-idle
returns-in_err-number-clause-idle g c = idle-then _ _ _ c.loop-numbers.invariant.idle c.in_err-number.ensures.idle

pub returns-in_err-push-clause-idle : goal.returns-in_err-push-clause-idle
returns-in_err-push-clause-idle g c = idle-then _ _ _ c.loop-numbers.invariant.idle c.in_ok-number.ensures.idle

pub returns-clause-numbers : goal.returns-clause-numbers
returns-clause-numbers g c =
    idle-back _ (g.D.Disk.history c.args.disk.now) (g.D.Disk.history c.loop-numbers.disk) c.loop-numbers.invariant.idle
    (numbers_end (g.D.Disk.history c.loop-numbers.disk) c.loop-numbers.last c.loop-numbers.numbers c.loop-numbers.invariant.numbers (rw c.in_default.is at c.in_ok-number.ensures.next))

pub returns-clause-idle : goal.returns-clause-idle
returns-clause-idle g c = idle-then _ _ _ c.loop-numbers.invariant.idle c.in_ok-number.ensures.idle
