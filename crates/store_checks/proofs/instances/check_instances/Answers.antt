use Rattle.std.proofs.Common.{◌≡◌, refl, true, false}
use Rattle.disk_model.proofs.IdleLemmas.{idle-begins, idle-then}
use Rattle.store_checks.specs.Lengths.{IsWholeIn}
use Rattle.disk_model.proofs.FaultCountLemmas.{no_fault-then}
use Rattle.store_checks.proofs.RegionLengthLemmas.{instance_next, instance_fails, instances_done, none_yet}
use Rattle.store_checks.proofs.instances.check_instances.Goals as goal

pub returns-in_err-instances-clause-idle : goal.returns-in_err-instances-clause-idle
returns-in_err-instances-clause-idle g c = idle-begins _

pub loop-inst-init : goal.loop-inst-init
loop-inst-init g c = record { asked = tt; idle = idle-begins _; unfailed = refl; whole = none_yet IsWholeIn _ }

pub returns-in_err-length-clause-idle : goal.returns-in_err-length-clause-idle
returns-in_err-length-clause-idle g c = idle-then _ _ _ c.loop-inst.invariant.idle c.length_of.ensures.idle

pub returns-then-not-has_length-clause-refused : goal.returns-then-not-has_length-clause-refused
returns-then-not-has_length-clause-refused g c = (
  refl,
  instance_fails c.args.map.now.meaning c.in_ok-instances.instances.items c.deref-inst-items.result.now c.loop-inst.inst-index _ _ _ c.in_ok-length.length c.deref-inst-items.ensures.value c.loop-inst-test.true
      c.loop-inst.invariant.idle c.in_ok-length.ensures.length (λ h. let e : false ≡ true = c.if-not-has_length.ensures.1 h in cc e) c.in_ok-instances.ensures.same c.in_ok-instances.ensures.order c.loop-inst.invariant.whole,
)

pub returns-then-not-has_length-clause-idle : goal.returns-then-not-has_length-clause-idle
returns-then-not-has_length-clause-idle g c = idle-then _ _ _ c.loop-inst.invariant.idle c.in_ok-length.ensures.idle

pub loop-inst-preserved : goal.loop-inst-preserved
loop-inst-preserved g c = record {
  asked = c.in_ok-length.ensures.asked;
  idle = idle-then _ _ _ c.loop-inst.invariant.idle c.in_ok-length.ensures.idle;
  unfailed = no_fault-then _ _ _ c.loop-inst.invariant.unfailed (c.in_ok-length.ensures.unfailed);
  whole = instance_next c.deref-inst-items.result.now c.loop-inst.inst-index _ _ _ c.in_ok-length.length c.loop-inst-test.true c.loop-inst.invariant.idle c.in_ok-length.ensures.length (c.if-not-has_length.ensures.0 refl) c.loop-inst.invariant.whole;
}

pub returns-clause-passed : goal.returns-clause-passed
returns-clause-passed g c = instances_done c.args.map.now.meaning c.in_ok-instances.instances.items c.deref-inst-items.result.now c.loop-inst.inst-index _ c.deref-inst-items.ensures.value c.loop-inst-test.false c.in_ok-instances.ensures.same c.loop-inst.invariant.whole
