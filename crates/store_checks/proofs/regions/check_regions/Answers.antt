use Rattle.std.proofs.Common.{◌≡◌, refl, true, false}
use Rattle.disk_model.proofs.IdleLemmas.{idle-begins, idle-then}
use Rattle.store_checks.specs.Lengths.{LiesIn}
use Rattle.disk_model.proofs.FaultCountLemmas.{no_fault-then}
use Rattle.store_checks.proofs.RegionLengthLemmas.{region_next, region_fails, regions_done, none_yet}
use Rattle.store_checks.proofs.regions.check_regions.Goals as goal

pub returns-in_err-regions-clause-idle : goal.returns-in_err-regions-clause-idle
returns-in_err-regions-clause-idle g c = idle-begins _

pub loop-region-init : goal.loop-region-init
loop-region-init g c = record { asked = tt; idle = idle-begins _; unfailed = refl; lie = none_yet LiesIn _ }

pub returns-in_err-length-clause-idle : goal.returns-in_err-length-clause-idle
returns-in_err-length-clause-idle g c = idle-then _ _ _ c.loop-region.invariant.idle c.length_of.ensures.idle

pub returns-then-not-ends_within-clause-refused : goal.returns-then-not-ends_within-clause-refused
returns-then-not-ends_within-clause-refused g c =
    region_fails c.args.map.now.meaning c.in_ok-regions.regions.items c.deref-region-items.result.now c.loop-region.region-index _ _ _ c.in_ok-length.length c.deref-region-items.ensures.value c.loop-region-test.true
    c.loop-region.invariant.idle c.in_ok-length.ensures.length (λ h. absurd (let e : false ≡ true = c.if-not-ends_within.ensures.1 h in cc e)) c.in_ok-regions.ensures.same c.in_ok-regions.ensures.order c.loop-region.invariant.lie

pub returns-then-not-ends_within-clause-idle : goal.returns-then-not-ends_within-clause-idle
returns-then-not-ends_within-clause-idle g c = idle-then _ _ _ c.loop-region.invariant.idle c.in_ok-length.ensures.idle

pub loop-region-preserved : goal.loop-region-preserved
loop-region-preserved g c = record {
  asked = c.in_ok-length.ensures.asked;
  idle = idle-then _ _ _ c.loop-region.invariant.idle c.in_ok-length.ensures.idle;
  unfailed = no_fault-then _ _ _ c.loop-region.invariant.unfailed (c.in_ok-length.ensures.unfailed);
  lie = region_next c.deref-region-items.result.now c.loop-region.region-index _ _ _ c.in_ok-length.length c.loop-region-test.true c.loop-region.invariant.idle c.in_ok-length.ensures.length (c.if-not-ends_within.ensures.0 refl) c.loop-region.invariant.lie;
}

pub returns-clause-passed : goal.returns-clause-passed
returns-clause-passed g c = regions_done c.args.map.now.meaning c.in_ok-regions.regions.items c.deref-region-items.result.now c.loop-region.region-index _ c.deref-region-items.ensures.value c.loop-region-test.false c.in_ok-regions.ensures.same c.loop-region.invariant.lie
