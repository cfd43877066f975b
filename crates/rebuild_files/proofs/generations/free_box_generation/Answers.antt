use Rattle.std.proofs.Common.{◌↔◌, IsTrue, true, false, refl, arith}
use Rattle.disk_model.proofs.FaultCountLemmas.{no_fault-then}
use Rattle.disk_model.proofs.IdleLemmas.{idle-back, idle-begins, idle-on, idle-then}
use Rattle.disk_model.proofs.MomentLemmas.{if_told-all, if_told-both, if_told-map}
use Rattle.model_rebuild.specs.RebuildPlan.{IsBoxUsed, IsFreeGeneration}
use Rattle.model_store.specs.Settled.{files_of}
use Rattle.rebuild_files.proofs.ListingLemmas.{AreUsedBelow, box_unused, box_used, free_here, none_free, none_used_below, used_more}
use Rattle.rebuild_files.proofs.generations.free_box_generation.Goals as goal

pub loop-generation-init : goal.loop-generation-init
loop-generation-init g c = record {
  used = if_told-all _ (g.D.Disk.history c.args.disk.now) (λ disk. none_used_below (IsBoxUsed (files_of disk)));
  low = omega arith;
  idle = idle-begins _;
  unfailed = refl;
}

pub returns-in_err-has_box_log-clause-idle : goal.returns-in_err-has_box_log-clause-idle
returns-in_err-has_box_log-clause-idle g c = idle-then _ _ _ c.loop-generation.invariant.idle c.in_err-has_box_log.ensures.idle

pub returns-then-not-branch-clause-free : goal.returns-then-not-branch-clause-free
returns-then-not-branch-clause-free g c =
    let low = c.loop-generation.invariant.low in
    let less = c.loop-generation-test.true in
    let told = rw c.if-not-branch.true at c.in_ok-has_box_log.ensures.told in
    idle-back (λ now. IsFreeGeneration (IsBoxUsed (files_of now)) c.loop-generation.generation) (g.D.Disk.history c.args.disk.now) (g.D.Disk.history c.loop-generation.disk) c.loop-generation.invariant.idle
    (if_told-both (λ now. AreUsedBelow (IsBoxUsed (files_of now)) c.loop-generation.generation) (λ now. IsTrue false ↔ IsBoxUsed (files_of now) c.loop-generation.generation) (λ now. IsFreeGeneration (IsBoxUsed (files_of now)) c.loop-generation.generation) (g.D.Disk.history c.loop-generation.disk)
    (λ disk below told. free_here (IsBoxUsed (files_of disk)) c.loop-generation.generation (record { low = low; high = omega (arith, less) }) below (box_unused c.loop-generation.generation disk told)) c.loop-generation.invariant.used told)

pub returns-then-not-branch-clause-idle : goal.returns-then-not-branch-clause-idle
returns-then-not-branch-clause-idle g c = idle-then _ _ _ c.loop-generation.invariant.idle c.in_ok-has_box_log.ensures.idle

pub loop-generation-preserved : goal.loop-generation-preserved
loop-generation-preserved g c =
    let low = c.loop-generation.invariant.low in
    let told = rw c.if-not-branch.false at c.in_ok-has_box_log.ensures.told in
    record {
      used = idle-on (λ now. AreUsedBelow (IsBoxUsed (files_of now)) _) (g.D.Disk.history c.loop-generation.disk) _ c.in_ok-has_box_log.ensures.idle
          (if_told-both (λ now. AreUsedBelow (IsBoxUsed (files_of now)) c.loop-generation.generation) (λ now. IsTrue true ↔ IsBoxUsed (files_of now) c.loop-generation.generation) _ (g.D.Disk.history c.loop-generation.disk)
          (λ disk below told. used_more (IsBoxUsed (files_of disk)) c.loop-generation.generation below (box_used c.loop-generation.generation disk told)) c.loop-generation.invariant.used told);
      low = omega (arith, low);
      idle = idle-then _ _ _ c.loop-generation.invariant.idle c.in_ok-has_box_log.ensures.idle;
      unfailed = no_fault-then _ _ _ c.loop-generation.invariant.unfailed c.in_ok-has_box_log.ensures.unfailed;
    }

pub returns-clause-free : goal.returns-clause-free
returns-clause-free g c =
    let end = c.loop-generation-test.false in
    idle-back (λ now. IsFreeGeneration (IsBoxUsed (files_of now)) 1) (g.D.Disk.history c.args.disk.now) (g.D.Disk.history c.loop-generation.disk) c.loop-generation.invariant.idle
    (if_told-map (λ now. AreUsedBelow (IsBoxUsed (files_of now)) c.loop-generation.generation) (λ now. IsFreeGeneration (IsBoxUsed (files_of now)) 1) (g.D.Disk.history c.loop-generation.disk)
    (λ disk below. none_free (IsBoxUsed (files_of disk)) c.loop-generation.generation (omega (arith, end)) below) c.loop-generation.invariant.used)
