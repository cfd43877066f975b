use Rattle.std.proofs.Common.{List, ap, subst, ◌∙◌, sym}
use Rattle.disk_model.proofs.IdleLemmas.{idle-back, idle-on, idle-then}
use Rattle.disk_model.specs.Disk.{IfTold, IsIdle}
use Rattle.model_rebuild.specs.RebuildPlan.{IsBoxUsed, IsFreeGeneration, IsGreatest, IsInstanceNumber, IsMapUsed}
use Rattle.model_store.specs.Settled.{files_of}
use Rattle.rebuild_files.specs.Listing.{AreStorageNumbers}
use Rattle.rebuild_files.specs.Places.{AreAllFindings}
use Rattle.rebuild_files.specs.declared.found.FoundAt.{FoundAt}
use Rattle.rebuild_judge.specs.Judges.{IsJudgedOf}
use Rattle.store_rebuild.specs.Planned.{last_number}
use Rattle.store_rebuild.proofs.PlannedLemmas.{is_planned}
use Rattle.store_rebuild.proofs.plan.plan_of.Goals as goal

pub judge_all-requires : goal.judge_all-requires
judge_all-requires g c = record {
  found = subst (λ (ps : List FoundAt). IfTold (g.D.Disk.history c.find_all.new.disk) (AreAllFindings ps)) (sym c.as_slice.ensures) (idle-on (AreAllFindings c.in_ok-places.places) _ _ c.in_ok-places.ensures.idle c.in_ok-places.ensures.found);
}

pub returns-clause-planned : goal.returns-clause-planned
returns-clause-planned g c =
    let i1 : IsIdle (g.D.Disk.history c.args.disk.now) (g.D.Disk.history c.find_all.new.disk) = c.in_ok-places.ensures.idle in
    let i2 : IsIdle (g.D.Disk.history c.args.disk.now) (g.D.Disk.history c.judge_all.new.disk) = idle-then _ _ _ i1 c.in_ok-judged.ensures.idle in
    let i3 : IsIdle (g.D.Disk.history c.args.disk.now) (g.D.Disk.history c.storage_numbers.new.disk) = idle-then _ _ _ i2 c.in_ok-numbers.ensures.idle in
    let i4 : IsIdle (g.D.Disk.history c.args.disk.now) (g.D.Disk.history c.highest_instance.new.disk) = idle-then _ _ _ i3 c.in_ok-instance.ensures.idle in
    let i5 : IsIdle (g.D.Disk.history c.args.disk.now) (g.D.Disk.history c.free_map_generation.new.disk) = idle-then _ _ _ i4 c.in_ok-map_generation.ensures.idle in
    is_planned c.args.id.0 c.in_ok-judged.judged c.in_ok-numbers.numbers _ c.last_of.result c.in_ok-instance.instance c.in_ok-map_generation.map_generation c.in_ok-box_generation.box_generation _ (c.last_of.ensures ∙ ap last_number c.as_slice-2.ensures) c.max.ensures
    (idle-back (IsJudgedOf c.args.id.0 c.in_ok-judged.judged) _ _ i1 c.in_ok-judged.ensures.judged) (idle-back (AreStorageNumbers c.in_ok-numbers.numbers) _ _ i2 c.in_ok-numbers.ensures.numbers)
    (idle-back (λ disk. IsGreatest (IsInstanceNumber (files_of disk) c.args.id.0) c.in_ok-instance.instance) _ _ i3 c.in_ok-instance.ensures.greatest)
    (idle-back (λ disk. IsFreeGeneration (IsMapUsed (files_of disk)) c.in_ok-map_generation.map_generation) _ _ i4 c.in_ok-map_generation.ensures.free)
    (idle-back (λ disk. IsFreeGeneration (IsBoxUsed (files_of disk)) c.in_ok-box_generation.box_generation) _ _ i5 c.in_ok-box_generation.ensures.free)

pub returns-in_err-judged-clause-idle : goal.returns-in_err-judged-clause-idle
returns-in_err-judged-clause-idle g c = idle-then _ _ _ c.in_ok-places.ensures.idle c.in_err-judged.ensures.idle

pub returns-in_err-numbers-clause-idle : goal.returns-in_err-numbers-clause-idle
returns-in_err-numbers-clause-idle g c = idle-then _ _ _ (idle-then _ _ _ c.in_ok-places.ensures.idle c.in_ok-judged.ensures.idle) c.in_err-numbers.ensures.idle

pub returns-in_err-instance-clause-idle : goal.returns-in_err-instance-clause-idle
returns-in_err-instance-clause-idle g c = idle-then _ _ _ (idle-then _ _ _ (idle-then _ _ _ c.in_ok-places.ensures.idle c.in_ok-judged.ensures.idle) c.in_ok-numbers.ensures.idle) c.in_err-instance.ensures.idle

pub returns-in_err-map_generation-clause-idle : goal.returns-in_err-map_generation-clause-idle
returns-in_err-map_generation-clause-idle g c = idle-then _ _ _ (idle-then _ _ _ (idle-then _ _ _ (idle-then _ _ _ c.in_ok-places.ensures.idle c.in_ok-judged.ensures.idle) c.in_ok-numbers.ensures.idle) c.in_ok-instance.ensures.idle) c.in_err-map_generation.ensures.idle

pub returns-in_err-box_generation-clause-idle : goal.returns-in_err-box_generation-clause-idle
returns-in_err-box_generation-clause-idle g c = idle-then _ _ _ (idle-then _ _ _ (idle-then _ _ _ (idle-then _ _ _ (idle-then _ _ _ c.in_ok-places.ensures.idle c.in_ok-judged.ensures.idle) c.in_ok-numbers.ensures.idle) c.in_ok-instance.ensures.idle) c.in_ok-map_generation.ensures.idle) c.in_err-box_generation.ensures.idle

pub returns-clause-idle : goal.returns-clause-idle
returns-clause-idle g c = idle-then _ _ _ (idle-then _ _ _ (idle-then _ _ _ (idle-then _ _ _ (idle-then _ _ _ c.in_ok-places.ensures.idle c.in_ok-judged.ensures.idle) c.in_ok-numbers.ensures.idle) c.in_ok-instance.ensures.idle) c.in_ok-map_generation.ensures.idle) c.in_ok-box_generation.ensures.idle
