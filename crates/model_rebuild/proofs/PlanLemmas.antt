-- Files have one plan.
use Rattle.std.specs.Prelude.{◌≡◌, ℕ, List}
use Rattle.std.proofs.Common.{subst}
use Rattle.disk_model.specs.Disk.{Files}
use Rattle.mdbox_base.specs.declared.entries.Highest.{Highest}
use Rattle.model_found.proofs.FindingLemmas.{all_found_same, storage_same}
use Rattle.model_found.specs.Findings.{NumberedFile, FileFinding, HaveFindings}
use Rattle.model_rebuild.proofs.NumberingLemmas.{generation_same, highest_same}
use Rattle.model_rebuild.specs.RebuildPlan.{RebuildPlan, IsPlanFor, AreHighestFound, IsMapUsed, IsBoxUsed}
use Rattle.model_taken.proofs.JudgingLemmas.{rebuild_same}
use Rattle.model_taken.specs.Rebuild.{Rebuild, SkippedPlace}
use Rattle.model_taken.specs.Taken.{TakenMessage}

plan_of : List TakenMessage → List SkippedPlace → Highest → ℕ → ℕ → RebuildPlan
plan_of taken skipped highest map_generation box_generation =
    record { taken = taken; skipped = skipped; highest = highest; map_generation = map_generation; box_generation = box_generation }

found_same_by : (files : Files) (p q : RebuildPlan) → (a : Rebuild files p.taken p.skipped) (b : Rebuild files q.taken q.skipped) → a.found ≡ b.found
found_same_by files p q a b =
    let storage = storage_same files a.storage b.storage a.are_storage b.are_storage in
    all_found_same b.storage a.found b.found (subst (λ (x : List NumberedFile). HaveFindings x a.found) storage a.are_found) b.are_found

pub plan_same : (files : Files) (store : List ℕ) (p q : RebuildPlan) → IsPlanFor files store p → IsPlanFor files store q → p ≡ q
unfolding plan_of
plan_same files store p q a b =
    let both = rebuild_same files p.taken q.taken p.skipped q.skipped a.rebuild b.rebuild in
    let taken = both.0 in
    let skipped = both.1 in
    let found = found_same_by files p q a.rebuild b.rebuild in
    let highest = highest_same files store b.rebuild.found p.highest q.highest (subst (λ (x : List FileFinding). AreHighestFound files store x p.highest) found a.numbers) b.numbers in
    let m = generation_same (IsMapUsed files) p.map_generation q.map_generation a.map_free b.map_free in
    let n = generation_same (IsBoxUsed files) p.box_generation q.box_generation a.box_free b.box_free in
    let e : plan_of p.taken p.skipped p.highest p.map_generation p.box_generation ≡ plan_of q.taken q.skipped q.highest q.map_generation q.box_generation = cc in e
