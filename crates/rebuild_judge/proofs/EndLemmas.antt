-- The judging of all that was found, from its beginning to its end.
use Rattle.std.proofs.Common.{refl, ◌≡◌, ◌≤◌, ◌+◌, ℕ, zero, suc, List, [], ◌∷◌, ◌++◌, map, length, take, sym, ◌∙◌, ap, subst, arith, Option, Some, None}
use Rattle.std.proofs.lemmas.List.{length-map, take_all}
use Rattle.std.proofs.lemmas.List.Elements.{All-head, All-tail}
use Rattle.std.proofs.lemmas.Option.{slice_get-map}
use Rattle.std.specs.Option.{option_map}
use Rattle.std.specs.Prelude.{All, flat_map, slice_get}
use Rattle.disk_model.proofs.MomentLemmas.{if_told-all, if_told-both}
use Rattle.disk_model.specs.Disk.{DiskState, Files, History, IfTold}
use Rattle.model_found.specs.Findings.{FileFinding}
use Rattle.model_rebuild.specs.RebuildPlan.{IsGreatest}
use Rattle.model_store.specs.Settled.{files_of}
use Rattle.model_taken.specs.Judging.{taken_by}
use Rattle.model_taken.specs.Rebuild.{skipped_by}
use Rattle.rebuild_files.specs.declared.found.FoundAt.{FoundAt}
use Rattle.rebuild_files.specs.Places.{AreAllFindings, place_in_file}
use Rattle.rebuild_judge.proofs.JudgedLemmas.{JudgedTo, judged_begins, judged_more}
use Rattle.rebuild_judge.proofs.PlaceLemmas.{StandsAmong, all_stand, stands_on}
use Rattle.rebuild_judge.specs.declared.taken.Judged.{Judged}
use Rattle.rebuild_judge.specs.declared.taken.Keeping.{Keeping}
use Rattle.rebuild_judge.specs.declared.taken.SkippedAt.{SkippedAt}
use Rattle.rebuild_judge.specs.Judges.{IsJudgedOf, IsNamedFile, JudgesNext}
use Rattle.rebuild_judge.specs.Kept.{AreKept}

-- what was found is judged up to this place of the list
abbrev pub JudgedUpTo : List ℕ → List FoundAt → ℕ → Keeping → List SkippedAt → ℕ → DiskState → Type 0
JudgedUpTo store places k keeping skipped file disk = (found : List FileFinding) → places ≡ map place_in_file found → All (StandsAmong (files_of disk)) found → JudgedTo store (files_of disk) (take k found) keeping skipped file

pub judging_begins : (h : Option History) (store : List ℕ) (places : List FoundAt) (keeping : Keeping) (skipped : List SkippedAt) → ((files : Files) → AreKept files [] keeping) → skipped ≡ [] → IfTold h (JudgedUpTo store places 0 keeping skipped 0)
judging_begins h store places keeping skipped kept none = if_told-all _ h (λ disk found is stand. judged_begins store (files_of disk) keeping skipped (kept (files_of disk)) none)

one_found : (found : List FileFinding) (places : List FoundAt) (k : ℕ) (at : FoundAt) → places ≡ map place_in_file found → slice_get places k ≡ Some at → (f : FileFinding) × (slice_get found k ≡ Some f) × (at ≡ place_in_file f)
one_found found places k at is here = of_some (slice_get found k) refl (sym (slice_get-map place_in_file found k) ∙ (ap (λ (xs : List FoundAt). slice_get xs k) (sym is) ∙ here))
  where
    of_some : (o : Option FileFinding) → slice_get found k ≡ o → option_map place_in_file o ≡ Some at → (f : FileFinding) × (slice_get found k ≡ Some f) × (at ≡ place_in_file f)
    of_some None e w = absurd (cc w)
    of_some (Some f) e w = (f, e, cc w)

take_next : {X : Type 0} → (xs : List X) (k : ℕ) (x : X) → slice_get xs k ≡ Some x → take (k + 1) xs ≡ take k xs ++ x ∷ []
take_next [] k x e = absurd (cc e)
take_next {X} (y ∷ xs) zero x e = let s : y ≡ x = cc e in ap (λ (z : X). z ∷ []) s
take_next {X} (y ∷ xs) (suc k) x e = let s : suc k + 1 ≡ suc (k + 1) = omega arith in rw s (ap (λ (zs : List X). y ∷ zs) (take_next xs k x e))

all_at : {X : Type 0} → (P : X → Type 0) (xs : List X) (k : ℕ) (x : X) → slice_get xs k ≡ Some x → All P xs → P x
all_at P [] k x e all = absurd (cc e)
all_at P (y ∷ xs) zero x e all = let s : y ≡ x = cc e in subst P s (All-head P y xs all)
all_at P (y ∷ xs) (suc k) x e all = all_at P xs k x e (All-tail P y xs all)

pub judging_goes_on : (h : Option History) (store : List ℕ) (places : List FoundAt) (k : ℕ) (at : FoundAt) (old new : Keeping) (before after : List SkippedAt) (file most : ℕ) → slice_get places k ≡ Some at → IfTold h (JudgedUpTo store places k old before file)
    → IfTold h (JudgesNext store at old new before after file most) → IfTold h (JudgedUpTo store places (k + 1) new after most)
judging_goes_on h store places k at old new before after file most here was next =
    if_told-both _ _ _ h (λ disk p q found is stand.
    let f = one_found found places k at is here in
    let done = p found is stand in
    let more = q f.0 f.2 (stands_on disk f.0 (all_at (StandsAmong (files_of disk)) found k f.0 f.1 stand)) (flat_map taken_by done.judgements) done.kept in
    subst (λ (xs : List FileFinding). JudgedTo store (files_of disk) xs new after most) (sym (take_next found k f.0 f.1)) (judged_more store disk (take k found) f.0 old new before after file most done more)) was next

pub judging_ends : (h : Option History) (store : List ℕ) (places : List FoundAt) (k : ℕ) (keeping : Keeping) (skipped : List SkippedAt) (file : ℕ) (judged : Judged) → length places ≤ k → judged.taken ≡ keeping.taken → judged.skipped ≡ skipped → judged.file ≡ file
    → IfTold h (AreAllFindings places) → IfTold h (JudgedUpTo store places k keeping skipped file) → IfTold h (IsJudgedOf store judged)
judging_ends h store places k keeping skipped file judged last taken skips greatest found was =
    if_told-both _ _ _ h (λ disk a p.
    let all = p a.1 a.4 (all_stand (files_of disk) a.0 a.1 a.2 a.3) in
    let long : take k a.1 ≡ a.1 = take_all k a.1 (let n = ap length a.4 in let l = length-map a.1 place_in_file in omega (arith, last, n, l)) in
    let done = subst (λ (xs : List FileFinding). JudgedTo store (files_of disk) xs keeping skipped file) long all in
    record {
      taken = flat_map taken_by done.judgements;
      skipped = flat_map skipped_by done.judgements;
      rebuild = record { storage = a.0; are_storage = a.2; found = a.1; are_found = a.3; judgements = done.judgements; are_judged = done.are_judged; taken_are = refl; skipped_are = refl };
      taken_are = taken ∙ done.kept.rows;
      skipped_are = skips ∙ done.skipped_are;
      file = subst (IsGreatest (IsNamedFile store a.1)) (sym greatest) done.greatest;
    }) found was
