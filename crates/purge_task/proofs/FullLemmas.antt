-- The clause of a first event of a purge that is refused for lack of numbers.
use Rattle.purge_task.proofs.Common.{◌≡◌, ◌<◌, ◌+◌, ℕ, false, List, length, map, Option, Some, refl, sym, ap, subst, ◌⊎◌, AllPairs, Contains, Faults, History, told_calls, Highest, Did, MapMeaning, IsSoundMap, RunEvent, TakenFile, drawn_of, map_of, target_length, with_targets, first_refusal}
use Rattle.purge_task.proofs.Common.{purge_checks, Around, FilesValue, AreFilesKept, StoreValue, DidEvent, HasNotBegun, never_more, PurgeSteps, around_purging, seen_by_purge, AreAllBut, IsFullToEnd, PurgeValue, IsAtPurgeStage, PurgeStage}
use Rattle.mdbox_base.specs.declared.progress.Did.TheVariants as did
use Rattle.mdbox_base.specs.declared.replies.Reply.TheVariants as reply
use Rattle.mdbox_base.specs.declared.requests.Request.TheVariants as request
use Rattle.mdbox_base.specs.declared.script.Half.TheVariants as half
use Rattle.purge_task.specs.declared.task.PurgeStage.TheVariants as stage
use Rattle.purge_task.proofs.FindsLemmas.{finds_files}
use Rattle.purge_task.proofs.FirstRefusedLemmas.{did_lack, full, lacking_event, lacks_numbers}
use Rattle.purge_task.proofs.RemovalLemmas.{LeavesSettled}
use Rattle.purge_task.proofs.SameSeenLemmas.{TellsNoLess, same_comes, with_state}

-- The files are told that would have been taken.
pub full_steps : {D : Type 0} → (after : Around) (t next : PurgeValue) (taken : List TakenFile) (disk : D) (files : FilesValue) (old : StoreValue D) (before later : Option History) (began faults : Faults) → t.stage ≡ stage.First → next.did ≡ did.Step half.Whole → old.stopped ≡ false → TellsNoLess old.files.files files.files
    → AreFilesKept old.files old.drawn old.map → IsSoundMap old.map → AllPairs (λ a b. a < b) (map (λ t. t.file) taken) → AreAllBut (IsFullToEnd old) old.files.files (map (λ t. t.file) taken)
    → (4294967294 < old.drawn.file + length (with_targets old.map taken)) ⊎ ((f : TakenFile) × Contains (with_targets old.map taken) f × (4294967294 < target_length old.map f.file)) → LeavesSettled old.map before later began faults
    → PurgeSteps (map (λ t. t.file) taken) after t next old (with_state disk files false old) before later began faults (Some (reply.Refused full))
full_steps after t next taken disk files old before later began faults at how ran tells kept sound rising found lacks leaves = λ run lane place said lists come shows stood.
    let around : Around = around_purging (map (λ (t : TakenFile). t.file) taken) old in
    let new : StoreValue _ = with_state disk files false old in
    let begins : HasNotBegun run place said = subst (λ (x : PurgeStage). IsAtPurgeStage x t old run place said) at stood.0 in
    let event : RunEvent = lacking_event lane place taken (told_calls later) in
    let drawn_is : (drawn_of run).file ≡ old.drawn.file = ap (λ (d : Highest). d.file) come.come.drawn_is in
    let refuses : first_refusal run lists (purge_checks (map_of run) taken) ≡ Some full = subst (λ (m : MapMeaning). first_refusal run lists (purge_checks m taken) ≡ Some full) (sym come.come.map_is) (lacks_numbers run lists old.map taken
    (subst (λ (n : ℕ). (4294967294 < n + length (with_targets old.map taken)) ⊎ ((f : TakenFile) × Contains (with_targets old.map taken) f × (4294967294 < target_length old.map f.file))) (sym drawn_is) lacks)) in (
      subst (λ (d : Did). DidEvent around after run lane place said request.Purge lists (seen_by_purge old before began) (seen_by_purge new later faults) d (Some (reply.Refused full))) (sym how)
          (did_lack around after run lane place said lists (seen_by_purge old before began) (seen_by_purge new later faults) taken
          (same_comes run event disk files false old before later began faults come ran tells (record { made = refl; pins = refl; unpins = refl; doomed = refl; removed = refl; given = refl; placed = refl; gone = refl }) refl refl refl (λ uid. refl) leaves.grows)
          shows ran refl begins.0 begins.1 refl refuses (λ looked. finds_files run old before began (map (λ (t : TakenFile). t.file) taken) come ran (stood.1 ran) kept sound rising found)
          (record { stops = λ s. leaves.moments lists s.0; settled = λ s. leaves.rests lists s.0 }) leaves.grows leaves.mail leaves.quiet),
      λ e. absurd (never_more _ e),
    )
