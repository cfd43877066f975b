-- How the last event of a resync is told that is refused.
use Rattle.resync_task.proofs.Common.{◌≡◌, ℕ, List, length, Option, refl, sym, subst, arith, History, Faults, StoreValue, ResyncAt, ToList, ToRead}
use Rattle.std.proofs.Common.{Err}
use Rattle.mdbox_base.specs.declared.progress.Did.{Did}
use Rattle.mdbox_base.specs.declared.progress.Did.TheVariants as did
use Rattle.mdbox_base.specs.declared.progress.Progress.{Progress}
use Rattle.mdbox_base.specs.declared.progress.Progress.TheVariants as progress
use Rattle.mdbox_base.specs.declared.replies.Refusal.TheVariants as refusal
use Rattle.mdbox_base.specs.declared.replies.Reply.TheVariants as reply
use Rattle.store_core.specs.declared.error.StepError.{StepError}
use Rattle.store_core.specs.declared.error.StepError.TheVariants as step_error
use Rattle.resync_task.specs.Correcting.{Corrects}
use Rattle.resync_task.specs.Task.{ResyncsOn, stage_of}
use Rattle.resync_task.specs.declared.task.ResyncStage.{ResyncStage}
use Rattle.resync_task.specs.declared.task.ResyncStage.TheVariants as stage
use Rattle.resync_task.proofs.ReadLemmas.{unmoved}

-- an event that is refused is told so
pub told_as : {D : Type 0} → (now : ResyncAt) (next : ResyncStage) (answer answered : Progress) (how told : Did) (old new : StoreValue D) (before after : Option History) (began then : Faults) → next ≡ stage.First → answer ≡ answered → how ≡ told
    → ResyncsOn now ToList answered told old new before after began then → ResyncsOn now (stage_of next) answer how old new before after began then
told_as now next answer answered how told old new before after began then first is tells on =
    subst (λ (s : ResyncStage). ResyncsOn now (stage_of s) answer how old new before after began then) (sym first)
    (subst (λ (a : Progress). ResyncsOn now ToList a how old new before after began then) (sym is) (subst (λ (h : Did). ResyncsOn now ToList answered h old new before after began then) (sym tells) on))

pub ends_unremembered : {D : Type 0} → (history : D → Option History) (faults : D → Faults) (files : List ℕ) (damaged : ℕ) (error : StepError) (next : ResyncStage) (answer : Progress) (how : Did) (old new : StoreValue D) → error ≡ step_error.NoMemory → next ≡ stage.First → answer ≡ progress.Done (reply.Refused refusal.NoMemory) → how ≡ did.Quiet
    → Corrects (Err error) old new (history old.disk) (history new.disk) (faults old.disk) (faults new.disk) → ResyncsOn (ToRead files (length files) damaged) (stage_of next) answer how old new (history old.disk) (history new.disk) (faults old.disk) (faults new.disk)
ends_unremembered history faults files damaged error next answer how old new e first is quiet corrects =
    let same : new ≡ old = subst (λ (x : StepError). Corrects (Err x) old new (history old.disk) (history new.disk) (faults old.disk) (faults new.disk)) e corrects in
    let k = unmoved history faults old new same in
    told_as (ToRead files (length files) damaged) next answer (progress.Done (reply.Refused refusal.NoMemory)) how did.Quiet old new (history old.disk) (history new.disk) (faults old.disk) (faults new.disk) first is quiet (refl, omega arith, k.0, k.1)
