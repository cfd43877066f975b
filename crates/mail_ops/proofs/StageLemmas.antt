-- A step, by the stage of its task.
use Rattle.mail_ops.proofs.Common.{◌≡◌, Some, subst, Around, Did, Reply, Request, Seen, HasNotBegun, IsKept, Steps, not_begun_stays, never_more}
use Rattle.mail_ops.specs.Task.{IsAt}
use Rattle.mail_ops.specs.declared.task.TaskStage.{TaskStage}
use Rattle.mail_ops.specs.declared.task.TaskStage.TheVariants as stage

pub stages_kept : (stage : TaskStage) → IsKept (IsAt stage)
stages_kept stage.First = not_begun_stays

-- an only event, which ends its request
pub only_event : (old new : TaskStage) (around after : Around) (q asked : Request) (before behind : Seen) (did : Did) (given : Reply) → asked ≡ q → Steps HasNotBegun HasNotBegun around after asked before behind did (Some given)
    → Steps (IsAt old) (IsAt new) around after q before behind did (Some given)
only_event stage.First new around after q asked before behind did given same h = λ run lane place said lists come shows stood.
    let r = subst (λ (k : Request). Steps HasNotBegun HasNotBegun around after k before behind did (Some given)) same h run lane place said lists come shows stood in (r.0, λ e. absurd (never_more given e))
