-- What a caller sees of a task, and of the store that it works on.
use Rattle.std.specs.Prelude.{ℕ, List}
use Rattle.list_machine.specs.Run.{Run}
use Rattle.mdbox_base.specs.declared.progress.Did.{Did}
use Rattle.mdbox_base.specs.declared.replies.Reply.{Reply}
use Rattle.mdbox_base.specs.declared.requests.Request.{Request}
use Rattle.task_steps.specs.Step.{HasNotBegun}
use Rattle.mail_ops.specs.declared.task.TaskStage.{TaskStage}
use Rattle.mail_ops.specs.declared.task.TaskStage.TheVariants as stage

-- Its request, which event is next, and what the last one did: nothing before the first.
pub record TaskValue : Type 0 where
  pub request : Request
  pub stage : TaskStage
  pub did : Did

-- where the task stands: what is true of the run, for the place of its request, and of the answers of its steps
abbrev pub IsAt : TaskStage → Run → ℕ → List Reply → Type 0
IsAt stage.First run place said = HasNotBegun run place said
