use Rattle.purge_task.proofs.Common.{sym, ◌∙◌, ap, Result, Did, Refusal, came_to, PurgeStage}
use Rattle.purge_task.specs.declared.task.PurgeStage.TheVariants as stage
use Rattle.purge_task.proofs.StepLemmas.{came_err, came_ok}
use Rattle.purge_task.proofs.task.PurgeTask.come_to.Goals as goal

pub returns-in-Ok-clause-task : goal.returns-in-Ok-clause-task
returns-in-Ok-clause-task c = came_ok c.in-Ok.stage _ c.args.self.now c.self.view_is c.requires.quiet ∙ sym (ap (λ (r : Result PurgeStage Refusal). came_to r c.args.self.now) c.in-Ok.is)

pub returns-in-Err-clause-task : goal.returns-in-Err-clause-task
returns-in-Err-clause-task c = came_err c.did_refused-self-inside.result _ c.args.self.now c.self.view_is c.requires.first ∙ (ap (λ (d : Did). record c.args.self.now { stage = stage.First; did = d }) c.did_refused-self-inside.ensures ∙ sym (ap (λ (r : Result PurgeStage Refusal). came_to r c.args.self.now) c.in-Err.is))
