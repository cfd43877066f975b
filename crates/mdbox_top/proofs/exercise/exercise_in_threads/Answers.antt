use Rattle.std.proofs.Common.{◌≡◌, ◌∙◌, ap, subst, inr}
use Rattle.mdbox_base.specs.declared.script.Script.{Script}
use Rattle.request_text.specs.declared.outcome.Outcome.TheVariants as outcome
use Rattle.script_run.specs.Script.{has_fetch}
use Rattle.mdbox_top.specs.BatchRun.{ScriptMoments, ScriptRests}
use Rattle.mdbox_top.proofs.ExerciseLemmas.{made_unread}
use Rattle.mdbox_top.proofs.exercise.exercise_in_threads.Goals as goal

pub end_exercise-requires-clause-unread : goal.end_exercise-requires-clause-unread
end_exercise-requires-clause-unread g c = rw c.of-task.ensures (ap (λ (s : Script). has_fetch s.requests) c.in-Ok.ensures.script ∙ made_unread c.args.lanes c.args.count c.args.number)

pub returns-in-Ok-clause-rests : goal.returns-in-Ok-clause-rests
returns-in-Ok-clause-rests g c = inr (subst (λ (s : Script). ScriptRests s.requests (c.end_exercise.result.0 ≡ outcome.DiskFault) (g.D.Disk.faults c.args.disk) (g.D.Disk.faults c.end_exercise.result.1) (g.D.Disk.history c.args.disk) (g.D.Disk.history c.end_exercise.result.1)) c.in-Ok.ensures.script (rw (c.of-task.ensures, c.of-entry.ensures) at c.end_exercise.ensures.rests))

pub end_exercise-requires-clause-served : goal.end_exercise-requires-clause-served
end_exercise-requires-clause-served g c = rw (c.of-task.ensures, c.of-entry.ensures) c.serve_script_in_threads-served.ensures.served

pub returns-in-Ok-clause-moments : goal.returns-in-Ok-clause-moments
returns-in-Ok-clause-moments g c = inr (subst (λ (s : Script). ScriptMoments s.requests (g.D.Disk.history c.args.disk) (g.D.Disk.history c.end_exercise.result.1)) c.in-Ok.ensures.script (rw (c.of-task.ensures, c.of-entry.ensures) at c.end_exercise.ensures.moments))
