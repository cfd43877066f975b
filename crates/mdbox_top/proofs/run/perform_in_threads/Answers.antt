use Rattle.std.proofs.Common.{◌≡◌, ap}
use Rattle.request_text.specs.Outcomes.{status_of}
use Rattle.request_text.specs.declared.outcome.Outcome.TheVariants as outcome
use Rattle.mdbox_top.proofs.ExerciseLemmas.{exercise_ended, exercise_rests_as}
use Rattle.mdbox_top.proofs.run.perform_in_threads.Goals as goal

pub returns-in-Batch-clause-rests : goal.returns-in-Batch-clause-rests
returns-in-Batch-clause-rests g c = rw c.in-Batch.is c.batch_in_threads.ensures.rests

pub returns-in-Batch-clause-disk_fault : goal.returns-in-Batch-clause-disk_fault
returns-in-Batch-clause-disk_fault g c = rw c.in-Batch.is c.batch_in_threads.ensures.disk_fault

pub returns-in-Batch-clause-disk_quiet : goal.returns-in-Batch-clause-disk_quiet
returns-in-Batch-clause-disk_quiet g c = rw c.in-Batch.is c.batch_in_threads.ensures.disk_quiet

pub returns-in-Exercise-clause-rests : goal.returns-in-Exercise-clause-rests
returns-in-Exercise-clause-rests g c = rw c.in-Exercise.is
    (exercise_rests_as c.in-Exercise.lanes c.in-Exercise.count c.in-Exercise.number (c.exercise_in_threads.result.0 ≡ outcome.DiskFault) (status_of c.exercise_in_threads.result.0 ≡ 6) (g.D.Disk.faults c.args.disk) (g.D.Disk.faults c.exercise_in_threads.result.1) (g.D.Disk.history c.args.disk) (g.D.Disk.history c.exercise_in_threads.result.1) (λ e. ap status_of e) c.exercise_in_threads.ensures.rests)

pub returns-in-Exercise-clause-disk_quiet : goal.returns-in-Exercise-clause-disk_quiet
returns-in-Exercise-clause-disk_quiet g c = rw c.in-Exercise.is (λ tells none. c.exercise_in_threads.ensures.disk_quiet (λ e. none (ap status_of e)))

pub returns-in-Exercise-clause-uncalled : goal.returns-in-Exercise-clause-uncalled
returns-in-Exercise-clause-uncalled g c = λ before e. absurd (exercise_ended c.in-Exercise.lanes c.in-Exercise.count c.in-Exercise.number _ _ _ _ _ _ c.exercise_in_threads.result.0 c.exercise_in_threads.ensures.ends e)
