use Rattle.std.proofs.Common.{◌≡◌, ap, true, false}
use Rattle.request_text.specs.Outcomes.{status_of}
use Rattle.request_text.specs.declared.outcome.Outcome.TheVariants as outcome
use Rattle.mdbox_top.proofs.BoxesLemmas.{boxes_ended}
use Rattle.mdbox_top.proofs.ExerciseLemmas.{exercise_ended, exercise_rests_as}
use Rattle.mdbox_top.proofs.InitLemmas.{init_ended}
use Rattle.mdbox_top.proofs.RebuildLemmas.{rebuild_ended}
use Rattle.mdbox_top.proofs.RequestLemmas.{request_ended}
use Rattle.mdbox_top.proofs.run.perform.Goals as goal

pub returns-in-Flag-clause-rests : goal.returns-in-Flag-clause-rests
returns-in-Flag-clause-rests g c = rw c.in-Flag.is c.serve-in-Flag.ensures.rests

pub returns-in-Fetch-clause-rests : goal.returns-in-Fetch-clause-rests
returns-in-Fetch-clause-rests g c = rw c.in-Fetch.is c.serve-in-Fetch.ensures.rests

pub returns-in-Expunge-clause-rests : goal.returns-in-Expunge-clause-rests
returns-in-Expunge-clause-rests g c = rw c.in-Expunge.is c.serve-in-Expunge.ensures.rests

pub returns-in-Keywords-clause-rests : goal.returns-in-Keywords-clause-rests
returns-in-Keywords-clause-rests g c = rw c.in-Keywords.is c.serve-in-Keywords.ensures.rests

pub returns-in-Move-clause-rests : goal.returns-in-Move-clause-rests
returns-in-Move-clause-rests g c = rw c.in-Move.is c.serve-in-Move.ensures.rests

pub returns-in-Make-clause-rests : goal.returns-in-Make-clause-rests
returns-in-Make-clause-rests g c = rw c.in-Make.is c.serve-in-Make.ensures.rests

pub returns-in-Copy-clause-rests : goal.returns-in-Copy-clause-rests
returns-in-Copy-clause-rests g c = rw c.in-Copy.is c.serve-in-Copy.ensures.rests

pub returns-in-Deliver-clause-rests : goal.returns-in-Deliver-clause-rests
returns-in-Deliver-clause-rests g c = rw c.in-Deliver.is c.deliver.ensures.rests

pub returns-in-Batch-clause-rests : goal.returns-in-Batch-clause-rests
returns-in-Batch-clause-rests g c = rw c.in-Batch.is c.batch.ensures.rests

pub returns-in-Batch-clause-disk_fault : goal.returns-in-Batch-clause-disk_fault
returns-in-Batch-clause-disk_fault g c = rw c.in-Batch.is c.batch.ensures.disk_fault

pub returns-in-Batch-clause-disk_quiet : goal.returns-in-Batch-clause-disk_quiet
returns-in-Batch-clause-disk_quiet g c = rw c.in-Batch.is c.batch.ensures.disk_quiet

pub returns-in-Serve-clause-rests : goal.returns-in-Serve-clause-rests
returns-in-Serve-clause-rests g c = rw c.in-Serve.is c.serve_input.ensures.rests

pub returns-in-Serve-clause-disk_fault : goal.returns-in-Serve-clause-disk_fault
returns-in-Serve-clause-disk_fault g c = rw c.in-Serve.is c.serve_input.ensures.disk_fault

pub returns-in-Serve-clause-disk_quiet : goal.returns-in-Serve-clause-disk_quiet
returns-in-Serve-clause-disk_quiet g c = rw c.in-Serve.is c.serve_input.ensures.disk_quiet

pub returns-in-Serve-clause-uncalled : goal.returns-in-Serve-clause-uncalled
returns-in-Serve-clause-uncalled g c = λ before. absurd (let k : false ≡ true = (rw c.in-Serve.is at before) in cc k)

pub returns-in-Exercise-clause-rests : goal.returns-in-Exercise-clause-rests
returns-in-Exercise-clause-rests g c = rw c.in-Exercise.is
    (exercise_rests_as c.in-Exercise.lanes c.in-Exercise.count c.in-Exercise.number (c.exercise.result.0 ≡ outcome.DiskFault) (status_of c.exercise.result.0 ≡ 6) (g.D.Disk.faults c.args.disk) (g.D.Disk.faults c.exercise.result.1) (g.D.Disk.history c.args.disk) (g.D.Disk.history c.exercise.result.1) (λ e. ap status_of e) c.exercise.ensures.rests)

pub returns-in-Exercise-clause-disk_quiet : goal.returns-in-Exercise-clause-disk_quiet
returns-in-Exercise-clause-disk_quiet g c = rw c.in-Exercise.is (λ tells none. c.exercise.ensures.disk_quiet (λ e. none (ap status_of e)))

pub returns-in-Resync-clause-rests : goal.returns-in-Resync-clause-rests
returns-in-Resync-clause-rests g c = rw c.in-Resync.is c.serve-in-Resync.ensures.rests

pub returns-in-Purge-clause-rests : goal.returns-in-Purge-clause-rests
returns-in-Purge-clause-rests g c = rw c.in-Purge.is c.serve-in-Purge.ensures.rests

pub returns-in-List-clause-uncalled : goal.returns-in-List-clause-uncalled
returns-in-List-clause-uncalled g c = λ before e. absurd (request_ended _ _ _ _ _ _ _ _ c.serve.result.0 c.serve.ensures.ends e)

pub returns-in-Fetch-clause-uncalled : goal.returns-in-Fetch-clause-uncalled
returns-in-Fetch-clause-uncalled g c = λ before e. absurd (request_ended _ _ _ _ _ _ _ _ c.serve-in-Fetch.result.0 c.serve-in-Fetch.ensures.ends e)

pub returns-in-Flag-clause-uncalled : goal.returns-in-Flag-clause-uncalled
returns-in-Flag-clause-uncalled g c = λ before e. absurd (request_ended _ _ _ _ _ _ _ _ c.serve-in-Flag.result.0 c.serve-in-Flag.ensures.ends e)

pub returns-in-Counts-clause-uncalled : goal.returns-in-Counts-clause-uncalled
returns-in-Counts-clause-uncalled g c = λ before e. absurd (request_ended _ _ _ _ _ _ _ _ c.serve-in-Counts.result.0 c.serve-in-Counts.ensures.ends e)

pub returns-in-Resync-clause-uncalled : goal.returns-in-Resync-clause-uncalled
returns-in-Resync-clause-uncalled g c = λ before e. absurd (request_ended _ _ _ _ _ _ _ _ c.serve-in-Resync.result.0 c.serve-in-Resync.ensures.ends e)

pub returns-in-Purge-clause-uncalled : goal.returns-in-Purge-clause-uncalled
returns-in-Purge-clause-uncalled g c = λ before e. absurd (request_ended _ _ _ _ _ _ _ _ c.serve-in-Purge.result.0 c.serve-in-Purge.ensures.ends e)

pub returns-in-Expunge-clause-uncalled : goal.returns-in-Expunge-clause-uncalled
returns-in-Expunge-clause-uncalled g c = λ before e. absurd (request_ended _ _ _ _ _ _ _ _ c.serve-in-Expunge.result.0 c.serve-in-Expunge.ensures.ends e)

pub returns-in-Keywords-clause-uncalled : goal.returns-in-Keywords-clause-uncalled
returns-in-Keywords-clause-uncalled g c = λ before e. absurd (request_ended _ _ _ _ _ _ _ _ c.serve-in-Keywords.result.0 c.serve-in-Keywords.ensures.ends e)

pub returns-in-Copy-clause-uncalled : goal.returns-in-Copy-clause-uncalled
returns-in-Copy-clause-uncalled g c = λ before e. absurd (request_ended _ _ _ _ _ _ _ _ c.serve-in-Copy.result.0 c.serve-in-Copy.ensures.ends e)

pub returns-in-Move-clause-uncalled : goal.returns-in-Move-clause-uncalled
returns-in-Move-clause-uncalled g c = λ before e. absurd (request_ended _ _ _ _ _ _ _ _ c.serve-in-Move.result.0 c.serve-in-Move.ensures.ends e)

pub returns-in-Make-clause-uncalled : goal.returns-in-Make-clause-uncalled
returns-in-Make-clause-uncalled g c = λ before e. absurd (request_ended _ _ _ _ _ _ _ _ c.serve-in-Make.result.0 c.serve-in-Make.ensures.ends e)

pub returns-in-Init-clause-uncalled : goal.returns-in-Init-clause-uncalled
returns-in-Init-clause-uncalled g c = λ before e. absurd (init_ended _ _ _ _ _ c.init.result.0 c.init.ensures.ends e)

pub returns-in-Rebuild-clause-uncalled : goal.returns-in-Rebuild-clause-uncalled
returns-in-Rebuild-clause-uncalled g c = λ before e. absurd (rebuild_ended _ _ _ _ _ c.rebuild.result.0 c.rebuild.ensures.ends e)

pub returns-in-Exercise-clause-uncalled : goal.returns-in-Exercise-clause-uncalled
returns-in-Exercise-clause-uncalled g c = λ before e. absurd (exercise_ended c.in-Exercise.lanes c.in-Exercise.count c.in-Exercise.number _ _ _ _ _ _ c.exercise.result.0 c.exercise.ensures.ends e)

pub returns-in-Boxes-clause-rests : goal.returns-in-Boxes-clause-rests
returns-in-Boxes-clause-rests g c = rw c.in-Boxes.is (λ none. c.boxes.ensures.rests (λ e. none (ap status_of e)))

pub returns-in-Boxes-clause-disk_quiet : goal.returns-in-Boxes-clause-disk_quiet
returns-in-Boxes-clause-disk_quiet g c = rw c.in-Boxes.is (λ tells none. c.boxes.ensures.disk_quiet (λ e. none (ap status_of e)))

pub returns-in-Boxes-clause-uncalled : goal.returns-in-Boxes-clause-uncalled
returns-in-Boxes-clause-uncalled g c = λ before e. absurd (boxes_ended _ _ _ _ _ _ c.boxes.result.0 c.boxes.ensures.ends e)

pub returns-in-List-clause-rests : goal.returns-in-List-clause-rests
returns-in-List-clause-rests g c = rw c.in-List.is c.serve.ensures.rests

pub returns-in-Counts-clause-rests : goal.returns-in-Counts-clause-rests
returns-in-Counts-clause-rests g c = rw c.in-Counts.is c.serve-in-Counts.ensures.rests

pub returns-in-Delete-clause-rests : goal.returns-in-Delete-clause-rests
returns-in-Delete-clause-rests g c = rw c.in-Delete.is c.serve-in-Delete.ensures.rests

pub returns-in-Delete-clause-uncalled : goal.returns-in-Delete-clause-uncalled
returns-in-Delete-clause-uncalled g c = λ before e. absurd (request_ended _ _ _ _ _ _ _ _ c.serve-in-Delete.result.0 c.serve-in-Delete.ensures.ends e)

pub returns-in-Rename-clause-rests : goal.returns-in-Rename-clause-rests
returns-in-Rename-clause-rests g c = rw c.in-Rename.is c.serve-in-Rename.ensures.rests

pub returns-in-Rename-clause-uncalled : goal.returns-in-Rename-clause-uncalled
returns-in-Rename-clause-uncalled g c = λ before e. absurd (request_ended _ _ _ _ _ _ _ _ c.serve-in-Rename.result.0 c.serve-in-Rename.ensures.ends e)
