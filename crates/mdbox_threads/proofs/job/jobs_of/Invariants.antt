use Rattle.std.proofs.Common.{◌≡◌, map, take}
use Rattle.mdbox_threads.specs.Jobs.{places_from}
use Rattle.mdbox_threads.specs.declared.job.Job.{Job}
use Rattle.mdbox_threads.proofs.job.jobs_of.Given as goal

-- the deliveries so far have jobs
abbrev pub invariant-loop-place : goal.invariant-loop-place
invariant-loop-place l = map (λ (job : Job). job.place) l.jobs.items ≡ places_from 0 (take l.place l.requests)
