use Rattle.std.proofs.Common.{ap, refl}
use Rattle.mdbox_threads.specs.Jobs.{delivers}
use Rattle.mdbox_threads.specs.declared.job.Made.TheVariants as made
use Rattle.mdbox_threads.proofs.JobLemmas.{job_more, no_message, no_job_more}
use Rattle.mdbox_threads.proofs.job.jobs_of.Goals as goal
use Rattle.mdbox_threads.proofs.job.jobs_of.Goals.{in-Deliver+in_ok-push, in_default}

pub loop-place-preserved : goal.loop-place-preserved
loop-place-preserved c = elim c.match-request.branch [
  | in-Deliver+in_ok-push w ↦ rw w.jobs-is (job_more c.args.requests.now c.loop-place.place c.index-requests-place.result c.loop-place.jobs.items w.push.new.self.items (record { place = c.loop-place.place; made = made.Waiting }) c.loop-place-test.true c.index-requests-place.is (ap delivers w.in-Deliver.is) c.loop-place.invariant refl w.in_ok-push.ensures.items)
  | in_default w ↦ rw w.jobs-is (no_job_more c.args.requests.now c.loop-place.place c.index-requests-place.result c.loop-place.jobs.items c.loop-place-test.true c.index-requests-place.is (no_message c.index-requests-place.result.1 w.in_default.not-Deliver) c.loop-place.invariant)
]
