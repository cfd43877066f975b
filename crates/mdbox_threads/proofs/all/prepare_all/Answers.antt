use Rattle.std.proofs.Common.{◌∙◌}
use Rattle.mdbox_threads.proofs.JobLemmas.{given_back, places_stand}
use Rattle.mdbox_threads.proofs.all.prepare_all.Goals as goal

pub do_jobs-requires-clause-places : goal.do_jobs-requires-clause-places
do_jobs-requires-clause-places g c κs within = rw c.as_mut_slice.ensures.value (places_stand c.args.requests.now c.in_ok-jobs.jobs.items c.in_ok-jobs.ensures)

pub deal_out-requires-clause-done : goal.deal_out-requires-clause-done
deal_out-requires-clause-done g c = rw (given_back c.in_ok-jobs.jobs.len c.do_jobs.new.jobs _ (c.do_jobs.auto.jobs ∙ c.as_mut_slice.ensures.len)) c.do_jobs.ensures.done
