use Rattle.std.proofs.Common.{◌≡◌, ◌∙◌, ap, arith, length, subst, sym}
use Rattle.mdbox_threads.specs.Jobs.{IsDeliveryAt, IsDoneOf}
use Rattle.mdbox_threads.specs.declared.job.Job.{Job}
use Rattle.mdbox_threads.proofs.JobLemmas.{same_places}
use Rattle.mdbox_threads.proofs.all.do_jobs.Goals as goal

pub for_each_mut-requires-clause-accepts : goal.for_each_mut-requires-clause-accepts
for_each_mut-requires-clause-accepts g c κs within = λ i p lt e. (c.requires.fits, subst (λ (job : Job). IsDeliveryAt c.args.requests.now job.place) (sym e) (c.requires.places i p.now lt))

pub returns-clause-same : goal.returns-clause-same
returns-clause-same g c =
    same_places c.args.jobs.now c.for_each_mut.new.s c.for_each_mut.auto.s (λ i d lt. let at = (c.for_each_mut.ensures i d lt).1 in ap (λ (job : Job). job.place) (sym at.left) ∙ at.call.0 ∙ ap (λ (job : Job). job.place) at.argument_is)

pub returns-clause-done : goal.returns-clause-done
returns-clause-done g c = λ k d lt.
    let long : length c.for_each_mut.new.s ≡ length c.args.jobs.now = c.for_each_mut.auto.s in
    let at = (c.for_each_mut.ensures k d (omega (arith, lt, long))).1 in
    subst (IsDoneOf c.args.requests.now) at.left at.call.1
