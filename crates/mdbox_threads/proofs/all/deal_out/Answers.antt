use Rattle.std.specs.Vec.Iter.{into_iter_items}
use Rattle.mdbox_threads.proofs.GivenLemmas.{given_next}
use Rattle.mdbox_threads.proofs.JobLemmas.{next_done, next_rest}
use Rattle.mdbox_threads.proofs.all.deal_out.Goals as goal

pub loop-request-init : goal.loop-request-init
loop-request-init c = (rw c.empty-given.ensures tt, rw c.into_iter-jobs.ensures.rest c.requires.places, rw c.into_iter-jobs.ensures.rest c.requires.done)

pub next_given-requires-clause-next : goal.next_given-requires-clause-next
next_given-requires-clause-next c = next_done c.args.requests.now c.loop-request.request-index c.request-item.result (into_iter_items c.loop-request.jobs) c.loop-request-test.true c.request-item.is c.loop-request.invariant.1 c.loop-request.invariant.2

pub loop-request-preserved : goal.loop-request-preserved
loop-request-preserved c =
    let left = next_rest c.args.requests.now c.loop-request.request-index c.request-item.result (into_iter_items c.loop-request.jobs) (into_iter_items c.next_given.new.jobs) c.loop-request-test.true c.request-item.is c.loop-request.invariant.1 c.loop-request.invariant.2 c.next_given.ensures.rest in
    (given_next c.args.requests.now c.loop-request.given c.push.new.self c.loop-request.request-index c.request-item.result c.in_ok-next_given.field-0 c.loop-request-test.true c.request-item.is c.loop-request.invariant.0 c.in_ok-next_given.ensures.given c.in_ok-push.ensures.ok, left.0, left.1)
