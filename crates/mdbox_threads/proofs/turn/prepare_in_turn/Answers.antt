use Rattle.mdbox_threads.proofs.GivenLemmas.{given_next}
use Rattle.mdbox_threads.proofs.turn.prepare_in_turn.Goals as goal

pub loop-request-preserved : goal.loop-request-preserved
loop-request-preserved c = given_next c.args.requests.now c.loop-request.prepared c.push.new.self c.loop-request.request-index c.request-item.result c.in_ok-prepare_message.field-0 c.loop-request-test.true c.request-item.is c.loop-request.invariant c.in_ok-prepare_message.ensures c.in_ok-push.ensures.ok
