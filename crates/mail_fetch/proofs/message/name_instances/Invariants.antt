use Rattle.mail_fetch.proofs.Common.{length, NameInstances}
use Rattle.mail_fetch.proofs.message.name_instances.Given as goal

abbrev pub invariant-loop-reference : goal.invariant-loop-reference
invariant-loop-reference l = record {
  back : NameInstances l.refs l.rows → NameInstances l.fn.refs l.fn.rows;
  on : NameInstances l.fn.refs l.fn.rows → NameInstances l.refs l.rows;
}

abbrev pub decreases-loop-reference : goal.decreases-loop-reference
decreases-loop-reference l = length l.refs
