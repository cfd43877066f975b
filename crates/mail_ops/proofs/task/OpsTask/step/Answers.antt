use Rattle.mail_ops.proofs.Common.{refl, ap, no_claims}
use Rattle.mail_ops.proofs.OnlyLogsLemmas.{only_keeps}
use Rattle.mail_ops.proofs.StageLemmas.{only_event}
use Rattle.task_claims.proofs.RestLemmas.{rest_amounts, same_claims}
use Rattle.mail_ops.proofs.task.OpsTask.step.Goals as goal

pub returns-clause-does : goal.returns-clause-does
returns-clause-does g c = λ around after pins. only_event _ _ around after _ _ _ _ _ _ (ap (λ v. v.request) c.self.view_is) (c.only_event-reply.ensures.does around after pins)

pub returns-clause-keeps : goal.returns-clause-keeps
returns-clause-keeps g c = only_keeps _ _ _ _ c.args.store.now c.only_event-reply.new.store _ _ _ _ c.only_event-reply.ensures.keeps

pub returns-clause-claims : goal.returns-clause-claims
returns-clause-claims g c = λ runs. record {
  moves = same_claims no_claims c.args.store.now c.only_event-reply.new.store (rest_amounts c.args.store.now c.only_event-reply.new.store c.only_event-reply.ensures.due c.only_event-reply.ensures.keeps.rest);
  leaves = c.only_event-reply.ensures.leaves runs;
  ended = λ given is thing. refl;
}
