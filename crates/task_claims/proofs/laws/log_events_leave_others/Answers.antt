use Rattle.task_claims.proofs.RestLemmas.{due_claims, idle_leaves, rest_leaves}
use Rattle.task_claims.proofs.laws.log_events_leave_others.Goals as goal

pub returns-clause-logs : goal.returns-clause-logs
returns-clause-logs g c = rest_leaves

pub returns-clause-idle : goal.returns-clause-idle
returns-clause-idle g c = idle_leaves

pub returns-clause-dues : goal.returns-clause-dues
returns-clause-dues g c = due_claims
