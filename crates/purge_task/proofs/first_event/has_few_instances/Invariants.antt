use Rattle.purge_task.proofs.Common.{◌≤◌, ◌-◌}
use Rattle.purge_task.proofs.FewInstanceLemmas.{ArePassed}
use Rattle.purge_task.proofs.first_event.has_few_instances.Given as goal

abbrev pub invariant-loop-id : goal.invariant-loop-id
invariant-loop-id g l = record {
  few : l.count ≤ 9223372036854775808;
  passed : ArePassed l.last l.count l.store.instances.known;
}

abbrev pub decreases-loop-id : goal.decreases-loop-id
decreases-loop-id g l = 9223372036854775808 - l.count
