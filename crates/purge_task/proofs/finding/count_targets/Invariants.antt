use Rattle.purge_task.proofs.Common.{◌≤◌, take, All}
use Rattle.purge_task.proofs.finding.count_targets.Given as goal

abbrev pub invariant-loop-found : goal.invariant-loop-found
invariant-loop-found l = All (λ f. f.octets ≤ 4294967285) (take l.found-index l.files)
