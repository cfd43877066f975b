use Rattle.std.proofs.Common.{◌≡◌, take, map}
use Rattle.sis_store.specs.Instances.{instance_found}
use Rattle.sis_store.proofs.instances.found.Given as goal

-- the instances so far
abbrev pub invariant-loop-row : goal.invariant-loop-row
invariant-loop-row l = l.made.items ≡ map instance_found (take l.row-index l.rows)
