use Rattle.map_index.proofs.Common.{◌≡◌, max, fold, drop}
use Rattle.model_meaning.specs.MapMeaning.{greatest, instance_number}
use Rattle.map_index.proofs.numbers.greatest_instance.Given as goal

-- the greatest so far, and the rest
abbrev pub invariant-loop-instance : goal.invariant-loop-instance
invariant-loop-instance l = fold (λ most i. max most (instance_number l.store.0 i.id.0)) l.most (drop l.instance-index l.instances) ≡ greatest (λ i. instance_number l.store.0 i.id.0) l.instances
