use Rattle.std.proofs.Common.{◌≡◌, ◌++◌, All, length, map, take}
use Rattle.std.specs.List.{flat_map}
use Rattle.store_checks.specs.Lengths.{instance_of}
use Rattle.store_checks.proofs.instances.instances_of.Given as goal

abbrev pub invariant-loop-place : goal.invariant-loop-place
invariant-loop-place l = record {
  same : l.instances.items ≡ map instance_of (flat_map (λ row. row.instances) (take l.place l.map.meaning.records));
  sized : All (λ inst. length inst.hash.0 ≡ 20) l.instances.items;
}

abbrev pub invariant-loop-inst : goal.invariant-loop-inst
invariant-loop-inst l = record {
  same : l.instances.items ≡ l.initial.instances.items ++ map instance_of (take l.inst-index l.inst-items);
  sized : All (λ inst. length inst.hash.0 ≡ 20) l.instances.items;
}
