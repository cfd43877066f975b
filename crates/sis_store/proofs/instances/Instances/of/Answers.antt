use Rattle.std.proofs.Common.{map, ap, ◌∙◌}
use Rattle.sis_store.specs.Instances.{instance_found}
use Rattle.sis_store.proofs.KeysLemmas.{instances-found, keys-found}
use Rattle.sis_store.proofs.instances.Instances.of.Goals as goal

pub invariant_of-result : goal.invariant_of-result
invariant_of-result c =
    let is = c.in_ok-found.ensures ∙ ap (map instance_found) c.as_slice-2.ensures in (
      rw is (instances-found c.args.known c.args.id c.args.highest c.requires.rising c.requires.drawn c.requires.last),
      rw is (keys-found c.args.known c.in_ok-keys.keys.items c.in_ok-keys.ensures.order (rw c.as_slice.ensures at c.in_ok-keys.ensures.same)),
    )
