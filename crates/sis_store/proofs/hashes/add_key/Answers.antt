use Rattle.std.proofs.Common.{sym, ap, ◌∙◌, subst}
use Rattle.std.specs.Prelude.{sum_by}
use Rattle.sis_store.proofs.HashLemmas.{InOrder, inserted, sums_insert}
use Rattle.sis_store.proofs.hashes.add_key.Goals as goal

pub returns-clause-order : goal.returns-clause-order
returns-clause-order c =
    subst InOrder (sym c.in-Ok.ensures.items)
    (inserted c.args.keys.now.items c.args.key c.place_for-place.result c.requires.order (rw c.deref.ensures.value at c.place_for-place.ensures.before) (rw c.deref.ensures.value at c.place_for-place.ensures.behind))

pub returns-clause-same : goal.returns-clause-same
returns-clause-same c = λ f. ap (sum_by f) c.in-Ok.ensures.items ∙ sums_insert f c.args.keys.now.items c.place_for-place.result c.args.key
