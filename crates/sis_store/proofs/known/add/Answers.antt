use Rattle.std.proofs.Common.{ap, ◌∙◌}
use Rattle.sis_store.proofs.IdLemmas.{with-at}
use Rattle.sis_store.proofs.HashLemmas.{sums_insert}
use Rattle.std.specs.Prelude.{sum_by}
use Rattle.sis_store.proofs.known.add.Goals as goal

pub returns-clause-items : goal.returns-clause-items
returns-clause-items c =
    c.in-Ok.ensures.items
    ∙ with-at c.args.known.now.items c.place_past-place.result c.args.new c.requires.unknown (rw c.deref.ensures.value at c.place_past-place.ensures.before) (rw c.deref.ensures.value at c.place_past-place.ensures.behind)

pub returns-clause-same : goal.returns-clause-same
returns-clause-same c = λ f. ap (sum_by f) c.in-Ok.ensures.items ∙ sums_insert f c.args.known.now.items c.place_past-place.result c.args.new
