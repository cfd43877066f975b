use Rattle.store_core.proofs.BesideLemmas.{listed_beside_all}
use Rattle.store_core.proofs.store.Store.listed_beside.Goals as goal

pub returns : goal.returns
returns g c = listed_beside_all (λ sums. sums.items) _ c.args.self.now c.deref.result.now c.rows_beside.result c.self.view_is c.deref.ensures.value c.rows_beside.ensures
