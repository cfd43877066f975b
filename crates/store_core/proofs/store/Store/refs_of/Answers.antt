use Rattle.store_core.proofs.Common.{ap}
use Rattle.store_core.proofs.CountingLemmas.{summed_in}
use Rattle.store_core.proofs.store.Store.refs_of.Goals as goal

pub returns : goal.returns
returns g c = summed_in c.args.guid.0 c.self.inside.boxes.items c.args.self.now.boxes c.deref.result.now _ (ap (λ v. v.boxes) c.self.view_is) c.deref.ensures.value c.listed_in_all.ensures
