use Rattle.store_core.proofs.Common.{ap, indexes_of}
use Rattle.store_core.proofs.LookupLemmas.{number_in, none_in}
use Rattle.store_core.proofs.store.Store.number_of.Goals as goal

pub returns-clause-some : goal.returns-clause-some
returns-clause-some g c = number_in c.args.name.now c.self.inside.map.meaning c.args.self.now.map (indexes_of c.args.self.now.boxes) _ c.known_facts.ensures.boxes.rising (ap (λ v. v.map) c.self.view_is) c.box_named.ensures

pub returns-clause-none : goal.returns-clause-none
returns-clause-none g c = none_in c.args.name.now c.self.inside.map.meaning c.args.self.now.map (indexes_of c.args.self.now.boxes) _ (ap (λ v. v.map) c.self.view_is) c.box_named.ensures
