use Rattle.store_core.proofs.DueLemmas.{counts_seen}
use Rattle.store_core.proofs.store.Store.counts.Goals as goal

pub returns : goal.returns
returns g c = λ logs same. counts_seen _ _ _ logs c.self.view_is c.self.invariant.1 c.known_facts.ensures.records.rising same
