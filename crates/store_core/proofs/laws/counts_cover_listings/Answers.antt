use Rattle.store_core.proofs.CountingLemmas.{nothing_due}
use Rattle.store_core.proofs.DueLemmas.{covered_by}
use Rattle.store_core.proofs.laws.counts_cover_listings.Goals as goal

pub returns-clause-nothing_due : goal.returns-clause-nothing_due
returns-clause-nothing_due c = nothing_due

pub returns-clause-accounted : goal.returns-clause-accounted
returns-clause-accounted c = covered_by
