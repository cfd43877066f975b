use Rattle.store_seen.proofs.SeeingLemmas.{comes_at_first, tells_as_before}
use Rattle.store_seen.proofs.laws.stores_are_seen.Goals as goal

pub returns-clause-first : goal.returns-clause-first
returns-clause-first g c = comes_at_first

pub returns-clause-same : goal.returns-clause-same
returns-clause-same g c = tells_as_before
