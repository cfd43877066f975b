use Rattle.store_core.proofs.ShownLemmas.{logs_show, refs_shown}
use Rattle.store_core.proofs.laws.listings_are_shown.Goals as goal

pub returns-clause-logs : goal.returns-clause-logs
returns-clause-logs c = logs_show

pub returns-clause-refs : goal.returns-clause-refs
returns-clause-refs c = refs_shown
