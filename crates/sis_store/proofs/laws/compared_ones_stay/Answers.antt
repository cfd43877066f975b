use Rattle.sis_store.proofs.CandidateLemmas.{compared_placed}
use Rattle.sis_store.proofs.laws.compared_ones_stay.Goals as goal

pub returns-clause-placed : goal.returns-clause-placed
returns-clause-placed c = compared_placed
