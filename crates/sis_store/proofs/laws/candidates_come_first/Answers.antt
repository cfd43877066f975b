use Rattle.sis_store.proofs.CandidateLemmas.{candidate_first}
use Rattle.sis_store.proofs.laws.candidates_come_first.Goals as goal

pub returns : goal.returns
returns c = candidate_first
