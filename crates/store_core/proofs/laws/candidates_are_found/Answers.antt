use Rattle.sis_store.proofs.CandidateLemmas.{candidate_row}
use Rattle.store_core.proofs.InstanceKeepingLemmas.{candidate_found, known_file}
use Rattle.store_core.proofs.laws.candidates_are_found.Goals as goal

pub returns-clause-row : goal.returns-clause-row
returns-clause-row c = candidate_row

pub returns-clause-known : goal.returns-clause-known
returns-clause-known c = known_file

pub returns-clause-found : goal.returns-clause-found
returns-clause-found c = candidate_found
