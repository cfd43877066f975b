use Rattle.task_claims.proofs.StayLemmas.{others_in}
use Rattle.task_claims.proofs.laws.claims_stay.Goals as goal

pub returns : goal.returns
returns g c = record { others = others_in }
