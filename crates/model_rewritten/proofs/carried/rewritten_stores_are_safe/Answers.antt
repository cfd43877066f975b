use Rattle.model_rewritten.proofs.carried.rewritten_stores_are_safe.Goals as goal
use Rattle.model_rewritten.proofs.CarriedLemmas.{carried_safe, carried_itself, carried_on}

pub returns : goal.returns
returns c = record { safe = carried_safe; itself = carried_itself; on = carried_on }
