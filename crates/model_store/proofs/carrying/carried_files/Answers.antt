use Rattle.model_store.proofs.carrying.carried_files.Goals as goal
use Rattle.model_store.proofs.SettledLemmas.{stands_carried, safe_carried}
use Rattle.model_store.proofs.CarryingLemmas.{each_name}

pub returns : goal.returns
returns c = record { stand = stands_carried; safe = safe_carried; each_name = each_name }
