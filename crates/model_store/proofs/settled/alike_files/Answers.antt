use Rattle.model_store.proofs.settled.alike_files.Goals as goal
use Rattle.model_store.proofs.SettledLemmas.{stands_alike, safe_alike}

pub returns : goal.returns
returns c = record { stand = stands_alike; safe = safe_alike }
