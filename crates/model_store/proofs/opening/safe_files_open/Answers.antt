use Rattle.model_store.proofs.opening.safe_files_open.Goals as goal
use Rattle.model_store.proofs.OpeningSafeLemmas.{safe_opens, opens_safe, opens_shows}

pub returns : goal.returns
returns c = record { opens = safe_opens; safe = opens_safe; shows = opens_shows }
