use Rattle.model_store.proofs.opening.new_store_is_safe.Goals as goal
use Rattle.model_store.proofs.NewStoreLemmas.{new_safe, new_safe_by}

pub returns : goal.returns
returns c = record { safe = new_safe; by = new_safe_by }
