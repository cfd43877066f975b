use Rattle.model_appends.proofs.appended.appends_are_safe.Goals as goal
use Rattle.model_appends.proofs.AppendSafeLemmas.{safe_by_box_append}
use Rattle.model_appends.proofs.AppendSafeMapLemmas.{safe_by_map_append}

pub returns : goal.returns
returns c = record { box_entry = safe_by_box_append; map_entry = safe_by_map_append }
