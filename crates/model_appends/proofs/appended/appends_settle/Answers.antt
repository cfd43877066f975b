use Rattle.model_appends.proofs.appended.appends_settle.Goals as goal
use Rattle.model_appends.proofs.AppendSafeLemmas.{settled_by_box_append}
use Rattle.model_appends.proofs.AppendSafeMapLemmas.{settled_by_map_append}

pub returns : goal.returns
returns c = record { box_entry = settled_by_box_append; map_entry = settled_by_map_append }
