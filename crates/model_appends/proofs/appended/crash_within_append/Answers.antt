use Rattle.model_appends.proofs.appended.crash_within_append.Goals as goal
use Rattle.model_appends.proofs.AppendSafeLemmas.{safe_without, safe_with_box_entry}
use Rattle.model_appends.proofs.AppendSafeMapLemmas.{safe_with_map_entry}

pub returns : goal.returns
returns c = record { without = safe_without; box_entry = safe_with_box_entry; map_entry = safe_with_map_entry }
