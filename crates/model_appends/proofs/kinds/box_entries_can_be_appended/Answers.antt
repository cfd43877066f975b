use Rattle.model_appends.proofs.kinds.box_entries_can_be_appended.Goals as goal
use Rattle.model_appends.proofs.AppendCountLemmas.{box_append}

pub returns : goal.returns
returns c = box_append
