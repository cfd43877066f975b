use Rattle.model_logs.proofs.entries.one_spelling.Goals as goal
use Rattle.model_logs.proofs.EntryLemmas.{root_one, box_one}
use Rattle.model_logs.proofs.MapEntryLemmas.{map_one}

pub returns : goal.returns
returns c = record { root = root_one; mailbox = box_one; map = map_one }
