use Rattle.model_meaning.proofs.meanings.one_entry_more.Goals as goal
use Rattle.model_meaning.proofs.BoxLemmas.{box_more}
use Rattle.model_meaning.proofs.MapLemmas.{map_more}

pub returns : goal.returns
returns c = record { mailbox = box_more; map = map_more }
