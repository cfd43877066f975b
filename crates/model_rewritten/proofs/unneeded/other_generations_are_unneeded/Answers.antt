use Rattle.model_rewritten.proofs.unneeded.other_generations_are_unneeded.Goals as goal
use Rattle.model_rewritten.proofs.OutOfForceLemmas.{unneeded_mailbox, unneeded_map, unneeded_before, unneeded_after}

pub returns : goal.returns
returns c = record { mailbox = unneeded_mailbox; map_log = unneeded_map; before = unneeded_before; after = unneeded_after }
