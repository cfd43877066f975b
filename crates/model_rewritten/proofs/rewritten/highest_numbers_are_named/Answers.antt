use Rattle.model_rewritten.proofs.rewritten.highest_numbers_are_named.Goals as goal
use Rattle.model_rewritten.proofs.NamedLemmas.{names_up_to, have_few}

pub returns : goal.returns
returns c = record { up_to = names_up_to; few = have_few }
