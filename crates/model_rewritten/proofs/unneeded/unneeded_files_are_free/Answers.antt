use Rattle.model_rewritten.proofs.unneeded.unneeded_files_are_free.Goals as goal
use Rattle.model_rewritten.proofs.UnneededLemmas.{unneeded_safe, unneeded_settled, unneeded_opens}

pub returns : goal.returns
returns c = record { image = unneeded_safe; settled = unneeded_settled; opens = unneeded_opens }
