use Rattle.model_taken.proofs.FewLemmas.{few_references}
use Rattle.model_taken.proofs.laws.references_are_few.Goals as goal

pub returns : goal.returns
returns c = few_references
