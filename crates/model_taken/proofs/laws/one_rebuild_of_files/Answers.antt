use Rattle.model_taken.proofs.JudgingLemmas.{rebuild_same}
use Rattle.model_taken.proofs.laws.one_rebuild_of_files.Goals as goal

pub returns : goal.returns
returns c = rebuild_same
