use Rattle.model_rebuild.proofs.RebuiltSafeLemmas.{rebuilt_safe}
use Rattle.model_rebuild.proofs.laws.rebuilt_files_are_safe.Goals as goal

pub returns : goal.returns
returns c = rebuilt_safe
