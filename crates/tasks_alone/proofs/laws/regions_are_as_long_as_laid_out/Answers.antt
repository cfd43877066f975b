use Rattle.tasks_alone.proofs.SavedFormLemmas.{laid_sized}
use Rattle.tasks_alone.proofs.laws.regions_are_as_long_as_laid_out.Goals as goal

pub returns : goal.returns
returns c = laid_sized
