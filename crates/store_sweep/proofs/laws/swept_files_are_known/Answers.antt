use Rattle.store_sweep.proofs.KnownFileLemmas.{swept_known}
use Rattle.store_sweep.proofs.laws.swept_files_are_known.Goals as goal

pub returns : goal.returns
returns c = swept_known
