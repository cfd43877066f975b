use Rattle.file_paths.proofs.OneFileLemmas.{own_paths}
use Rattle.file_paths.proofs.laws.files_have_own_paths.Goals as goal

pub returns : goal.returns
returns c = own_paths
