use Rattle.disk_files.proofs.SpelledLemmas.{spelled}
use Rattle.disk_files.proofs.laws.paths_are_spelled.Goals as goal

pub returns : goal.returns
returns c = spelled
