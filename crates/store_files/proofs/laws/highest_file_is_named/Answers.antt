use Rattle.store_files.proofs.HighestFileLemmas.{highest_file}
use Rattle.store_files.proofs.laws.highest_file_is_named.Goals as goal

pub returns : goal.returns
returns c = highest_file c.meanings_are_sound.ensures.map
