use Rattle.store_files.proofs.FoundLemmas.{one_way}
use Rattle.store_files.proofs.laws.found_files_are_one.Goals as goal

pub returns : goal.returns
returns c = one_way
