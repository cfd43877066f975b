use Rattle.model_storage.proofs.WrittenFileLemmas.{first_is_file}
use Rattle.model_storage.proofs.storage_file.an_example_is_a_file.Goals as goal

pub returns : goal.returns
returns c = first_is_file
