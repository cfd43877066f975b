use Rattle.model_storage.proofs.FileLemmas.{file_same}
use Rattle.model_storage.proofs.storage_file.octets_are_one_file.Goals as goal

pub returns : goal.returns
returns c = file_same
