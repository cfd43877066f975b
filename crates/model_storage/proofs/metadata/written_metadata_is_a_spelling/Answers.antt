use Rattle.model_storage.proofs.WrittenLemmas.{written_is_spelling}
use Rattle.model_storage.proofs.metadata.written_metadata_is_a_spelling.Goals as goal

pub returns : goal.returns
returns c = written_is_spelling
