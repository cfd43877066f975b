use Rattle.model_storage.proofs.WrittenFileLemmas.{written_message_spells}
use Rattle.model_storage.proofs.storage_file.written_message_is_a_spelling.Goals as goal

pub returns : goal.returns
returns c = written_message_spells
