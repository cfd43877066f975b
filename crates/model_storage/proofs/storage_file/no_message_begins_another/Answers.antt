use Rattle.model_storage.proofs.FileLemmas.{message_same}
use Rattle.model_storage.proofs.storage_file.no_message_begins_another.Goals as goal

pub returns : goal.returns
returns c = message_same
