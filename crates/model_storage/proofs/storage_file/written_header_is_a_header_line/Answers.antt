use Rattle.model_storage.proofs.WrittenFileLemmas.{written_header_spells}
use Rattle.model_storage.proofs.storage_file.written_header_is_a_header_line.Goals as goal

pub returns : goal.returns
returns c = written_header_spells
