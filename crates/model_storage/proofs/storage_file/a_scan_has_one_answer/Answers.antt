use Rattle.model_storage.proofs.ScanLemmas.{answer_same}
use Rattle.model_storage.proofs.storage_file.a_scan_has_one_answer.Goals as goal

pub returns : goal.returns
returns c = answer_same
