use Rattle.model_found.proofs.FindingLemmas.{found_same, storage_same, all_found_same}
use Rattle.model_found.proofs.laws.findings_are_one.Goals as goal

pub returns-clause-files : goal.returns-clause-files
returns-clause-files c = storage_same

pub returns-clause-file : goal.returns-clause-file
returns-clause-file c = found_same

pub returns-clause-all : goal.returns-clause-all
returns-clause-all c = all_found_same
