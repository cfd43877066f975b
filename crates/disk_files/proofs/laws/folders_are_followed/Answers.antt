use Rattle.disk_files.proofs.NameStepLemmas.{folder_follows}
use Rattle.disk_files.proofs.laws.folders_are_followed.Goals as goal

pub returns : goal.returns
returns c = λ disk s path nothing apart follows. folder_follows path disk s nothing apart follows
