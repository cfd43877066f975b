use Rattle.disk_files.proofs.NameStepLemmas.{making_follows}
use Rattle.disk_files.proofs.laws.makings_are_followed.Goals as goal

pub returns : goal.returns
returns c = λ disk s name file system nothing follows. making_follows name disk s c.files_have_own_paths.ensures file system nothing follows
