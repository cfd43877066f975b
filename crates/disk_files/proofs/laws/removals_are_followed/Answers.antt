use Rattle.disk_files.proofs.NameStepLemmas.{removal_follows}
use Rattle.disk_files.proofs.laws.removals_are_followed.Goals as goal

pub returns : goal.returns
returns c = λ disk s name number file stands follows. removal_follows name number disk s c.files_have_own_paths.ensures file stands follows
