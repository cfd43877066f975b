use Rattle.disk_files.proofs.ImageLemmas.{covered}
use Rattle.disk_files.proofs.laws.images_are_covered.Goals as goal

pub returns : goal.returns
returns c = covered
