use Rattle.disk_model.proofs.AtRestLemmas.{at_rest-images}
use Rattle.disk_model.proofs.laws.images_of_disk_at_rest.Goals as goal

pub returns : goal.returns
returns c = at_rest-images
