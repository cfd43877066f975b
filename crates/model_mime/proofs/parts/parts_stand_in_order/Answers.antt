use Rattle.model_mime.proofs.PartsLemmas.{parts_in_order}
use Rattle.model_mime.proofs.parts.parts_stand_in_order.Goals as goal

pub returns : goal.returns
returns c = parts_in_order
