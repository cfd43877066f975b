use Rattle.attach_join.proofs.OutsideLemmas.{filled}
use Rattle.attach_join.proofs.spreading.filled_is_whole.Goals as goal

pub returns : goal.returns
returns c = filled
