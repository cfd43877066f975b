use Rattle.lanes.proofs.BeginLemmas.{all_begin}
use Rattle.lanes.proofs.laws.lanes_begin.Goals as goal

pub returns : goal.returns
returns g c = all_begin
