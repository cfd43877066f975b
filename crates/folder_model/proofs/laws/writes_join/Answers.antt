use Rattle.folder_model.proofs.PartLemmas.{written-written}
use Rattle.folder_model.proofs.laws.writes_join.Goals as goal

pub returns : goal.returns
returns c = written-written
