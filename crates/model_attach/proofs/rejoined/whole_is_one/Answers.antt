use Rattle.model_attach.proofs.RejoinedLemmas.{whole_same}
use Rattle.model_attach.proofs.rejoined.whole_is_one.Goals as goal

pub returns : goal.returns
returns c v w body refs instances h k = whole_same 0 v w body refs instances h k
