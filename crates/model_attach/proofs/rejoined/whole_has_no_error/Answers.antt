use Rattle.model_attach.proofs.RejoinedLemmas.{whole_accepted}
use Rattle.model_attach.proofs.rejoined.whole_has_no_error.Goals as goal

pub returns : goal.returns
returns c whole body refs instances h fits = whole_accepted whole body refs instances h fits
