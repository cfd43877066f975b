use Rattle.model_attach.proofs.DetachedLemmas.{whole_of_detached}
use Rattle.model_attach.proofs.detached.whole_of_detached_is_message.Goals as goal

pub returns : goal.returns
returns c message body refs instances h = whole_of_detached message body refs instances h
