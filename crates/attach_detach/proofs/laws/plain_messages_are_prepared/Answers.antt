use Rattle.attach_detach.proofs.ApartLemmas.{plain_prepared}
use Rattle.attach_detach.proofs.laws.plain_messages_are_prepared.Goals as goal

pub returns : goal.returns
returns c = plain_prepared
