use Rattle.mail_save.proofs.SaveReadyLemmas.{begins_ready, holds_are_few, left_with_room}
use Rattle.mail_save.proofs.laws.ready_deliveries_have_left.Goals as goal

pub returns-clause-begun : goal.returns-clause-begun
returns-clause-begun g c = begins_ready

pub returns-clause-left : goal.returns-clause-left
returns-clause-left g c = left_with_room

pub returns-clause-few : goal.returns-clause-few
returns-clause-few g c = holds_are_few
