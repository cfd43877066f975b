use Rattle.task_claims.proofs.OpenedLemmas.{none_claimed}
use Rattle.task_claims.proofs.StayLemmas.{adds_up_ended, adds_up_on, two_are_in}
use Rattle.task_claims.proofs.laws.claims_add_up.Goals as goal

pub returns-clause-opened : goal.returns-clause-opened
returns-clause-opened g c = none_claimed

pub returns-clause-on : goal.returns-clause-on
returns-clause-on g c = adds_up_on

pub returns-clause-ended : goal.returns-clause-ended
returns-clause-ended g c = adds_up_ended

pub returns-clause-two : goal.returns-clause-two
returns-clause-two g c = two_are_in
