use Rattle.task_claims.proofs.NameLemmas.{names_stay, names_stay_with_made}
use Rattle.task_claims.proofs.laws.mailboxes_keep_names.Goals as goal

pub returns-clause-stay : goal.returns-clause-stay
returns-clause-stay c = names_stay

pub returns-clause-made : goal.returns-clause-made
returns-clause-made c = names_stay_with_made
