use Rattle.mail_fetch.proofs.StableLemmas.{fetch_stable, stored_stable}
use Rattle.mail_fetch.proofs.laws.fetches_are_stable.Goals as goal

pub returns-clause-ready : goal.returns-clause-ready
returns-clause-ready g c = fetch_stable

pub returns-clause-stored : goal.returns-clause-stored
returns-clause-stored g c = stored_stable
