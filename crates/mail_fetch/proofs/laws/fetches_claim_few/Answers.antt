use Rattle.mail_fetch.proofs.StableLemmas.{claims_few, claims_one_pin}
use Rattle.mail_fetch.proofs.laws.fetches_claim_few.Goals as goal

pub returns-clause-held : goal.returns-clause-held
returns-clause-held g c = claims_few

pub returns-clause-pinned : goal.returns-clause-pinned
returns-clause-pinned g c = claims_one_pin
