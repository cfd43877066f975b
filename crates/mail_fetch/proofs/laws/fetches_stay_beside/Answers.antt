use Rattle.mail_fetch.proofs.StableLemmas.{stay_beside}
use Rattle.mail_fetch.proofs.laws.fetches_stay_beside.Goals as goal

pub returns : goal.returns
returns g c = stay_beside
