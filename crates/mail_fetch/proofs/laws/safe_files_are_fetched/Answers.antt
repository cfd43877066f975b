use Rattle.mail_fetch.proofs.StepLemmas.{safe_fetched}
use Rattle.mail_fetch.proofs.laws.safe_files_are_fetched.Goals as goal

pub returns : goal.returns
returns g c = safe_fetched
