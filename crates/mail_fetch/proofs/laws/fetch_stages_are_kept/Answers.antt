use Rattle.mail_fetch.proofs.StepLemmas.{fetch_stays}
use Rattle.mail_fetch.proofs.laws.fetch_stages_are_kept.Goals as goal

pub returns : goal.returns
returns c = fetch_stays
