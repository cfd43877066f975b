use Rattle.mail_fetch.proofs.StoredRegionLemmas.{stored_fetched}
use Rattle.mail_fetch.proofs.laws.stored_messages_are_fetched.Goals as goal

pub returns : goal.returns
returns c = stored_fetched
