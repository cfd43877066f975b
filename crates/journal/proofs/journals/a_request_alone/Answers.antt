use Rattle.journal.proofs.AloneLemmas.{reply_alone}
use Rattle.journal.proofs.journals.a_request_alone.Goals as goal

pub returns : goal.returns
returns c = reply_alone
