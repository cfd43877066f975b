use Rattle.saved_message.proofs.StoredLemmas.{written_detached}
use Rattle.saved_message.proofs.laws.written_messages_are_detached.Goals as goal

pub returns : goal.returns
returns c = written_detached
