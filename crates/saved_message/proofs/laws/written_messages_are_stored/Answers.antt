use Rattle.saved_message.proofs.StoredLemmas.{written_stores}
use Rattle.saved_message.proofs.laws.written_messages_are_stored.Goals as goal

pub returns : goal.returns
returns c = λ files row name time message p can has. (written_stores files row name time message p can has).0
