use Rattle.saved_message.proofs.PreparedLemmas.{prepared_same}
use Rattle.saved_message.proofs.laws.prepared_form_is_one.Goals as goal

pub returns : goal.returns
returns c = prepared_same
