use Rattle.saved_message.proofs.ReferenceLemmas.{parts_few}
use Rattle.saved_message.proofs.laws.attachments_are_few.Goals as goal

pub returns : goal.returns
returns c = parts_few
