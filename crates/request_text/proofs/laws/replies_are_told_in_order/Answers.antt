use Rattle.request_text.proofs.OrderLemmas.{told_in_order}
use Rattle.request_text.proofs.laws.replies_are_told_in_order.Goals as goal

pub returns : goal.returns
returns c = told_in_order
