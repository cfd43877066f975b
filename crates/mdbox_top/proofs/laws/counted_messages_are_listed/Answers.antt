use Rattle.mdbox_top.proofs.NumbersLemmas.{counted_listed}
use Rattle.mdbox_top.proofs.laws.counted_messages_are_listed.Goals as goal

pub returns : goal.returns
returns c = λ m meanings lists shows. counted_listed m meanings lists shows
