use Rattle.mdbox_top.proofs.PrefixLemmas.{batch_prefix_read}
use Rattle.mdbox_top.proofs.laws.batch_tells_the_replies_that_are_whole.Goals as goal

pub returns : goal.returns
returns g c = λ script held printed cut old new older newer began now before after one other n a b p q v w front. batch_prefix_read script held printed cut old new older newer began now before after one other n a b p q v w front
