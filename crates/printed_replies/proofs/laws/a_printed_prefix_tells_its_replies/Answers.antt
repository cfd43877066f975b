use Rattle.printed_replies.proofs.ReplyReadLemmas.{prefix_read}
use Rattle.printed_replies.proofs.laws.a_printed_prefix_tells_its_replies.Goals as goal

pub returns : goal.returns
returns c = λ script i j a b n printed cut rest p q v w front whole. prefix_read script i j a b n printed cut rest p q v w front whole
