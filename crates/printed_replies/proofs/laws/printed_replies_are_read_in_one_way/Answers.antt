use Rattle.printed_replies.proofs.ReplyReadLemmas.{batch_read}
use Rattle.printed_replies.proofs.laws.printed_replies_are_read_in_one_way.Goals as goal

pub returns : goal.returns
returns c = λ script i j a b x y p q v w e. batch_read script i j a b x y p q v w e
