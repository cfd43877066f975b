use Rattle.printed_replies.proofs.ReplyReadLemmas.{reply_read}
use Rattle.printed_replies.proofs.laws.no_reply_begins_another.Goals as goal

pub returns : goal.returns
returns c = λ asked a b x y p q v w e. reply_read asked a b x y p q v w e
