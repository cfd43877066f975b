use Rattle.printed_replies.proofs.ReplyKindLemmas.{served_kinds}
use Rattle.printed_replies.proofs.laws.served_replies_are_to_their_requests.Goals as goal

pub returns : goal.returns
returns c = λ script lists given entries began now old opened new many served. served_kinds script lists given entries began now old opened new many served
