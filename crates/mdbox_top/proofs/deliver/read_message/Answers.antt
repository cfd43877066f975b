use Rattle.mdbox_top.proofs.DeliverLemmas.{unread_is}
use Rattle.mdbox_top.proofs.deliver.read_message.Goals as goal

pub returns-in-Err-clause-unread : goal.returns-in-Err-clause-unread
returns-in-Err-clause-unread g c = rw c.unread.ensures (unread_is _ _ _ _ c.in-Err.error c.in-Err.ensures.refused)
