use Rattle.mdbox_top.proofs.DeliverLemmas.{alone_done}
use Rattle.mdbox_top.proofs.alone.reply_alone.Goals as goal

pub returns-clause-done : goal.returns-clause-done
returns-clause-done g c = alone_done c.args.request c.args.prepared c.in_ok-reply.reply _ _ _ _ c.in_ok-reply.ensures.done.0 (c.in_ok-reply.ensures.done.0.entries, c.in_ok-reply.ensures.done.1) c.requires c.listings_are_answered.ensures c.safe_files_are_shown.ensures

pub returns-clause-served : goal.returns-clause-served
returns-clause-served g c = (c.in_ok-reply.ensures.done.0.entries, c.in_ok-reply.ensures.done.0.done, c.in_ok-reply.ensures.done.1)
