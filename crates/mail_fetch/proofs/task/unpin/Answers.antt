use Rattle.mail_fetch.proofs.Common.{claims_of_pinned}
use Rattle.mail_fetch.proofs.task.unpin.Goals as goal

pub give_back-requires : goal.give_back-requires
give_back-requires g c = c.requires.claimed.claimed

pub returns-then-give_back-clause-leaves : goal.returns-then-give_back-clause-leaves
returns-then-give_back-clause-leaves g c = c.give_back.ensures.leaves (claims_of_pinned c.args.from)

pub returns-clause-leaves : goal.returns-clause-leaves
returns-clause-leaves g c = c.give_back.ensures.leaves (claims_of_pinned c.args.from)
