use Rattle.mail_fetch.proofs.held.settled_if.Goals as goal

pub returns-then-is_read-clause-held : goal.returns-then-is_read-clause-held
returns-then-is_read-clause-held c left held_is region = c.settled.ensures.held left held_is (region c.if-is_read.true)
