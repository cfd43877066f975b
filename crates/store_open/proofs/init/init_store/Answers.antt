use Rattle.store_open.proofs.init.init_store.Goals as goal

pub returns-in-Ok-clause-settled : goal.returns-in-Ok-clause-settled
returns-in-Ok-clause-settled g c = rw c.of.ensures.store c.in-Ok.ensures.settled

pub returns-in-Ok-clause-store : goal.returns-in-Ok-clause-store
returns-in-Ok-clause-store g c = rw c.of.ensures.store c.in-Ok.ensures.there

pub returns-in-Ok-clause-untouched : goal.returns-in-Ok-clause-untouched
returns-in-Ok-clause-untouched g c = rw c.of.ensures.store c.in-Ok.ensures.untouched
