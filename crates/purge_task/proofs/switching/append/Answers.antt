use Rattle.purge_task.proofs.switching.append.Goals as goal

pub returns-in-Ok-clause-settled : goal.returns-in-Ok-clause-settled
returns-in-Ok-clause-settled g c = λ lists settled. c.in-Ok.ensures.settled lists c.requires.ready.synced settled
