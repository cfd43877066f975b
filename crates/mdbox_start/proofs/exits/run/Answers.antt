use Rattle.mdbox_start.proofs.exits.run.Goals as goal

pub returns-in-Ok-clause-usage : goal.returns-in-Ok-clause-usage
returns-in-Ok-clause-usage g c = rw (c.in-Ok.is, ← c.as_slice.ensures.value) c.mdbox_run-disk.ensures.usage
