use Rattle.resync_task.proofs.EndLemmas.{ends_unremembered}
use Rattle.resync_task.proofs.task.end.Goals as goal

pub returns-in-Err-NoMemory-clause-on : goal.returns-in-Err-NoMemory-clause-on
returns-in-Err-NoMemory-clause-on g c = λ files.
    ends_unremembered g.D.Disk.history g.D.Disk.faults files c.args.damaged c.in-Err-NoMemory.field-0 c.refused.result.0 c.refused.result.1 c.refused.result.2 c.args.store.now c.put_right.new.store c.in-Err-NoMemory.field-0-is c.refused.ensures.0 c.refused.ensures.1 c.refused.ensures.2 c.in-Err-NoMemory.ensures
