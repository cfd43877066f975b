use Rattle.script_run.proofs.DoneLemmas.{handed_back}
use Rattle.script_run.proofs.WorkedLemmas.{worked_back}
use Rattle.script_run.proofs.run.run_script.Goals as goal

pub returns-in-Ok-clause-done : goal.returns-in-Ok-clause-done
returns-in-Ok-clause-done g c =
    handed_back g.D.Disk.history g.D.Disk.faults c.args.script.requests c.in-Ok.field-0.replies c.in-Ok.field-0.journal (g.D.Disk.history c.args.disk) (g.D.Disk.faults c.args.disk) c.in-Ok.field-0.store c.into_disk.result c.into_disk.ensures c.in-Ok.ensures.served

pub returns-in-Ok-clause-worked : goal.returns-in-Ok-clause-worked
returns-in-Ok-clause-worked g c =
    worked_back g.D.Disk.history g.D.Disk.faults c.args.script.requests c.args.script.lanes c.in-Ok.field-0.replies c.in-Ok.field-0.journal (g.D.Disk.history c.args.disk) (g.D.Disk.faults c.args.disk) c.in-Ok.field-0.store c.into_disk.result c.into_disk.ensures c.in-Ok.ensures.worked
