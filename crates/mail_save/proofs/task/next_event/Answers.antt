use Rattle.mail_save.proofs.Common.{sym, subst, Saves}
use Rattle.mail_save.proofs.task.next_event.Goals as goal

pub returns-in-First : goal.returns-in-First
returns-in-First g c =
    subst (λ s. Saves s c.first_event.result.next c.args.name.now c.args.time c.args.size c.first_event.result.answer c.first_event.result.did c.args.store.now c.args.store.now (g.D.Disk.history c.args.store.now.disk) (g.D.Disk.history c.args.store.now.disk) (g.D.Disk.faults c.args.store.now.disk) (g.D.Disk.faults c.args.store.now.disk)) (sym c.in-First.is)
    (c.first_event.ensures c.args.size)

pub returns-in-Attaching : goal.returns-in-Attaching
returns-in-Attaching g c =
    subst (λ s. Saves s c.attaching_event.result.next c.args.name.now c.args.time c.args.size c.attaching_event.result.answer c.attaching_event.result.did c.args.store.now c.attaching_event.new.store (g.D.Disk.history c.args.store.now.disk) (g.D.Disk.history c.attaching_event.new.store.disk) (g.D.Disk.faults c.args.store.now.disk) (g.D.Disk.faults c.attaching_event.new.store.disk)) (sym c.in-Attaching.is)
    (c.attaching_event.ensures c.args.size)

pub returns-in-Taking : goal.returns-in-Taking
returns-in-Taking g c =
    subst (λ s. Saves s c.taking.result.next c.args.name.now c.args.time c.args.size c.taking.result.answer c.taking.result.did c.args.store.now c.taking.new.store (g.D.Disk.history c.args.store.now.disk) (g.D.Disk.history c.taking.new.store.disk) (g.D.Disk.faults c.args.store.now.disk) (g.D.Disk.faults c.taking.new.store.disk)) (sym c.in-Taking.is)
    (c.taking.ensures c.args.size)

pub returns-in-Placing : goal.returns-in-Placing
returns-in-Placing g c =
    subst (λ s. Saves s c.placing.result.next c.args.name.now c.args.time c.args.size c.placing.result.answer c.placing.result.did c.args.store.now c.placing.new.store (g.D.Disk.history c.args.store.now.disk) (g.D.Disk.history c.placing.new.store.disk) (g.D.Disk.faults c.args.store.now.disk) (g.D.Disk.faults c.placing.new.store.disk)) (sym c.in-Placing.is)
    (c.placing.ensures c.args.size)

pub returns-in-Adding : goal.returns-in-Adding
returns-in-Adding g c =
    subst (λ s. Saves s c.adding.result.next c.args.name.now c.args.time c.args.size c.adding.result.answer c.adding.result.did c.args.store.now c.adding.new.store (g.D.Disk.history c.args.store.now.disk) (g.D.Disk.history c.adding.new.store.disk) (g.D.Disk.faults c.args.store.now.disk) (g.D.Disk.faults c.adding.new.store.disk)) (sym c.in-Adding.is)
    (c.adding.ensures c.args.size)

pub returns-in-GivingBack : goal.returns-in-GivingBack
returns-in-GivingBack g c =
    subst (λ s. Saves s c.giving_back.result.next c.args.name.now c.args.time c.args.size c.giving_back.result.answer c.giving_back.result.did c.args.store.now c.giving_back.new.store (g.D.Disk.history c.args.store.now.disk) (g.D.Disk.history c.giving_back.new.store.disk) (g.D.Disk.faults c.args.store.now.disk) (g.D.Disk.faults c.giving_back.new.store.disk)) (sym c.in-GivingBack.is)
    (c.giving_back.ensures c.args.name.now c.args.time c.args.size)
