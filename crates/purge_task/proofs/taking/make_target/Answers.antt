use Rattle.purge_task.proofs.Common.{ap, subst, sym, IsSettledFor, StoreValue}
use Rattle.purge_task.proofs.taking.make_target.Goals as goal

pub returns-in-Ok-clause-settled : goal.returns-in-Ok-clause-settled
returns-in-Ok-clause-settled g c = λ lists settled. subst (λ (d : _). IsSettledFor lists (g.D.Disk.history d)) (sym (ap (λ (v : StoreValue _). v.disk) c.begin_place-offset.ensures.same)) (c.in-Ok.ensures.settled lists settled)
