use Rattle.mail_ops.proofs.Common.{sym, ◌∙◌, ap, sum_by, count_different, MapMeaning}
use Rattle.std.proofs.Common.{length}
use Rattle.mail_ops.specs.Counting.{named_ids}
use Rattle.mail_ops.proofs.CountsEventLemmas.{counts_stopped, counts_unremembered, counts_done}
use Rattle.mail_ops.proofs.counting.CountsTask.step.Goals as goal

pub returns-then-stopped-clause-does : goal.returns-then-stopped-clause-does
returns-then-stopped-clause-does g c = counts_stopped c.args.store.now (g.D.Disk.history c.args.store.now.disk) (g.D.Disk.faults c.args.store.now.disk) (sym c.stopped.ensures ∙ c.if-stopped.true)

pub returns-in-Ok-clause-does : goal.returns-in-Ok-clause-does
returns-in-Ok-clause-does g c = counts_done c.args.store.now (g.D.Disk.history c.args.store.now.disk) (g.D.Disk.faults c.args.store.now.disk) c.from.result c.listed.result c.counted.result c.in-Ok.instances (sym c.stopped.ensures ∙ c.if-stopped.false)
    (c.from.ensures ∙ (c.rows.ensures ∙ ap (λ (m : MapMeaning). length m.records) c.map-in-Ok.ensures)) c.listed.ensures (c.counted.ensures ∙ ap (λ (m : MapMeaning). sum_by (λ row. row.count) m.records) c.map-in-Ok-2.ensures) (c.in-Ok.ensures ∙ ap (λ (m : MapMeaning). count_different (named_ids m)) c.map.ensures)

pub returns-in-Err-clause-does : goal.returns-in-Err-clause-does
returns-in-Err-clause-does g c = counts_unremembered c.args.store.now (g.D.Disk.history c.args.store.now.disk) (g.D.Disk.faults c.args.store.now.disk) (sym c.stopped.ensures ∙ c.if-stopped.false)
