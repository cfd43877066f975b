use Rattle.purge_task.proofs.Common.{refl, ◌∙◌, ap, at_stage, uncounted, PurgeValue, KeepsQuiet}
use Rattle.purge_task.specs.declared.task.PurgeStage.TheVariants as stage
use Rattle.purge_task.proofs.DropLemmas.{part_counts, part_tells}
use Rattle.purge_task.proofs.StepLemmas.{first_part_low, part_left, part_says}
use Rattle.purge_task.proofs.QuietStepLemmas.{part_so}
use Rattle.purge_task.proofs.task.PurgeTask.begin.Goals as goal

pub returns-clause-step : goal.returns-clause-step
returns-clause-step g c =
    part_says c.begin-next.result (at_stage stage.First c.args.self.now) (uncounted (at_stage stage.First c.args.self.now)) _ c.come_to.new.self c.come_to.result c.args.store.now c.begin-next.new.store (g.D.Disk.history c.args.store.now.disk) (g.D.Disk.history c.begin-next.new.store.disk) (g.D.Disk.faults c.args.store.now.disk) (g.D.Disk.faults c.begin-next.new.store.disk) c.come_to.ensures.task c.come_to.ensures.answer refl refl refl (c.begin-next.ensures.step (at_stage stage.First c.args.self.now) refl)

pub returns-clause-left : goal.returns-clause-left
returns-clause-left g c more =
    part_left c.begin-next.result (at_stage stage.First c.args.self.now) (uncounted (at_stage stage.First c.args.self.now)) _ c.come_to.new.self c.come_to.result c.args.store.now c.begin-next.new.store c.come_to.ensures.task c.come_to.ensures.answer refl refl refl
    (first_part_low c.begin-next.result (at_stage stage.First c.args.self.now) (uncounted (at_stage stage.First c.args.self.now)) c.args.store.now c.begin-next.new.store (g.D.Disk.history c.args.store.now.disk) (g.D.Disk.history c.begin-next.new.store.disk) (g.D.Disk.faults c.args.store.now.disk) (g.D.Disk.faults c.begin-next.new.store.disk) (c.begin-next.ensures.step (at_stage stage.First c.args.self.now) refl) refl c.begin-next.ensures.further refl refl refl c.begin-next.ensures.few) more

pub come_to-requires-clause-first : goal.come_to-requires-clause-first
come_to-requires-clause-first g c = ap (λ (v : PurgeValue). v.stage) c.self.view_is ∙ c.requires.first

pub come_to-requires-clause-quiet : goal.come_to-requires-clause-quiet
come_to-requires-clause-quiet g c = ap (λ (v : PurgeValue). v.did) c.self.view_is ∙ c.requires.quiet

pub returns-clause-drops : goal.returns-clause-drops
returns-clause-drops g c runs = (c.begin-next.ensures.map, part_counts c.begin-next.result _ c.come_to.new.self c.come_to.ensures.task)

pub returns-clause-counts : goal.returns-clause-counts
returns-clause-counts g c = part_tells c.begin-next.result c.args.self.now _ c.come_to.new.self c.come_to.result c.come_to.ensures.task c.come_to.ensures.answer c.begin-next.ensures.begun

pub returns-clause-quiet : goal.returns-clause-quiet
returns-clause-quiet g c = part_so (λ n a. KeepsQuiet (at_stage stage.First c.args.self.now) n a c.args.store.now c.begin-next.new.store (g.D.Disk.history c.args.store.now.disk) (g.D.Disk.history c.begin-next.new.store.disk)) c.begin-next.result (uncounted (at_stage stage.First c.args.self.now)) _ c.come_to.new.self c.come_to.result c.come_to.ensures.task c.come_to.ensures.answer refl refl refl (c.begin-next.ensures.quiet (at_stage stage.First c.args.self.now) refl)
