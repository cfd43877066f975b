use Rattle.purge_task.proofs.Common.{refl, arith, at_stage, KeepsQuiet}
use Rattle.purge_task.specs.declared.task.PurgeStage.TheVariants as stage
use Rattle.purge_task.proofs.DropLemmas.{part_drops, part_tells}
use Rattle.purge_task.proofs.StepLemmas.{part_left, part_low, part_says}
use Rattle.purge_task.proofs.QuietStepLemmas.{part_so}
use Rattle.purge_task.proofs.task.PurgeTask.remove_switched.Goals as goal

pub returns-clause-step : goal.returns-clause-step
returns-clause-step g c =
    part_says c.remove_source-next.result (at_stage (stage.Removing c.args.work) c.args.self.now) (at_stage (stage.Removing c.args.work) c.args.self.now) _ c.come_to.new.self c.come_to.result c.args.store.now c.remove_source-next.new.store (g.D.Disk.history c.args.store.now.disk) (g.D.Disk.history c.remove_source-next.new.store.disk) (g.D.Disk.faults c.args.store.now.disk) (g.D.Disk.faults c.remove_source-next.new.store.disk) c.come_to.ensures.task c.come_to.ensures.answer refl refl refl (c.remove_source-next.ensures.step (at_stage (stage.Removing c.args.work) c.args.self.now) refl)

pub returns-clause-left : goal.returns-clause-left
returns-clause-left g c more =
    part_left c.remove_source-next.result (at_stage (stage.Removing c.args.work) c.args.self.now) (at_stage (stage.Removing c.args.work) c.args.self.now) _ c.come_to.new.self c.come_to.result c.args.store.now c.remove_source-next.new.store c.come_to.ensures.task c.come_to.ensures.answer refl refl refl
    (part_low 0 c.remove_source-next.result (at_stage (stage.Removing c.args.work) c.args.self.now) (at_stage (stage.Removing c.args.work) c.args.self.now) c.args.store.now c.remove_source-next.new.store (g.D.Disk.history c.args.store.now.disk) (g.D.Disk.history c.remove_source-next.new.store.disk) (g.D.Disk.faults c.args.store.now.disk) (g.D.Disk.faults c.remove_source-next.new.store.disk) (c.remove_source-next.ensures.step (at_stage (stage.Removing c.args.work) c.args.self.now) refl) c.remove_source-next.ensures.further (omega arith) refl refl c.requires.low (omega arith)) more

pub returns-clause-drops : goal.returns-clause-drops
returns-clause-drops g c runs = part_drops c.remove_source-next.result _ c.come_to.new.self c.args.self.now.dropped c.args.store.now.map c.remove_source-next.new.store.map c.come_to.ensures.task refl c.remove_source-next.ensures.map

pub returns-clause-counts : goal.returns-clause-counts
returns-clause-counts g c = part_tells c.remove_source-next.result c.args.self.now _ c.come_to.new.self c.come_to.result c.come_to.ensures.task c.come_to.ensures.answer c.remove_source-next.ensures.begun

pub returns-clause-quiet : goal.returns-clause-quiet
returns-clause-quiet g c = part_so (λ n a. KeepsQuiet (at_stage (stage.Removing c.args.work) c.args.self.now) n a c.args.store.now c.remove_source-next.new.store (g.D.Disk.history c.args.store.now.disk) (g.D.Disk.history c.remove_source-next.new.store.disk)) c.remove_source-next.result (at_stage (stage.Removing c.args.work) c.args.self.now) _ c.come_to.new.self c.come_to.result c.come_to.ensures.task c.come_to.ensures.answer refl refl refl (c.remove_source-next.ensures.quiet (at_stage (stage.Removing c.args.work) c.args.self.now) refl)
