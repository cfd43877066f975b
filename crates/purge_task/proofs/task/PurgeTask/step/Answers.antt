use Rattle.purge_task.proofs.Common.{refl, sym, ◌∙◌, ap, subst, PurgeValue, TellsCounts, fall}
use Rattle.mdbox_base.specs.declared.progress.Did.TheVariants as did
use Rattle.purge_task.specs.Dropped.{DropsCounted}
use Rattle.purge_task.proofs.StepLemmas.{left_of, ready_did, ready_of, step_of}
use Rattle.purge_task.proofs.StoppedLemmas.{stopped_says}
use Rattle.purge_task.proofs.QuietStepLemmas.{quiet_did}
use Rattle.purge_task.proofs.task.PurgeTask.step.Goals as goal

pub returns-then-stopped-clause-step : goal.returns-then-stopped-clause-step
returns-then-stopped-clause-step g c =
    stopped_says c.args.self.now (record { stage = c.self.inside.stage; did = did.Quiet; dropped = c.self.inside.done.dropped; files = c.self.inside.done.files; instances = c.self.inside.done.instances }) c.args.store.now (g.D.Disk.history c.args.store.now.disk) (g.D.Disk.faults c.args.store.now.disk) refl (sym c.stopped.ensures ∙ c.if-stopped.true)

pub returns-then-stopped-clause-still : goal.returns-then-stopped-clause-still
returns-then-stopped-clause-still g c was = (refl, ap (λ (v : PurgeValue). record v { did = did.Quiet }) c.self.view_is)

pub returns-then-stopped-clause-drops : goal.returns-then-stopped-clause-drops
returns-then-stopped-clause-drops g c runs = absurd (fall _ (sym c.stopped.ensures ∙ c.if-stopped.true) runs)

pub returns-then-stopped-clause-counts : goal.returns-then-stopped-clause-counts
returns-then-stopped-clause-counts g c = tt

pub run-requires-clause-running : goal.run-requires-clause-running
run-requires-clause-running g c = sym c.stopped.ensures ∙ c.if-stopped.false

pub run-requires-clause-ready : goal.run-requires-clause-ready
run-requires-clause-ready g c = ready_did (record { stage = c.self.inside.stage; did = c.self.inside.did; dropped = c.self.inside.done.dropped; files = c.self.inside.done.files; instances = c.self.inside.done.instances }) c.args.self.now did.Quiet c.args.store.now (g.D.Disk.history c.args.store.now.disk) c.self.view_is (c.requires (sym c.stopped.ensures ∙ c.if-stopped.false))

pub returns-clause-step : goal.returns-clause-step
returns-clause-step g c =
    step_of (record { stage = c.self.inside.stage; did = c.self.inside.did; dropped = c.self.inside.done.dropped; files = c.self.inside.done.files; instances = c.self.inside.done.instances }) c.args.self.now c.run.new.self did.Quiet c.run.result c.args.store.now c.run.new.store (g.D.Disk.history c.args.store.now.disk) (g.D.Disk.history c.run.new.store.disk) (g.D.Disk.faults c.args.store.now.disk) (g.D.Disk.faults c.run.new.store.disk) c.self.view_is c.run.ensures.step

pub returns-clause-ready : goal.returns-clause-ready
returns-clause-ready g c =
    ready_of c.args.self.now c.run.new.self c.run.result c.args.store.now c.run.new.store (g.D.Disk.history c.args.store.now.disk) (g.D.Disk.history c.run.new.store.disk) (g.D.Disk.faults c.args.store.now.disk) (g.D.Disk.faults c.run.new.store.disk) (returns-clause-step g c)
    (λ more. left_of (record { stage = c.self.inside.stage; did = c.self.inside.did; dropped = c.self.inside.done.dropped; files = c.self.inside.done.files; instances = c.self.inside.done.instances }) c.args.self.now c.run.new.self did.Quiet c.args.store.now c.run.new.store c.self.view_is (c.run.ensures.left more))

pub returns-clause-left : goal.returns-clause-left
returns-clause-left g c more = (left_of (record { stage = c.self.inside.stage; did = c.self.inside.did; dropped = c.self.inside.done.dropped; files = c.self.inside.done.files; instances = c.self.inside.done.instances }) c.args.self.now c.run.new.self did.Quiet c.args.store.now c.run.new.store c.self.view_is (c.run.ensures.left more)).1

pub returns-clause-still : goal.returns-clause-still
returns-clause-still g c was = absurd (fall _ was (sym c.stopped.ensures ∙ c.if-stopped.false))

pub returns-clause-drops : goal.returns-clause-drops
returns-clause-drops g c = subst (λ (v : PurgeValue). DropsCounted v c.run.new.self c.args.store.now c.run.new.store) c.self.view_is c.run.ensures.drops

pub returns-clause-counts : goal.returns-clause-counts
returns-clause-counts g c = subst (λ (v : PurgeValue). TellsCounts v c.run.new.self c.run.result) c.self.view_is c.run.ensures.counts

pub returns-then-stopped-clause-quiet : goal.returns-then-stopped-clause-quiet
returns-then-stopped-clause-quiet g c = tt

pub returns-clause-quiet : goal.returns-clause-quiet
returns-clause-quiet g c = quiet_did (record { stage = c.self.inside.stage; did = c.self.inside.did; dropped = c.self.inside.done.dropped; files = c.self.inside.done.files; instances = c.self.inside.done.instances }) c.args.self.now c.run.new.self did.Quiet c.run.result c.args.store.now c.run.new.store (g.D.Disk.history c.args.store.now.disk) (g.D.Disk.history c.run.new.store.disk) c.self.view_is c.run.ensures.quiet
