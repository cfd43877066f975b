use Rattle.purge_task.proofs.Common.{◌≡◌, sym, ◌∙◌, ap, subst, IsPurgeStep, TellsCounts, PurgeValue, KeepsQuiet}
use Rattle.purge_task.specs.Dropped.{DropsCounted}
use Rattle.purge_task.specs.Keeping.{LeavesLess}
use Rattle.purge_task.specs.declared.task.PurgeStage.TheVariants as stage
use Rattle.purge_task.proofs.StepLemmas.{ready_at, stage_is}
use Rattle.purge_task.proofs.task.PurgeTask.run.Goals as goal

pub begin-requires-clause-quiet : goal.begin-requires-clause-quiet
begin-requires-clause-quiet g c = ap (λ (v : PurgeValue). v.did) c.self.view_is ∙ c.requires.quiet

pub returns-in-First-clause-step : goal.returns-in-First-clause-step
returns-in-First-clause-step g c = subst (λ (v : PurgeValue). IsPurgeStep v c.begin.new.self c.begin.result c.args.store.now c.begin.new.store (g.D.Disk.history c.args.store.now.disk) (g.D.Disk.history c.begin.new.store.disk) (g.D.Disk.faults c.args.store.now.disk) (g.D.Disk.faults c.begin.new.store.disk)) (stage_is stage.First (record { stage = c.self.inside.stage; did = c.self.inside.did; dropped = c.self.inside.done.dropped; files = c.self.inside.done.files; instances = c.self.inside.done.instances }) c.args.self.now c.self.view_is (sym c.replace.ensures.value ∙ c.in-First.is) c.requires.quiet) c.begin.ensures.step

pub returns-in-First-clause-left : goal.returns-in-First-clause-left
returns-in-First-clause-left g c more = subst (λ (v : PurgeValue). LeavesLess v c.begin.new.self c.args.store.now c.begin.new.store) (stage_is stage.First (record { stage = c.self.inside.stage; did = c.self.inside.did; dropped = c.self.inside.done.dropped; files = c.self.inside.done.files; instances = c.self.inside.done.instances }) c.args.self.now c.self.view_is (sym c.replace.ensures.value ∙ c.in-First.is) c.requires.quiet) (c.begin.ensures.left more)

pub begin_file-requires-clause-ready : goal.begin_file-requires-clause-ready
begin_file-requires-clause-ready g c = (ready_at (stage.Begin c.in-Begin.work) (record { stage = c.self.inside.stage; did = c.self.inside.did; dropped = c.self.inside.done.dropped; files = c.self.inside.done.files; instances = c.self.inside.done.instances }) c.args.self.now c.args.store.now (g.D.Disk.history c.args.store.now.disk) (stage_is (stage.Begin c.in-Begin.work) (record { stage = c.self.inside.stage; did = c.self.inside.did; dropped = c.self.inside.done.dropped; files = c.self.inside.done.files; instances = c.self.inside.done.instances }) c.args.self.now c.self.view_is (sym c.replace.ensures.value ∙ c.in-Begin.is) c.requires.quiet) (λ e. let k : (stage.Begin c.in-Begin.work) ≡ stage.First = e in cc k) c.requires.ready).0

pub begin_file-requires-clause-low : goal.begin_file-requires-clause-low
begin_file-requires-clause-low g c = (ready_at (stage.Begin c.in-Begin.work) (record { stage = c.self.inside.stage; did = c.self.inside.did; dropped = c.self.inside.done.dropped; files = c.self.inside.done.files; instances = c.self.inside.done.instances }) c.args.self.now c.args.store.now (g.D.Disk.history c.args.store.now.disk) (stage_is (stage.Begin c.in-Begin.work) (record { stage = c.self.inside.stage; did = c.self.inside.did; dropped = c.self.inside.done.dropped; files = c.self.inside.done.files; instances = c.self.inside.done.instances }) c.args.self.now c.self.view_is (sym c.replace.ensures.value ∙ c.in-Begin.is) c.requires.quiet) (λ e. let k : (stage.Begin c.in-Begin.work) ≡ stage.First = e in cc k) c.requires.ready).1

pub begin_file-requires-clause-quiet : goal.begin_file-requires-clause-quiet
begin_file-requires-clause-quiet g c = ap (λ (v : PurgeValue). v.did) c.self.view_is ∙ c.requires.quiet

pub returns-in-Begin-clause-step : goal.returns-in-Begin-clause-step
returns-in-Begin-clause-step g c = subst (λ (v : PurgeValue). IsPurgeStep v c.begin_file.new.self c.begin_file.result c.args.store.now c.begin_file.new.store (g.D.Disk.history c.args.store.now.disk) (g.D.Disk.history c.begin_file.new.store.disk) (g.D.Disk.faults c.args.store.now.disk) (g.D.Disk.faults c.begin_file.new.store.disk)) (stage_is (stage.Begin c.in-Begin.work) (record { stage = c.self.inside.stage; did = c.self.inside.did; dropped = c.self.inside.done.dropped; files = c.self.inside.done.files; instances = c.self.inside.done.instances }) c.args.self.now c.self.view_is (sym c.replace.ensures.value ∙ c.in-Begin.is) c.requires.quiet) c.begin_file.ensures.step

pub returns-in-Begin-clause-left : goal.returns-in-Begin-clause-left
returns-in-Begin-clause-left g c more = subst (λ (v : PurgeValue). LeavesLess v c.begin_file.new.self c.args.store.now c.begin_file.new.store) (stage_is (stage.Begin c.in-Begin.work) (record { stage = c.self.inside.stage; did = c.self.inside.did; dropped = c.self.inside.done.dropped; files = c.self.inside.done.files; instances = c.self.inside.done.instances }) c.args.self.now c.self.view_is (sym c.replace.ensures.value ∙ c.in-Begin.is) c.requires.quiet) (c.begin_file.ensures.left more)

pub copy_or_switch-requires-clause-ready : goal.copy_or_switch-requires-clause-ready
copy_or_switch-requires-clause-ready g c = (ready_at (stage.Copying c.in-Copying.work) (record { stage = c.self.inside.stage; did = c.self.inside.did; dropped = c.self.inside.done.dropped; files = c.self.inside.done.files; instances = c.self.inside.done.instances }) c.args.self.now c.args.store.now (g.D.Disk.history c.args.store.now.disk) (stage_is (stage.Copying c.in-Copying.work) (record { stage = c.self.inside.stage; did = c.self.inside.did; dropped = c.self.inside.done.dropped; files = c.self.inside.done.files; instances = c.self.inside.done.instances }) c.args.self.now c.self.view_is (sym c.replace.ensures.value ∙ c.in-Copying.is) c.requires.quiet) (λ e. let k : (stage.Copying c.in-Copying.work) ≡ stage.First = e in cc k) c.requires.ready).0

pub copy_or_switch-requires-clause-low : goal.copy_or_switch-requires-clause-low
copy_or_switch-requires-clause-low g c = (ready_at (stage.Copying c.in-Copying.work) (record { stage = c.self.inside.stage; did = c.self.inside.did; dropped = c.self.inside.done.dropped; files = c.self.inside.done.files; instances = c.self.inside.done.instances }) c.args.self.now c.args.store.now (g.D.Disk.history c.args.store.now.disk) (stage_is (stage.Copying c.in-Copying.work) (record { stage = c.self.inside.stage; did = c.self.inside.did; dropped = c.self.inside.done.dropped; files = c.self.inside.done.files; instances = c.self.inside.done.instances }) c.args.self.now c.self.view_is (sym c.replace.ensures.value ∙ c.in-Copying.is) c.requires.quiet) (λ e. let k : (stage.Copying c.in-Copying.work) ≡ stage.First = e in cc k) c.requires.ready).1

pub copy_or_switch-requires-clause-quiet : goal.copy_or_switch-requires-clause-quiet
copy_or_switch-requires-clause-quiet g c = ap (λ (v : PurgeValue). v.did) c.self.view_is ∙ c.requires.quiet

pub returns-in-Copying-clause-step : goal.returns-in-Copying-clause-step
returns-in-Copying-clause-step g c = subst (λ (v : PurgeValue). IsPurgeStep v c.copy_or_switch.new.self c.copy_or_switch.result c.args.store.now c.copy_or_switch.new.store (g.D.Disk.history c.args.store.now.disk) (g.D.Disk.history c.copy_or_switch.new.store.disk) (g.D.Disk.faults c.args.store.now.disk) (g.D.Disk.faults c.copy_or_switch.new.store.disk)) (stage_is (stage.Copying c.in-Copying.work) (record { stage = c.self.inside.stage; did = c.self.inside.did; dropped = c.self.inside.done.dropped; files = c.self.inside.done.files; instances = c.self.inside.done.instances }) c.args.self.now c.self.view_is (sym c.replace.ensures.value ∙ c.in-Copying.is) c.requires.quiet) c.copy_or_switch.ensures.step

pub returns-in-Copying-clause-left : goal.returns-in-Copying-clause-left
returns-in-Copying-clause-left g c more = subst (λ (v : PurgeValue). LeavesLess v c.copy_or_switch.new.self c.args.store.now c.copy_or_switch.new.store) (stage_is (stage.Copying c.in-Copying.work) (record { stage = c.self.inside.stage; did = c.self.inside.did; dropped = c.self.inside.done.dropped; files = c.self.inside.done.files; instances = c.self.inside.done.instances }) c.args.self.now c.self.view_is (sym c.replace.ensures.value ∙ c.in-Copying.is) c.requires.quiet) (c.copy_or_switch.ensures.left more)

pub remove_switched-requires-clause-ready : goal.remove_switched-requires-clause-ready
remove_switched-requires-clause-ready g c = (ready_at (stage.Removing c.in-Removing.work) (record { stage = c.self.inside.stage; did = c.self.inside.did; dropped = c.self.inside.done.dropped; files = c.self.inside.done.files; instances = c.self.inside.done.instances }) c.args.self.now c.args.store.now (g.D.Disk.history c.args.store.now.disk) (stage_is (stage.Removing c.in-Removing.work) (record { stage = c.self.inside.stage; did = c.self.inside.did; dropped = c.self.inside.done.dropped; files = c.self.inside.done.files; instances = c.self.inside.done.instances }) c.args.self.now c.self.view_is (sym c.replace.ensures.value ∙ c.in-Removing.is) c.requires.quiet) (λ e. let k : (stage.Removing c.in-Removing.work) ≡ stage.First = e in cc k) c.requires.ready).0

pub remove_switched-requires-clause-low : goal.remove_switched-requires-clause-low
remove_switched-requires-clause-low g c = (ready_at (stage.Removing c.in-Removing.work) (record { stage = c.self.inside.stage; did = c.self.inside.did; dropped = c.self.inside.done.dropped; files = c.self.inside.done.files; instances = c.self.inside.done.instances }) c.args.self.now c.args.store.now (g.D.Disk.history c.args.store.now.disk) (stage_is (stage.Removing c.in-Removing.work) (record { stage = c.self.inside.stage; did = c.self.inside.did; dropped = c.self.inside.done.dropped; files = c.self.inside.done.files; instances = c.self.inside.done.instances }) c.args.self.now c.self.view_is (sym c.replace.ensures.value ∙ c.in-Removing.is) c.requires.quiet) (λ e. let k : (stage.Removing c.in-Removing.work) ≡ stage.First = e in cc k) c.requires.ready).1

pub remove_switched-requires-clause-quiet : goal.remove_switched-requires-clause-quiet
remove_switched-requires-clause-quiet g c = ap (λ (v : PurgeValue). v.did) c.self.view_is ∙ c.requires.quiet

pub returns-in-Removing-clause-step : goal.returns-in-Removing-clause-step
returns-in-Removing-clause-step g c = subst (λ (v : PurgeValue). IsPurgeStep v c.remove_switched.new.self c.remove_switched.result c.args.store.now c.remove_switched.new.store (g.D.Disk.history c.args.store.now.disk) (g.D.Disk.history c.remove_switched.new.store.disk) (g.D.Disk.faults c.args.store.now.disk) (g.D.Disk.faults c.remove_switched.new.store.disk)) (stage_is (stage.Removing c.in-Removing.work) (record { stage = c.self.inside.stage; did = c.self.inside.did; dropped = c.self.inside.done.dropped; files = c.self.inside.done.files; instances = c.self.inside.done.instances }) c.args.self.now c.self.view_is (sym c.replace.ensures.value ∙ c.in-Removing.is) c.requires.quiet) c.remove_switched.ensures.step

pub returns-in-Removing-clause-left : goal.returns-in-Removing-clause-left
returns-in-Removing-clause-left g c more = subst (λ (v : PurgeValue). LeavesLess v c.remove_switched.new.self c.args.store.now c.remove_switched.new.store) (stage_is (stage.Removing c.in-Removing.work) (record { stage = c.self.inside.stage; did = c.self.inside.did; dropped = c.self.inside.done.dropped; files = c.self.inside.done.files; instances = c.self.inside.done.instances }) c.args.self.now c.self.view_is (sym c.replace.ensures.value ∙ c.in-Removing.is) c.requires.quiet) (c.remove_switched.ensures.left more)

pub remove_instance-requires-clause-low : goal.remove_instance-requires-clause-low
remove_instance-requires-clause-low g c = (ready_at stage.Instances (record { stage = c.self.inside.stage; did = c.self.inside.did; dropped = c.self.inside.done.dropped; files = c.self.inside.done.files; instances = c.self.inside.done.instances }) c.args.self.now c.args.store.now (g.D.Disk.history c.args.store.now.disk) (stage_is stage.Instances (record { stage = c.self.inside.stage; did = c.self.inside.did; dropped = c.self.inside.done.dropped; files = c.self.inside.done.files; instances = c.self.inside.done.instances }) c.args.self.now c.self.view_is (sym c.replace.ensures.value ∙ c.in-Instances.is) c.requires.quiet) (λ e. let k : stage.Instances ≡ stage.First = e in cc k) c.requires.ready).1

pub remove_instance-requires-clause-quiet : goal.remove_instance-requires-clause-quiet
remove_instance-requires-clause-quiet g c = ap (λ (v : PurgeValue). v.did) c.self.view_is ∙ c.requires.quiet

pub returns-in-Instances-clause-step : goal.returns-in-Instances-clause-step
returns-in-Instances-clause-step g c = subst (λ (v : PurgeValue). IsPurgeStep v c.remove_instance.new.self c.remove_instance.result c.args.store.now c.remove_instance.new.store (g.D.Disk.history c.args.store.now.disk) (g.D.Disk.history c.remove_instance.new.store.disk) (g.D.Disk.faults c.args.store.now.disk) (g.D.Disk.faults c.remove_instance.new.store.disk)) (stage_is stage.Instances (record { stage = c.self.inside.stage; did = c.self.inside.did; dropped = c.self.inside.done.dropped; files = c.self.inside.done.files; instances = c.self.inside.done.instances }) c.args.self.now c.self.view_is (sym c.replace.ensures.value ∙ c.in-Instances.is) c.requires.quiet) c.remove_instance.ensures.step

pub returns-in-Instances-clause-left : goal.returns-in-Instances-clause-left
returns-in-Instances-clause-left g c more = subst (λ (v : PurgeValue). LeavesLess v c.remove_instance.new.self c.args.store.now c.remove_instance.new.store) (stage_is stage.Instances (record { stage = c.self.inside.stage; did = c.self.inside.did; dropped = c.self.inside.done.dropped; files = c.self.inside.done.files; instances = c.self.inside.done.instances }) c.args.self.now c.self.view_is (sym c.replace.ensures.value ∙ c.in-Instances.is) c.requires.quiet) (c.remove_instance.ensures.left more)

pub returns-in-First-clause-drops : goal.returns-in-First-clause-drops
returns-in-First-clause-drops g c = subst (λ (v : PurgeValue). DropsCounted v c.begin.new.self c.args.store.now c.begin.new.store) (stage_is stage.First (record { stage = c.self.inside.stage; did = c.self.inside.did; dropped = c.self.inside.done.dropped; files = c.self.inside.done.files; instances = c.self.inside.done.instances }) c.args.self.now c.self.view_is (sym c.replace.ensures.value ∙ c.in-First.is) c.requires.quiet) c.begin.ensures.drops

pub returns-in-First-clause-counts : goal.returns-in-First-clause-counts
returns-in-First-clause-counts g c = subst (λ (v : PurgeValue). TellsCounts v c.begin.new.self c.begin.result) c.self.view_is c.begin.ensures.counts

pub returns-in-Begin-clause-drops : goal.returns-in-Begin-clause-drops
returns-in-Begin-clause-drops g c = subst (λ (v : PurgeValue). DropsCounted v c.begin_file.new.self c.args.store.now c.begin_file.new.store) (stage_is (stage.Begin c.in-Begin.work) (record { stage = c.self.inside.stage; did = c.self.inside.did; dropped = c.self.inside.done.dropped; files = c.self.inside.done.files; instances = c.self.inside.done.instances }) c.args.self.now c.self.view_is (sym c.replace.ensures.value ∙ c.in-Begin.is) c.requires.quiet) c.begin_file.ensures.drops

pub returns-in-Begin-clause-counts : goal.returns-in-Begin-clause-counts
returns-in-Begin-clause-counts g c = subst (λ (v : PurgeValue). TellsCounts v c.begin_file.new.self c.begin_file.result) c.self.view_is c.begin_file.ensures.counts

pub returns-in-Copying-clause-drops : goal.returns-in-Copying-clause-drops
returns-in-Copying-clause-drops g c = subst (λ (v : PurgeValue). DropsCounted v c.copy_or_switch.new.self c.args.store.now c.copy_or_switch.new.store) (stage_is (stage.Copying c.in-Copying.work) (record { stage = c.self.inside.stage; did = c.self.inside.did; dropped = c.self.inside.done.dropped; files = c.self.inside.done.files; instances = c.self.inside.done.instances }) c.args.self.now c.self.view_is (sym c.replace.ensures.value ∙ c.in-Copying.is) c.requires.quiet) c.copy_or_switch.ensures.drops

pub returns-in-Copying-clause-counts : goal.returns-in-Copying-clause-counts
returns-in-Copying-clause-counts g c = subst (λ (v : PurgeValue). TellsCounts v c.copy_or_switch.new.self c.copy_or_switch.result) c.self.view_is c.copy_or_switch.ensures.counts

pub returns-in-Removing-clause-drops : goal.returns-in-Removing-clause-drops
returns-in-Removing-clause-drops g c = subst (λ (v : PurgeValue). DropsCounted v c.remove_switched.new.self c.args.store.now c.remove_switched.new.store) (stage_is (stage.Removing c.in-Removing.work) (record { stage = c.self.inside.stage; did = c.self.inside.did; dropped = c.self.inside.done.dropped; files = c.self.inside.done.files; instances = c.self.inside.done.instances }) c.args.self.now c.self.view_is (sym c.replace.ensures.value ∙ c.in-Removing.is) c.requires.quiet) c.remove_switched.ensures.drops

pub returns-in-Removing-clause-counts : goal.returns-in-Removing-clause-counts
returns-in-Removing-clause-counts g c = subst (λ (v : PurgeValue). TellsCounts v c.remove_switched.new.self c.remove_switched.result) c.self.view_is c.remove_switched.ensures.counts

pub returns-in-Instances-clause-drops : goal.returns-in-Instances-clause-drops
returns-in-Instances-clause-drops g c = subst (λ (v : PurgeValue). DropsCounted v c.remove_instance.new.self c.args.store.now c.remove_instance.new.store) (stage_is stage.Instances (record { stage = c.self.inside.stage; did = c.self.inside.did; dropped = c.self.inside.done.dropped; files = c.self.inside.done.files; instances = c.self.inside.done.instances }) c.args.self.now c.self.view_is (sym c.replace.ensures.value ∙ c.in-Instances.is) c.requires.quiet) c.remove_instance.ensures.drops

pub returns-in-Instances-clause-counts : goal.returns-in-Instances-clause-counts
returns-in-Instances-clause-counts g c = subst (λ (v : PurgeValue). TellsCounts v c.remove_instance.new.self c.remove_instance.result) c.self.view_is c.remove_instance.ensures.counts

pub returns-in-First-clause-quiet : goal.returns-in-First-clause-quiet
returns-in-First-clause-quiet g c = subst (λ (v : PurgeValue). KeepsQuiet v c.begin.new.self c.begin.result c.args.store.now c.begin.new.store (g.D.Disk.history c.args.store.now.disk) (g.D.Disk.history c.begin.new.store.disk)) (stage_is stage.First (record { stage = c.self.inside.stage; did = c.self.inside.did; dropped = c.self.inside.done.dropped; files = c.self.inside.done.files; instances = c.self.inside.done.instances }) c.args.self.now c.self.view_is (sym c.replace.ensures.value ∙ c.in-First.is) c.requires.quiet) c.begin.ensures.quiet

pub returns-in-Begin-clause-quiet : goal.returns-in-Begin-clause-quiet
returns-in-Begin-clause-quiet g c = subst (λ (v : PurgeValue). KeepsQuiet v c.begin_file.new.self c.begin_file.result c.args.store.now c.begin_file.new.store (g.D.Disk.history c.args.store.now.disk) (g.D.Disk.history c.begin_file.new.store.disk)) (stage_is (stage.Begin c.in-Begin.work) (record { stage = c.self.inside.stage; did = c.self.inside.did; dropped = c.self.inside.done.dropped; files = c.self.inside.done.files; instances = c.self.inside.done.instances }) c.args.self.now c.self.view_is (sym c.replace.ensures.value ∙ c.in-Begin.is) c.requires.quiet) c.begin_file.ensures.quiet

pub returns-in-Copying-clause-quiet : goal.returns-in-Copying-clause-quiet
returns-in-Copying-clause-quiet g c = subst (λ (v : PurgeValue). KeepsQuiet v c.copy_or_switch.new.self c.copy_or_switch.result c.args.store.now c.copy_or_switch.new.store (g.D.Disk.history c.args.store.now.disk) (g.D.Disk.history c.copy_or_switch.new.store.disk)) (stage_is (stage.Copying c.in-Copying.work) (record { stage = c.self.inside.stage; did = c.self.inside.did; dropped = c.self.inside.done.dropped; files = c.self.inside.done.files; instances = c.self.inside.done.instances }) c.args.self.now c.self.view_is (sym c.replace.ensures.value ∙ c.in-Copying.is) c.requires.quiet) c.copy_or_switch.ensures.quiet

pub returns-in-Removing-clause-quiet : goal.returns-in-Removing-clause-quiet
returns-in-Removing-clause-quiet g c = subst (λ (v : PurgeValue). KeepsQuiet v c.remove_switched.new.self c.remove_switched.result c.args.store.now c.remove_switched.new.store (g.D.Disk.history c.args.store.now.disk) (g.D.Disk.history c.remove_switched.new.store.disk)) (stage_is (stage.Removing c.in-Removing.work) (record { stage = c.self.inside.stage; did = c.self.inside.did; dropped = c.self.inside.done.dropped; files = c.self.inside.done.files; instances = c.self.inside.done.instances }) c.args.self.now c.self.view_is (sym c.replace.ensures.value ∙ c.in-Removing.is) c.requires.quiet) c.remove_switched.ensures.quiet

pub returns-in-Instances-clause-quiet : goal.returns-in-Instances-clause-quiet
returns-in-Instances-clause-quiet g c = subst (λ (v : PurgeValue). KeepsQuiet v c.remove_instance.new.self c.remove_instance.result c.args.store.now c.remove_instance.new.store (g.D.Disk.history c.args.store.now.disk) (g.D.Disk.history c.remove_instance.new.store.disk)) (stage_is stage.Instances (record { stage = c.self.inside.stage; did = c.self.inside.did; dropped = c.self.inside.done.dropped; files = c.self.inside.done.files; instances = c.self.inside.done.instances }) c.args.self.now c.self.view_is (sym c.replace.ensures.value ∙ c.in-Instances.is) c.requires.quiet) c.remove_instance.ensures.quiet
