use Rattle.resync_task.proofs.Common.{sym, ◌∙◌, ap, fall}
use Rattle.resync_task.specs.Task.{ResyncValue, stage_of}
use Rattle.resync_task.proofs.StepLemmas.{resync_known, stopped_keeps, stopped_known}
use Rattle.resync_task.proofs.task.ResyncTask.step.Goals as goal

pub returns-then-stopped-clause-does : goal.returns-then-stopped-clause-does
returns-then-stopped-clause-does g c = stopped_known _ _ c.args.store.now (g.D.Disk.history c.args.store.now.disk) (g.D.Disk.faults c.args.store.now.disk) (ap (λ (v : ResyncValue). v.stage) c.self.view_is) c.self.invariant (sym c.stopped.ensures ∙ c.if-stopped.true)

pub returns-then-stopped-clause-on : goal.returns-then-stopped-clause-on
returns-then-stopped-clause-on g c = λ runs. absurd (fall _ (sym c.stopped.ensures ∙ c.if-stopped.true) runs)

pub returns-then-stopped-clause-keeps : goal.returns-then-stopped-clause-keeps
returns-then-stopped-clause-keeps g c = stopped_keeps _ _ c.args.store.now _ _ (ap (λ (v : ResyncValue). v.stage) c.self.view_is) (sym c.stopped.ensures ∙ c.if-stopped.true)

pub returns-then-stopped-clause-claims : goal.returns-then-stopped-clause-claims
returns-then-stopped-clause-claims g c = λ runs. absurd (fall _ (sym c.stopped.ensures ∙ c.if-stopped.true) runs)

pub returns-clause-does : goal.returns-clause-does
returns-clause-does g c = (resync_known g.D.Disk.history g.D.Disk.faults (stage_of c.replace-now.result) _ (stage_of c.next_event-next.result.0) c.next_event-next.result.1 c.next_event-next.result.2 c.args.store.now c.next_event-next.new.store (ap stage_of c.replace-now.ensures.value ∙ ap (λ (v : ResyncValue). v.stage) c.self.view_is) c.facts.ensures.store (sym c.stopped.ensures ∙ c.if-stopped.false) c.next_event-next.ensures.on).does

pub returns-clause-exact : goal.returns-clause-exact
returns-clause-exact g c = (resync_known g.D.Disk.history g.D.Disk.faults (stage_of c.replace-now.result) _ (stage_of c.next_event-next.result.0) c.next_event-next.result.1 c.next_event-next.result.2 c.args.store.now c.next_event-next.new.store (ap stage_of c.replace-now.ensures.value ∙ ap (λ (v : ResyncValue). v.stage) c.self.view_is) c.facts.ensures.store (sym c.stopped.ensures ∙ c.if-stopped.false) c.next_event-next.ensures.on).exact

pub returns-clause-keeps : goal.returns-clause-keeps
returns-clause-keeps g c = (resync_known g.D.Disk.history g.D.Disk.faults (stage_of c.replace-now.result) _ (stage_of c.next_event-next.result.0) c.next_event-next.result.1 c.next_event-next.result.2 c.args.store.now c.next_event-next.new.store (ap stage_of c.replace-now.ensures.value ∙ ap (λ (v : ResyncValue). v.stage) c.self.view_is) c.facts.ensures.store (sym c.stopped.ensures ∙ c.if-stopped.false) c.next_event-next.ensures.on).keeps

pub returns-clause-claims : goal.returns-clause-claims
returns-clause-claims g c = (resync_known g.D.Disk.history g.D.Disk.faults (stage_of c.replace-now.result) _ (stage_of c.next_event-next.result.0) c.next_event-next.result.1 c.next_event-next.result.2 c.args.store.now c.next_event-next.new.store (ap stage_of c.replace-now.ensures.value ∙ ap (λ (v : ResyncValue). v.stage) c.self.view_is) c.facts.ensures.store (sym c.stopped.ensures ∙ c.if-stopped.false) c.next_event-next.ensures.on).claims

pub returns-clause-left : goal.returns-clause-left
returns-clause-left g c = (resync_known g.D.Disk.history g.D.Disk.faults (stage_of c.replace-now.result) _ (stage_of c.next_event-next.result.0) c.next_event-next.result.1 c.next_event-next.result.2 c.args.store.now c.next_event-next.new.store (ap stage_of c.replace-now.ensures.value ∙ ap (λ (v : ResyncValue). v.stage) c.self.view_is) c.facts.ensures.store (sym c.stopped.ensures ∙ c.if-stopped.false) c.next_event-next.ensures.on).left
