use Rattle.mail_ops.proofs.Common.{refl, sym, ◌∙◌, ap, due_claims, fall}
use Rattle.mail_ops.proofs.CopyStepLemmas.{copy_known_by, copy_ready, copy_stopped}
use Rattle.mail_ops.proofs.OnlyLogsLemmas.{halted_keeps}
use Rattle.mail_ops.specs.Copy.{copy_dues}
use Rattle.mail_ops.proofs.EndedLemmas.{copy_ended}
use Rattle.mail_ops.proofs.LeavingLemmas.{copy_leaves_by}
use Rattle.mail_ops.proofs.copy.CopyTask.step.Goals as goal

pub returns-then-stopped-clause-does : goal.returns-then-stopped-clause-does
returns-then-stopped-clause-does g c = copy_stopped _ _ c.args.store.now (g.D.Disk.history c.args.store.now.disk) (g.D.Disk.faults c.args.store.now.disk) c.self.view_is (sym c.stopped.ensures ∙ c.if-stopped.true)

pub returns-then-stopped-clause-keeps : goal.returns-then-stopped-clause-keeps
returns-then-stopped-clause-keeps g c = halted_keeps _ _ _ c.args.store.now _ _ (sym c.stopped.ensures ∙ c.if-stopped.true) (ap (λ v. v.stage) c.self.view_is) refl

pub next_event-next-requires-clause-ready : goal.next_event-next-requires-clause-ready
next_event-next-requires-clause-ready g c = copy_ready _ _ c.replace-now.result c.args.store.now c.self.view_is (sym c.replace-now.ensures.value) (c.requires.ready (sym c.stopped.ensures ∙ c.if-stopped.false))

pub returns-clause-ready : goal.returns-clause-ready
returns-clause-ready g c = λ runs. (copy_known_by g.D.Disk.history g.D.Disk.faults _ _ c.replace-now.result c.next_event-next.result.0 c.next_event-next.result.1 c.next_event-next.result.2 c.args.store.now c.next_event-next.new.store c.self.view_is (sym c.replace-now.ensures.value) c.facts.ensures.store (sym c.stopped.ensures ∙ c.if-stopped.false) c.facts.ensures.end (copy_ready _ _ c.replace-now.result c.args.store.now c.self.view_is (sym c.replace-now.ensures.value) (c.requires.ready (sym c.stopped.ensures ∙ c.if-stopped.false))) c.next_event-next.ensures).ready

pub returns-clause-does : goal.returns-clause-does
returns-clause-does g c = (copy_known_by g.D.Disk.history g.D.Disk.faults _ _ c.replace-now.result c.next_event-next.result.0 c.next_event-next.result.1 c.next_event-next.result.2 c.args.store.now c.next_event-next.new.store c.self.view_is (sym c.replace-now.ensures.value) c.facts.ensures.store (sym c.stopped.ensures ∙ c.if-stopped.false) c.facts.ensures.end (copy_ready _ _ c.replace-now.result c.args.store.now c.self.view_is (sym c.replace-now.ensures.value) (c.requires.ready (sym c.stopped.ensures ∙ c.if-stopped.false))) c.next_event-next.ensures).does

pub returns-clause-keeps : goal.returns-clause-keeps
returns-clause-keeps g c = (copy_known_by g.D.Disk.history g.D.Disk.faults _ _ c.replace-now.result c.next_event-next.result.0 c.next_event-next.result.1 c.next_event-next.result.2 c.args.store.now c.next_event-next.new.store c.self.view_is (sym c.replace-now.ensures.value) c.facts.ensures.store (sym c.stopped.ensures ∙ c.if-stopped.false) c.facts.ensures.end (copy_ready _ _ c.replace-now.result c.args.store.now c.self.view_is (sym c.replace-now.ensures.value) (c.requires.ready (sym c.stopped.ensures ∙ c.if-stopped.false))) c.next_event-next.ensures).keeps

pub returns-clause-left : goal.returns-clause-left
returns-clause-left g c = (copy_known_by g.D.Disk.history g.D.Disk.faults _ _ c.replace-now.result c.next_event-next.result.0 c.next_event-next.result.1 c.next_event-next.result.2 c.args.store.now c.next_event-next.new.store c.self.view_is (sym c.replace-now.ensures.value) c.facts.ensures.store (sym c.stopped.ensures ∙ c.if-stopped.false) c.facts.ensures.end (copy_ready _ _ c.replace-now.result c.args.store.now c.self.view_is (sym c.replace-now.ensures.value) (c.requires.ready (sym c.stopped.ensures ∙ c.if-stopped.false))) c.next_event-next.ensures).left

pub returns-clause-replies : goal.returns-clause-replies
returns-clause-replies g c = λ ran. (copy_known_by g.D.Disk.history g.D.Disk.faults _ _ c.replace-now.result c.next_event-next.result.0 c.next_event-next.result.1 c.next_event-next.result.2 c.args.store.now c.next_event-next.new.store c.self.view_is (sym c.replace-now.ensures.value) c.facts.ensures.store (sym c.stopped.ensures ∙ c.if-stopped.false) c.facts.ensures.end (copy_ready _ _ c.replace-now.result c.args.store.now c.self.view_is (sym c.replace-now.ensures.value) (c.requires.ready (sym c.stopped.ensures ∙ c.if-stopped.false))) c.next_event-next.ensures).replies

pub returns-then-stopped-clause-claims : goal.returns-then-stopped-clause-claims
returns-then-stopped-clause-claims g c = λ runs. absurd (fall _ (sym c.stopped.ensures ∙ c.if-stopped.true) runs)

pub returns-clause-claims : goal.returns-clause-claims
returns-clause-claims g c = λ runs.
    let k = (copy_known_by g.D.Disk.history g.D.Disk.faults _ _ c.replace-now.result c.next_event-next.result.0 c.next_event-next.result.1 c.next_event-next.result.2 c.args.store.now c.next_event-next.new.store c.self.view_is (sym c.replace-now.ensures.value) c.facts.ensures.store (sym c.stopped.ensures ∙ c.if-stopped.false) c.facts.ensures.end (copy_ready _ _ c.replace-now.result c.args.store.now c.self.view_is (sym c.replace-now.ensures.value) (c.requires.ready (sym c.stopped.ensures ∙ c.if-stopped.false))) c.next_event-next.ensures) in
    record {
      moves = due_claims (copy_dues c.args.self.now.stage) (copy_dues c.next_event-next.result.0) c.args.store.now c.next_event-next.new.store k.moves.due k.keeps.rest;
      leaves = copy_leaves_by g.D.Disk.history _ _ c.replace-now.result c.next_event-next.result.0 c.next_event-next.result.1 c.next_event-next.result.2 c.args.store.now c.next_event-next.new.store _ _ c.self.view_is (sym c.replace-now.ensures.value) c.facts.ensures.store runs c.next_event-next.ensures;
      ended = λ given is. copy_ended _ _ _ c.replace-now.result c.next_event-next.result.0 c.next_event-next.result.1 c.next_event-next.result.2 c.args.store.now c.next_event-next.new.store _ _ _ _ given c.next_event-next.ensures is runs;
    }
