use Rattle.mail_ops.proofs.Common.{refl, sym, ◌∙◌, ap, due_claims, fall}
use Rattle.mail_ops.proofs.ExpungeStepLemmas.{expunge_known, stopped_known}
use Rattle.mail_ops.proofs.OnlyLogsLemmas.{halted_keeps}
use Rattle.mail_ops.specs.Expunging.{expunge_dues}
use Rattle.mail_ops.proofs.EndedLemmas.{expunge_ended}
use Rattle.mail_ops.proofs.LeavingLemmas.{expunge_leaves_by}
use Rattle.mail_ops.proofs.expunging.ExpungeTask.step.Goals as goal

pub returns-then-stopped-clause-does : goal.returns-then-stopped-clause-does
returns-then-stopped-clause-does g c = stopped_known _ _ c.args.store.now (g.D.Disk.history c.args.store.now.disk) (g.D.Disk.faults c.args.store.now.disk) c.self.view_is (sym c.stopped.ensures ∙ c.if-stopped.true)

pub returns-then-stopped-clause-keeps : goal.returns-then-stopped-clause-keeps
returns-then-stopped-clause-keeps g c = halted_keeps _ _ _ c.args.store.now _ _ (sym c.stopped.ensures ∙ c.if-stopped.true) (ap (λ v. v.stage) c.self.view_is) refl

pub returns-clause-due : goal.returns-clause-due
returns-clause-due g c = λ runs. (expunge_known g.D.Disk.history g.D.Disk.faults _ _ c.replace-now.result c.next_event-next.result.0 c.next_event-next.result.1 c.next_event-next.result.2 c.args.store.now c.next_event-next.new.store c.self.view_is (sym c.replace-now.ensures.value) c.facts.ensures.store (sym c.stopped.ensures ∙ c.if-stopped.false) (c.requires.due (sym c.stopped.ensures ∙ c.if-stopped.false)) c.next_event-next.ensures).due

pub returns-clause-does : goal.returns-clause-does
returns-clause-does g c = (expunge_known g.D.Disk.history g.D.Disk.faults _ _ c.replace-now.result c.next_event-next.result.0 c.next_event-next.result.1 c.next_event-next.result.2 c.args.store.now c.next_event-next.new.store c.self.view_is (sym c.replace-now.ensures.value) c.facts.ensures.store (sym c.stopped.ensures ∙ c.if-stopped.false) (c.requires.due (sym c.stopped.ensures ∙ c.if-stopped.false)) c.next_event-next.ensures).does

pub returns-clause-keeps : goal.returns-clause-keeps
returns-clause-keeps g c = (expunge_known g.D.Disk.history g.D.Disk.faults _ _ c.replace-now.result c.next_event-next.result.0 c.next_event-next.result.1 c.next_event-next.result.2 c.args.store.now c.next_event-next.new.store c.self.view_is (sym c.replace-now.ensures.value) c.facts.ensures.store (sym c.stopped.ensures ∙ c.if-stopped.false) (c.requires.due (sym c.stopped.ensures ∙ c.if-stopped.false)) c.next_event-next.ensures).keeps

pub returns-clause-replies : goal.returns-clause-replies
returns-clause-replies g c = λ ran. (expunge_known g.D.Disk.history g.D.Disk.faults _ _ c.replace-now.result c.next_event-next.result.0 c.next_event-next.result.1 c.next_event-next.result.2 c.args.store.now c.next_event-next.new.store c.self.view_is (sym c.replace-now.ensures.value) c.facts.ensures.store (sym c.stopped.ensures ∙ c.if-stopped.false) (c.requires.due (sym c.stopped.ensures ∙ c.if-stopped.false)) c.next_event-next.ensures).replies

pub returns-clause-left : goal.returns-clause-left
returns-clause-left g c = (expunge_known g.D.Disk.history g.D.Disk.faults _ _ c.replace-now.result c.next_event-next.result.0 c.next_event-next.result.1 c.next_event-next.result.2 c.args.store.now c.next_event-next.new.store c.self.view_is (sym c.replace-now.ensures.value) c.facts.ensures.store (sym c.stopped.ensures ∙ c.if-stopped.false) (c.requires.due (sym c.stopped.ensures ∙ c.if-stopped.false)) c.next_event-next.ensures).left

pub returns-then-stopped-clause-claims : goal.returns-then-stopped-clause-claims
returns-then-stopped-clause-claims g c = λ runs. absurd (fall _ (sym c.stopped.ensures ∙ c.if-stopped.true) runs)

pub returns-clause-claims : goal.returns-clause-claims
returns-clause-claims g c = λ runs.
    let k = (expunge_known g.D.Disk.history g.D.Disk.faults _ _ c.replace-now.result c.next_event-next.result.0 c.next_event-next.result.1 c.next_event-next.result.2 c.args.store.now c.next_event-next.new.store c.self.view_is (sym c.replace-now.ensures.value) c.facts.ensures.store (sym c.stopped.ensures ∙ c.if-stopped.false) (c.requires.due (sym c.stopped.ensures ∙ c.if-stopped.false)) c.next_event-next.ensures) in
    record {
      moves = due_claims (expunge_dues c.args.self.now.stage) (expunge_dues c.next_event-next.result.0) c.args.store.now c.next_event-next.new.store k.moves.due k.keeps.rest;
      leaves = expunge_leaves_by g.D.Disk.history _ _ c.replace-now.result c.next_event-next.result.0 c.next_event-next.result.1 c.next_event-next.result.2 c.args.store.now c.next_event-next.new.store _ _ c.self.view_is (sym c.replace-now.ensures.value) c.facts.ensures.store runs c.next_event-next.ensures;
      ended = λ given is. expunge_ended _ _ c.replace-now.result c.next_event-next.result.0 c.next_event-next.result.1 c.next_event-next.result.2 c.args.store.now c.next_event-next.new.store _ _ _ _ given c.next_event-next.ensures is runs;
    }
