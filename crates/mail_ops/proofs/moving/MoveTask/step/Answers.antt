use Rattle.mail_ops.proofs.Common.{refl, sym, ◌∙◌, ap, due_claims, fall}
use Rattle.mail_ops.proofs.MoveStepLemmas.{move_known_by, move_ready, move_stopped}
use Rattle.mail_ops.proofs.OnlyLogsLemmas.{halted_keeps}
use Rattle.mail_ops.specs.Moving.{move_dues}
use Rattle.mail_ops.proofs.EndedLemmas.{move_ended}
use Rattle.mail_ops.proofs.LeavingLemmas.{move_leaves_by}
use Rattle.mail_ops.proofs.moving.MoveTask.step.Goals as goal

pub returns-then-stopped-clause-does : goal.returns-then-stopped-clause-does
returns-then-stopped-clause-does g c = move_stopped _ _ c.args.store.now (g.D.Disk.history c.args.store.now.disk) (g.D.Disk.faults c.args.store.now.disk) c.self.view_is (sym c.stopped.ensures ∙ c.if-stopped.true)

pub returns-then-stopped-clause-keeps : goal.returns-then-stopped-clause-keeps
returns-then-stopped-clause-keeps g c = halted_keeps _ _ _ c.args.store.now _ _ (sym c.stopped.ensures ∙ c.if-stopped.true) (ap (λ v. v.stage) c.self.view_is) refl

pub next_event-next-requires-clause-ready : goal.next_event-next-requires-clause-ready
next_event-next-requires-clause-ready g c = move_ready _ _ c.replace-now.result c.args.store.now c.self.view_is (sym c.replace-now.ensures.value) (c.requires.ready (sym c.stopped.ensures ∙ c.if-stopped.false))

pub returns-clause-ready : goal.returns-clause-ready
returns-clause-ready g c = λ runs. (move_known_by g.D.Disk.history g.D.Disk.faults _ _ c.replace-now.result c.next_event-next.result.0 c.next_event-next.result.1 c.next_event-next.result.2 c.args.store.now c.next_event-next.new.store c.self.view_is (sym c.replace-now.ensures.value) c.facts.ensures.store (sym c.stopped.ensures ∙ c.if-stopped.false) c.facts.ensures.end (move_ready _ _ c.replace-now.result c.args.store.now c.self.view_is (sym c.replace-now.ensures.value) (c.requires.ready (sym c.stopped.ensures ∙ c.if-stopped.false))) c.next_event-next.ensures).ready

pub returns-clause-does : goal.returns-clause-does
returns-clause-does g c = (move_known_by g.D.Disk.history g.D.Disk.faults _ _ c.replace-now.result c.next_event-next.result.0 c.next_event-next.result.1 c.next_event-next.result.2 c.args.store.now c.next_event-next.new.store c.self.view_is (sym c.replace-now.ensures.value) c.facts.ensures.store (sym c.stopped.ensures ∙ c.if-stopped.false) c.facts.ensures.end (move_ready _ _ c.replace-now.result c.args.store.now c.self.view_is (sym c.replace-now.ensures.value) (c.requires.ready (sym c.stopped.ensures ∙ c.if-stopped.false))) c.next_event-next.ensures).does

pub returns-clause-keeps : goal.returns-clause-keeps
returns-clause-keeps g c = (move_known_by g.D.Disk.history g.D.Disk.faults _ _ c.replace-now.result c.next_event-next.result.0 c.next_event-next.result.1 c.next_event-next.result.2 c.args.store.now c.next_event-next.new.store c.self.view_is (sym c.replace-now.ensures.value) c.facts.ensures.store (sym c.stopped.ensures ∙ c.if-stopped.false) c.facts.ensures.end (move_ready _ _ c.replace-now.result c.args.store.now c.self.view_is (sym c.replace-now.ensures.value) (c.requires.ready (sym c.stopped.ensures ∙ c.if-stopped.false))) c.next_event-next.ensures).keeps

pub returns-clause-left : goal.returns-clause-left
returns-clause-left g c = (move_known_by g.D.Disk.history g.D.Disk.faults _ _ c.replace-now.result c.next_event-next.result.0 c.next_event-next.result.1 c.next_event-next.result.2 c.args.store.now c.next_event-next.new.store c.self.view_is (sym c.replace-now.ensures.value) c.facts.ensures.store (sym c.stopped.ensures ∙ c.if-stopped.false) c.facts.ensures.end (move_ready _ _ c.replace-now.result c.args.store.now c.self.view_is (sym c.replace-now.ensures.value) (c.requires.ready (sym c.stopped.ensures ∙ c.if-stopped.false))) c.next_event-next.ensures).left

pub returns-clause-replies : goal.returns-clause-replies
returns-clause-replies g c = λ ran. (move_known_by g.D.Disk.history g.D.Disk.faults _ _ c.replace-now.result c.next_event-next.result.0 c.next_event-next.result.1 c.next_event-next.result.2 c.args.store.now c.next_event-next.new.store c.self.view_is (sym c.replace-now.ensures.value) c.facts.ensures.store (sym c.stopped.ensures ∙ c.if-stopped.false) c.facts.ensures.end (move_ready _ _ c.replace-now.result c.args.store.now c.self.view_is (sym c.replace-now.ensures.value) (c.requires.ready (sym c.stopped.ensures ∙ c.if-stopped.false))) c.next_event-next.ensures).replies

pub returns-then-stopped-clause-claims : goal.returns-then-stopped-clause-claims
returns-then-stopped-clause-claims g c = λ runs. absurd (fall _ (sym c.stopped.ensures ∙ c.if-stopped.true) runs)

pub returns-clause-claims : goal.returns-clause-claims
returns-clause-claims g c = λ runs.
    let k = (move_known_by g.D.Disk.history g.D.Disk.faults _ _ c.replace-now.result c.next_event-next.result.0 c.next_event-next.result.1 c.next_event-next.result.2 c.args.store.now c.next_event-next.new.store c.self.view_is (sym c.replace-now.ensures.value) c.facts.ensures.store (sym c.stopped.ensures ∙ c.if-stopped.false) c.facts.ensures.end (move_ready _ _ c.replace-now.result c.args.store.now c.self.view_is (sym c.replace-now.ensures.value) (c.requires.ready (sym c.stopped.ensures ∙ c.if-stopped.false))) c.next_event-next.ensures) in
    record {
      moves = due_claims (move_dues c.args.self.now.stage) (move_dues c.next_event-next.result.0) c.args.store.now c.next_event-next.new.store k.moves.due k.keeps.rest;
      leaves = move_leaves_by g.D.Disk.history _ _ c.replace-now.result c.next_event-next.result.0 c.next_event-next.result.1 c.next_event-next.result.2 c.args.store.now c.next_event-next.new.store _ _ c.self.view_is (sym c.replace-now.ensures.value) c.facts.ensures.store runs c.next_event-next.ensures;
      ended = λ given is. move_ended _ _ _ c.replace-now.result c.next_event-next.result.0 c.next_event-next.result.1 c.next_event-next.result.2 c.args.store.now c.next_event-next.new.store _ _ _ _ given c.next_event-next.ensures is runs;
    }
