use Rattle.mail_ops.proofs.Common.{refl, sym, ◌∙◌, ap, fall}
use Rattle.mail_ops.proofs.OnlyLogsLemmas.{halted_keeps}
use Rattle.mail_ops.proofs.MakeStepLemmas.{make_known_by, make_stopped}
use Rattle.mail_ops.proofs.MakeClaimLemmas.{make_changes, make_ended, make_leaves, make_moves}
use Rattle.mail_ops.proofs.making.MakeTask.step.Goals as goal

pub returns-then-stopped-clause-does : goal.returns-then-stopped-clause-does
returns-then-stopped-clause-does g c = make_stopped _ _ c.args.store.now (g.D.Disk.history c.args.store.now.disk) (g.D.Disk.faults c.args.store.now.disk) c.self.view_is (sym c.stopped.ensures ∙ c.if-stopped.true)

pub returns-then-stopped-clause-keeps : goal.returns-then-stopped-clause-keeps
returns-then-stopped-clause-keeps g c = halted_keeps _ _ _ c.args.store.now _ _ (sym c.stopped.ensures ∙ c.if-stopped.true) (ap (λ v. v.stage) c.self.view_is) refl

pub returns-clause-ready : goal.returns-clause-ready
returns-clause-ready g c = λ runs. (make_known_by g.D.Disk.history g.D.Disk.faults _ _ c.next_event-next.result.0 c.next_event-next.result.1 c.next_event-next.result.2 c.args.store.now c.next_event-next.new.store c.self.view_is c.facts.ensures.store (sym c.stopped.ensures ∙ c.if-stopped.false) c.known_name.ensures (c.requires.ready (sym c.stopped.ensures ∙ c.if-stopped.false)) c.known_logs.ensures.made c.next_event-next.ensures).ready

pub returns-clause-does : goal.returns-clause-does
returns-clause-does g c = (make_known_by g.D.Disk.history g.D.Disk.faults _ _ c.next_event-next.result.0 c.next_event-next.result.1 c.next_event-next.result.2 c.args.store.now c.next_event-next.new.store c.self.view_is c.facts.ensures.store (sym c.stopped.ensures ∙ c.if-stopped.false) c.known_name.ensures (c.requires.ready (sym c.stopped.ensures ∙ c.if-stopped.false)) c.known_logs.ensures.made c.next_event-next.ensures).does

pub returns-clause-keeps : goal.returns-clause-keeps
returns-clause-keeps g c = (make_known_by g.D.Disk.history g.D.Disk.faults _ _ c.next_event-next.result.0 c.next_event-next.result.1 c.next_event-next.result.2 c.args.store.now c.next_event-next.new.store c.self.view_is c.facts.ensures.store (sym c.stopped.ensures ∙ c.if-stopped.false) c.known_name.ensures (c.requires.ready (sym c.stopped.ensures ∙ c.if-stopped.false)) c.known_logs.ensures.made c.next_event-next.ensures).keeps

pub returns-clause-left : goal.returns-clause-left
returns-clause-left g c = (make_known_by g.D.Disk.history g.D.Disk.faults _ _ c.next_event-next.result.0 c.next_event-next.result.1 c.next_event-next.result.2 c.args.store.now c.next_event-next.new.store c.self.view_is c.facts.ensures.store (sym c.stopped.ensures ∙ c.if-stopped.false) c.known_name.ensures (c.requires.ready (sym c.stopped.ensures ∙ c.if-stopped.false)) c.known_logs.ensures.made c.next_event-next.ensures).left

pub returns-clause-replies : goal.returns-clause-replies
returns-clause-replies g c = λ ran. (make_known_by g.D.Disk.history g.D.Disk.faults _ _ c.next_event-next.result.0 c.next_event-next.result.1 c.next_event-next.result.2 c.args.store.now c.next_event-next.new.store c.self.view_is c.facts.ensures.store (sym c.stopped.ensures ∙ c.if-stopped.false) c.known_name.ensures (c.requires.ready (sym c.stopped.ensures ∙ c.if-stopped.false)) c.known_logs.ensures.made c.next_event-next.ensures).replies

pub returns-then-stopped-clause-claims : goal.returns-then-stopped-clause-claims
returns-then-stopped-clause-claims g c = λ runs. absurd (fall _ (sym c.stopped.ensures ∙ c.if-stopped.true) runs)

pub returns-clause-claims : goal.returns-clause-claims
returns-clause-claims g c = λ runs.
    let k = (make_known_by g.D.Disk.history g.D.Disk.faults _ _ c.next_event-next.result.0 c.next_event-next.result.1 c.next_event-next.result.2 c.args.store.now c.next_event-next.new.store c.self.view_is c.facts.ensures.store (sym c.stopped.ensures ∙ c.if-stopped.false) c.known_name.ensures (c.requires.ready (sym c.stopped.ensures ∙ c.if-stopped.false)) c.known_logs.ensures.made c.next_event-next.ensures) in
    let changed = make_changes _ c.args.self.now.stage c.next_event-next.result.0 c.next_event-next.result.1 c.args.store.now c.next_event-next.new.store _ _ runs (c.requires.ready (sym c.stopped.ensures ∙ c.if-stopped.false)) k.replies in
    record {
      moves = make_moves c.args.self.now.stage c.next_event-next.result.0 c.args.store.now c.next_event-next.new.store changed k.moves k.keeps.rest;
      leaves = make_leaves c.args.self.now.stage c.next_event-next.result.0 c.args.store.now c.next_event-next.new.store _ _ changed k.moves k.keeps.rest (k.keeps.mail.left (runs ∙ sym (sym c.stopped.ensures ∙ c.if-stopped.false))) k.uids k.gone;
      ended = λ given is. make_ended _ c.args.self.now.stage c.next_event-next.result.0 c.next_event-next.result.1 c.args.store.now c.next_event-next.new.store _ _ given k.replies is runs;
    }
