use Rattle.mail_ops.proofs.Common.{refl, sym, ◌∙◌, fall}
use Rattle.mail_ops.proofs.ChangeClaimLemmas.{owns_nothing, rename_changes}
use Rattle.mail_ops.proofs.OnlyLogsLemmas.{halted_keeps}
use Rattle.mail_ops.proofs.RenameStepLemmas.{rename_known_by, rename_stopped}
use Rattle.mdbox_base.specs.declared.progress.Progress.TheVariants as progress
use Rattle.mail_ops.proofs.renaming.RenameTask.step.Goals as goal

pub returns-then-stopped-clause-does : goal.returns-then-stopped-clause-does
returns-then-stopped-clause-does g c = rename_stopped _ _ c.args.store.now (g.D.Disk.history c.args.store.now.disk) (g.D.Disk.faults c.args.store.now.disk) c.self.view_is (sym c.stopped.ensures ∙ c.if-stopped.true)

pub returns-then-stopped-clause-keeps : goal.returns-then-stopped-clause-keeps
returns-then-stopped-clause-keeps g c = halted_keeps _ _ _ c.args.store.now _ _ (sym c.stopped.ensures ∙ c.if-stopped.true) refl refl

pub returns-then-stopped-clause-claims : goal.returns-then-stopped-clause-claims
returns-then-stopped-clause-claims g c = λ runs. absurd (fall _ (sym c.stopped.ensures ∙ c.if-stopped.true) runs)

pub returns-clause-does : goal.returns-clause-does
returns-clause-does g c = (rename_known_by g.D.Disk.history g.D.Disk.faults _ _ c.only_event-reply.result.0 c.only_event-reply.result.1 c.args.store.now c.only_event-reply.new.store c.self.view_is c.facts.ensures.store (sym c.stopped.ensures ∙ c.if-stopped.false) c.known_name.ensures c.only_event-reply.ensures).does

pub returns-clause-keeps : goal.returns-clause-keeps
returns-clause-keeps g c = (rename_known_by g.D.Disk.history g.D.Disk.faults _ _ c.only_event-reply.result.0 c.only_event-reply.result.1 c.args.store.now c.only_event-reply.new.store c.self.view_is c.facts.ensures.store (sym c.stopped.ensures ∙ c.if-stopped.false) c.known_name.ensures c.only_event-reply.ensures).keeps

pub returns-clause-replies : goal.returns-clause-replies
returns-clause-replies g c = λ ran. (c.only_event-reply.result.0, refl, (rename_known_by g.D.Disk.history g.D.Disk.faults _ _ c.only_event-reply.result.0 c.only_event-reply.result.1 c.args.store.now c.only_event-reply.new.store c.self.view_is c.facts.ensures.store (sym c.stopped.ensures ∙ c.if-stopped.false) c.known_name.ensures c.only_event-reply.ensures).replies)

pub returns-clause-claims : goal.returns-clause-claims
returns-clause-claims g c = λ runs.
    let k = (rename_known_by g.D.Disk.history g.D.Disk.faults _ _ c.only_event-reply.result.0 c.only_event-reply.result.1 c.args.store.now c.only_event-reply.new.store c.self.view_is c.facts.ensures.store (sym c.stopped.ensures ∙ c.if-stopped.false) c.known_name.ensures c.only_event-reply.ensures) in
    owns_nothing (progress.Done c.only_event-reply.result.0) c.args.store.now c.only_event-reply.new.store _ _ (rename_changes _ _ c.only_event-reply.result.0 c.args.store.now c.only_event-reply.new.store _ _ runs k.replies) k.keeps.rest (k.keeps.mail.left (runs ∙ sym (sym c.stopped.ensures ∙ c.if-stopped.false))) k.uids k.gone
