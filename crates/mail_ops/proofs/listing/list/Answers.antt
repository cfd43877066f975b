use Rattle.mail_ops.proofs.Common.{ap, sym, ◌∙◌, subst, refl, option_copied, option_map, BoxState, Reply, First, PartAnswers, indexes_of, never_more, plain_stopped, seen_of}
use Rattle.mdbox_base.specs.declared.replies.Refusal.TheVariants as refusal
use Rattle.mdbox_base.specs.declared.replies.Reply.TheVariants as reply
use Rattle.mdbox_base.specs.declared.requests.Request.TheVariants as request
use Rattle.model_store.specs.Listing.{listing_of}
use Rattle.task_steps.proofs.OneEventLemmas.{plain_forgets, plain_refused}
use Rattle.mail_ops.proofs.ListEventLemmas.{list_is_plain, does_list}
use Rattle.mail_ops.proofs.listing.list.Goals as goal

pub returns-then-stopped-clause-does : goal.returns-then-stopped-clause-does
returns-then-stopped-clause-does g c = λ around after pins run lane place said lists come shows stage. (
  plain_stopped around after run lane place said _ lists (seen_of pins c.args.store.now (g.D.Disk.history c.args.store.now.disk) (g.D.Disk.faults c.args.store.now.disk)) (list_is_plain c.args.name.now) come shows stage (sym c.stopped.ensures ∙ c.if-stopped.true),
  λ e. absurd (never_more _ e),
)

pub returns-in_default-clause-does : goal.returns-in_default-clause-does
returns-in_default-clause-does g c = λ around after pins run lane place said lists come shows stage. (
  plain_refused around after run lane place said _ lists (seen_of pins c.args.store.now (g.D.Disk.history c.args.store.now.disk) (g.D.Disk.faults c.args.store.now.disk)) refusal.NoMailbox (list_is_plain c.args.name.now) come shows stage (sym c.stopped.ensures ∙ c.if-stopped.false) refl refl
      (λ event. subst (λ (r : Reply). PartAnswers run event lists (request.List c.args.name.now) First r lists) (ap listing_of (sym c.list_of.ensures ∙ ap (λ o. option_map (λ (i : BoxState). i.meaning) (option_copied o)) c.in_default.is)) (c.listings_are_answered.ensures run event c.args.store.now.map.boxes (indexes_of c.args.store.now.boxes) lists c.args.name.now shows.1)),
  λ e. absurd (never_more _ e),
)

pub returns-in-Ok-clause-does : goal.returns-in-Ok-clause-does
returns-in-Ok-clause-does g c = λ around after pins run lane place said lists come shows stage. (
  does_list around after run lane place said c.args.name.now lists (seen_of pins c.args.store.now (g.D.Disk.history c.args.store.now.disk) (g.D.Disk.faults c.args.store.now.disk)) c.in-Ok.rows come shows stage (sym c.stopped.ensures ∙ c.if-stopped.false)
      (λ event. subst (λ (r : Reply). PartAnswers run event lists (request.List c.args.name.now) First r lists) (ap listing_of (sym c.list_of.ensures ∙ ap (λ o. option_map (λ (i : BoxState). i.meaning) (option_copied o)) c.in-Some.is) ∙ ap reply.Listed (sym (c.in-Ok.ensures))) (c.listings_are_answered.ensures run event c.args.store.now.map.boxes (indexes_of c.args.store.now.boxes) lists c.args.name.now shows.1)),
  λ e. absurd (never_more _ e),
)

pub returns-in-Err-clause-does : goal.returns-in-Err-clause-does
returns-in-Err-clause-does g c = λ around after pins run lane place said lists come shows stage. (
  plain_forgets around after run lane place said _ lists (seen_of pins c.args.store.now (g.D.Disk.history c.args.store.now.disk) (g.D.Disk.faults c.args.store.now.disk)) (list_is_plain c.args.name.now) come shows stage (sym c.stopped.ensures ∙ c.if-stopped.false),
  λ e. absurd (never_more _ e),
)
