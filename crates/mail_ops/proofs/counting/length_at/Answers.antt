use Rattle.mail_ops.proofs.Common.{sym, ◌∙◌, ap, Some, None, option_copied, option_map, BoxState}
use Rattle.mail_ops.proofs.CountingLemmas.{found_there, not_listed_there, many_there}
use Rattle.mail_ops.proofs.counting.length_at.Goals as goal

pub unreachable-requires-in_default-mailbox : goal.unreachable-requires-in_default-mailbox
unreachable-requires-in_default-mailbox g c = not_listed_there _ c.args.store.now c.args.place c.facts.ensures.store c.requires
    (found_there _ c.args.store.now _ c.args.place c.in-Some.at None c.facts.ensures.store c.map-2.ensures (sym c.in-Some.is ∙ c.box_at.ensures) (sym (ap (λ o. option_map (λ (i : BoxState). i.meaning) (option_copied o)) c.in_default-mailbox.is) ∙ c.mailbox.ensures))

pub returns-clause-length : goal.returns-clause-length
returns-clause-length g c = many_there _ c.args.place c.length.result c.in-Some-mailbox.index.now.meaning
    (found_there _ c.args.store.now _ c.args.place c.in-Some.at (Some c.in-Some-mailbox.index.now.meaning) c.facts.ensures.store c.map-2.ensures (sym c.in-Some.is ∙ c.box_at.ensures) (sym (ap (λ o. option_map (λ (i : BoxState). i.meaning) (option_copied o)) c.in-Some-mailbox.is) ∙ c.mailbox.ensures))
    c.length.ensures
