use Rattle.std.proofs.Common.{sym, ◌∙◌, ap, Some, None}
use Rattle.std.specs.Option.{option_copied, option_map}
use Rattle.box_index.specs.State.{BoxState}
use Rattle.mail_ops.proofs.CountingLemmas.{found_there, not_listed_there}
use Rattle.mdbox_top.proofs.NumbersLemmas.{octets_there}
use Rattle.mdbox_top.proofs.numbers.octets_at.Goals as goal

pub unreachable-requires-in_default-mailbox : goal.unreachable-requires-in_default-mailbox
unreachable-requires-in_default-mailbox g c = not_listed_there _ c.args.store.now c.args.place c.facts.ensures.store c.requires
    (found_there _ c.args.store.now _ c.args.place c.in-Some.at None c.facts.ensures.store c.map-2.ensures (sym c.in-Some.is ∙ c.box_at.ensures) (sym (ap (λ o. option_map (λ (i : BoxState). i.meaning) (option_copied o)) c.in_default-mailbox.is) ∙ c.mailbox.ensures))

pub returns-clause-octets : goal.returns-clause-octets
returns-clause-octets g c = octets_there _ c.args.place c.octets_in.result c.in-Some-mailbox.index.now.meaning
    (found_there _ c.args.store.now _ c.args.place c.in-Some.at (Some c.in-Some-mailbox.index.now.meaning) c.facts.ensures.store c.map-2.ensures (sym c.in-Some.is ∙ c.box_at.ensures) (sym (ap (λ o. option_map (λ (i : BoxState). i.meaning) (option_copied o)) c.in-Some-mailbox.is) ∙ c.mailbox.ensures))
    c.octets_in.ensures.octets
