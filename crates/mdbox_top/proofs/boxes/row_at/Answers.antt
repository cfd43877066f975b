use Rattle.std.proofs.Common.{sym, ◌∙◌, ap, None}
use Rattle.std.specs.Option.{option_copied, option_map}
use Rattle.box_index.specs.State.{BoxState}
use Rattle.mail_ops.proofs.CountingLemmas.{found_there, not_listed_there}
use Rattle.mdbox_top.proofs.BoxesLemmas.{found_row, no_name_in}
use Rattle.mdbox_top.proofs.boxes.row_at.Goals as goal

pub unreachable-requires-in_default-mailbox : goal.unreachable-requires-in_default-mailbox
unreachable-requires-in_default-mailbox g c = not_listed_there _ c.args.store.now c.args.place c.facts.ensures.store c.requires
    (found_there _ c.args.store.now _ c.args.place c.in-Some.at None c.facts.ensures.store c.map-2.ensures (sym c.in-Some.is ∙ c.box_at.ensures) (sym (ap (λ o. option_map (λ (i : BoxState). i.meaning) (option_copied o)) c.in_default-mailbox.is) ∙ c.mailbox.ensures))

pub unreachable-requires-in_default-box_name : goal.unreachable-requires-in_default-box_name
unreachable-requires-in_default-box_name g c =
    no_name_in _ c.args.store.now _ _ c.args.place c.in-Some.at c.facts.ensures.store c.map-2.ensures c.map-3.ensures (sym c.in-Some.is ∙ c.box_at.ensures) (sym (ap (λ o. option_copied o) c.in_default-box_name.is) ∙ c.box_name.ensures)

pub returns : goal.returns
returns g c = found_row _ c.args.store.now _ _ c.args.place c.in-Some.at c.in-Some-mailbox.index.now.meaning c.in-Some-box_name.name.now c.row_of.result c.facts.ensures.store c.map-2.ensures c.map-3.ensures (sym c.in-Some.is ∙ c.box_at.ensures)
    (sym (ap (λ o. option_map (λ (i : BoxState). i.meaning) (option_copied o)) c.in-Some-mailbox.is) ∙ c.mailbox.ensures) (sym (ap (λ o. option_copied o) c.in-Some-box_name.is) ∙ c.box_name.ensures) c.row_of.ensures
