use Rattle.std.proofs.Common.{◌++◌, sym, ◌∙◌, ap}
use Rattle.std.specs.Option.{option_copied}
use Rattle.std.proofs.lemmas.Result.{on_ok_weaker}
use Rattle.mdbox_top.proofs.BackLemmas.{told_line, told_there}
use Rattle.mdbox_top.proofs.BoxesLemmas.{no_name_there}
use Rattle.mdbox_top.proofs.back.push_told.Goals as goal

pub unreachable-requires-in_default-box_name : goal.unreachable-requires-in_default-box_name
unreachable-requires-in_default-box_name c =
    no_name_there c.args.checked.now.map.meaning c.args.place c.in-Some.at c.known_facts.ensures.boxes.rising (sym c.in-Some.is ∙ c.box_at.ensures) (sym (ap (λ o. option_copied o) c.in_default-box_name.is) ∙ c.box_name.ensures)

pub returns : goal.returns
returns c = on_ok_weaker c.push_all-3.result
    (λ given. told_there c.args.checked.now.map.meaning c.args.checked.now.boxes c.args.place c.in-Some.at c.in-Some-box_name.name.now c.in-Some-at.mailbox.now c.length.result c.args.text.now c.push_all-3.new.self c.known_facts.ensures.boxes.rising
    (sym c.in-Some.is ∙ c.box_at.ensures) (sym (ap (λ o. option_copied o) c.in-Some-box_name.is) ∙ c.box_name.ensures) c.in-Some-at.ensures.some c.length.ensures
    (told_line c.args.text.now c.push_all.new.self c.push_all-2.new.self c.push_decimal.new.out c.push_all-3.new.self c.in-Some-box_name.name.now c.length.result
    (c.in_ok-push_all.ensures.ok ∙ ap (λ t. c.args.text.now ++ t) c.as_octets.ensures.same) c.in_ok-push_all-2.ensures.ok c.in_ok-push_decimal.ensures.ok given)) c.push_all-3.ensures.ok
