use Rattle.map_index.proofs.Common.{◌==◌, ◌∙◌, ap, map, rules, MapBox, box_of, Mailbox}
use Rattle.std.proofs.Common.{not}
use Rattle.std.proofs.lemmas.Fn.{filter_same}
use Rattle.map_index.proofs.DerivedListLemmas.{filter-map}
use Rattle.map_index.proofs.changes.remove.Goals as goal

pub returns-clause-boxes : goal.returns-clause-boxes
returns-clause-boxes c =
    ap (map box_of) (filter_same _ (λ (b : Mailbox). not (c.args.number.0 == b.at.number.0)) _ (λ x b f' k. search rules) _ _ c.retain.ensures.filtered)
    ∙ filter-map (λ (box : MapBox). not (c.args.number.0 == box.number)) box_of c.args.boxes.now.items
