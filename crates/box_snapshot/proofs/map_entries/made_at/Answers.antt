use Rattle.std.proofs.Common.{◌∙◌, sym, ap, List, Some, ℕ}
use Rattle.std.specs.Option.{option_copied}
use Rattle.mdbox_base.specs.declared.entries.MapEntry.TheVariants.{B}
use Rattle.box_snapshot.proofs.MapEntryLemmas.{box_there, made_there, name_there}
use Rattle.box_snapshot.proofs.map_entries.made_at.Goals as goal

pub unwrap-name-requires : goal.unwrap-name-requires
unwrap-name-requires c =
    let boxes = c.args.index.now.meaning.boxes in
    let t = box_there boxes c.args.place c.box_at.result c.unwrap-at.result c.known_facts.ensures.boxes.rising c.requires c.box_at.ensures c.unwrap-at.ensures in
    name_there boxes c.args.place c.unwrap-at.result c.box_name.result t c.box_name.ensures

pub returns : goal.returns
returns c =
    let boxes = c.args.index.now.meaning.boxes in
    let t = box_there boxes c.args.place c.box_at.result c.unwrap-at.result c.known_facts.ensures.boxes.rising c.requires c.box_at.ensures c.unwrap-at.ensures in
    made_there boxes c.args.place c.unwrap-at.result c.unwrap-name.result.now t (sym (ap option_copied c.unwrap-name.ensures) ∙ c.box_name.ensures) ∙ ap (λ (name : List ℕ). Some (B c.unwrap-at.result.number c.unwrap-at.result.generation name)) (sym c.in_ok-copied_name.ensures)
