use Rattle.std.proofs.Common.{◌∙◌}
use Rattle.box_snapshot.proofs.DueLemmas.{map_due_by}
use Rattle.box_snapshot.proofs.due.map_due.Goals as goal

pub returns : goal.returns
returns g c =
    map_due_by c.args.store.now _ c.is_log_due.result _ _ _ _ c.map_generation.result _ c.facts.ensures.store c.map-map.ensures c.map_entries.ensures (c.from.ensures ∙ c.boxes.ensures) (c.from-2.ensures ∙ c.rows.ensures) (c.from-3.ensures ∙ c.sealed.ensures)
    c.map_generation.ensures c.is_log_due.ensures
