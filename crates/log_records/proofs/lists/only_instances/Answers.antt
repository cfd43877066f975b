use Rattle.std.proofs.Common.{◌<◌, ◌≤◌, ◌^◌, length, rules}
use Rattle.model_logs.specs.Entries.{instance_row_text, RowInRange}
use Rattle.log_records.proofs.ListItemLemmas.{none_of, some_of, items_short, items_over, row_sized}
use Rattle.log_records.proofs.lists.only_instances.Goals as goal

pub returns-in_default-2 : goal.returns-in_default-2
returns-in_default-2 c =
    let fits : c.in-Some.count < 2 ^ 16 = search rules in
    items_short instance_row_text RowInRange 40 row_sized c.args.text.now c.in-Some.count c.in-Some.rest.now fits c.in-Some.ensures.0 (none_of _ _ _ c.in_default-2.is c.in_ok-items.ensures)

pub returns-then-not-is_empty : goal.returns-then-not-is_empty
returns-then-not-is_empty c =
    let fits : c.in-Some.count < 2 ^ 16 = search rules in
    let h = some_of _ _ _ _ c.in-Some-2.is c.in_ok-items.ensures in
    let some : 1 ≤ length c.in-Some-2.rest.now = search rules in
    items_over instance_row_text RowInRange 40 row_sized c.args.text.now c.in-Some-2.items c.in-Some.count c.in-Some.rest.now c.in-Some-2.rest.now fits h.1 h.2 c.in-Some.ensures.0 h.0 some
