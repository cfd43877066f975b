use Rattle.std.proofs.Common.{◌≡◌, ◌++◌, length}
use Rattle.std.specs.List.{flat_map, AllByRecursion}
use Rattle.log_records.proofs.lists.items_at.Given as goal

abbrev pub invariant-loop : goal.invariant-loop
invariant-loop g l = (l.text ≡ flat_map g.T.Item.item_text l.items ++ l.rest) × (length l.items ≡ l.counter) × AllByRecursion g.T.Item.in_range l.items
