use Rattle.std.proofs.Common.{◌≡◌, ◌++◌, ◌+◌, ◌*◌, length, take}
use Rattle.std.specs.List.{flat_map}
use Rattle.log_records.proofs.lists.put_items.Given as goal

abbrev pub invariant-loop-item : goal.invariant-loop-item
invariant-loop-item g l =
    (l.end ≡ l.place + g.T.Item.SIZE * l.item-index)
    × (take l.end l.into ≡ take l.place l.fn.into ++ flat_map g.T.Item.item_text (take l.item-index l.items))
    × (length l.into ≡ length l.fn.into)
