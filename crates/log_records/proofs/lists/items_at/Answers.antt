use Rattle.log_records.proofs.ListItemLemmas.{too_short}
use Rattle.std.proofs.Common.{◌<◌, length, arith}
use Rattle.log_records.proofs.lists.items_at.Goals as goal

pub returns-in_default : goal.returns-in_default
returns-in_default g c =
    let lt : length c.loop.items < c.args.count = omega (arith, c.loop.invariant.1, c.loop-test.true) in
    too_short g.T.Item.item_text g.T.Item.in_range g.T.Item.SIZE g.met.T.Item.sized c.args.text.now c.loop.items c.loop.rest.now c.args.count c.loop.invariant.0 c.loop.invariant.2 lt c.in_default.ensures
