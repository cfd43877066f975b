use Rattle.map_rows.proofs.OrderLemmas.{found_first, place_first}
use Rattle.map_rows.proofs.order.first_place.Goals as goal

pub returns-in-Ok : goal.returns-in-Ok
returns-in-Ok c = found_first c.args.keys.now c.args.number c.in-Ok.place c.requires c.in-Ok.ensures.found

pub returns-in-Err : goal.returns-in-Err
returns-in-Err c = place_first c.args.keys.now c.args.number c.in-Err.place c.in-Err.ensures.absent
