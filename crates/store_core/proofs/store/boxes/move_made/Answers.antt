use Rattle.store_core.proofs.Common.{sym}
use Rattle.store_core.proofs.MadeLogLemmas.{has_found}
use Rattle.store_core.proofs.store.boxes.move_made.Goals as goal

pub unreachable-requires : goal.unreachable-requires
unreachable-requires c = has_found c.args.number.0 c.args.made.now.items c.requires.there (sym c.in-None.ensures.taken)

pub returns-clause-moved : goal.returns-clause-moved
returns-clause-moved c = (c.in-Some.open_box, sym c.in-Some.ensures.taken, c.push_reserved.ensures.items)
