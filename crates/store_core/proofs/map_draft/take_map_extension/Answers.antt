use Rattle.store_core.proofs.DraftLemmas.{room_after_reserve}
use Rattle.store_core.proofs.map_draft.take_map_extension.Goals as goal

pub returns-clause-index : goal.returns-clause-index
returns-clause-index c = room_after_reserve c.args.entries.now c.in_ok-room_of_all.field-0 c.args.index.now c.reserve.new.self c.in_ok-room_of_all.ensures c.in_ok-reserve.ensures.ok
