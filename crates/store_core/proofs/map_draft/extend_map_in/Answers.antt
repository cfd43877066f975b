use Rattle.store_core.proofs.EntryRoomLemmas.{others_roomier}
use Rattle.store_core.proofs.map_draft.extend_map_in.Goals as goal

pub returns-in_err-extend-clause-others_stay : goal.returns-in_err-extend-clause-others_stay
returns-in_err-extend-clause-others_stay g c = λ memory. others_roomier c.args.log.now c.take_map_extension.new.log _ _ c.take_map_extension.ensures.same c.extend.ensures.others_stay

pub returns-clause-others_stay : goal.returns-clause-others_stay
returns-clause-others_stay g c = λ memory. others_roomier c.args.log.now c.take_map_extension.new.log _ _ c.take_map_extension.ensures.same c.extend.ensures.others_stay
