use Rattle.store_core.proofs.Common.{ap}
use Rattle.store_core.proofs.EntryRoomLemmas.{others_roomier}
use Rattle.store_core.proofs.box_draft.extend_in.Goals as goal

pub returns-in_err-extend-clause-others_stay : goal.returns-in_err-extend-clause-others_stay
returns-in_err-extend-clause-others_stay g c = λ memory.
    others_roomier c.args.open_box.now.log c.take_extension.new.open_box.log _ _ (ap (λ b. b.log) c.take_extension.ensures.same) c.extend.ensures.others_stay

pub returns-clause-others_stay : goal.returns-clause-others_stay
returns-clause-others_stay g c = λ memory.
    others_roomier c.args.open_box.now.log c.take_extension.new.open_box.log _ _ (ap (λ b. b.log) c.take_extension.ensures.same) c.extend.ensures.others_stay
