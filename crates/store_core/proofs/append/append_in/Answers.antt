use Rattle.store_core.proofs.Common.{ap}
use Rattle.store_core.proofs.EntryLengthLemmas.{entry_short}
use Rattle.store_core.proofs.EntryRoomLemmas.{adds_roomier, others_roomier}
use Rattle.store_core.proofs.append.append_in.Goals as goal

pub take_memory-requires-clause-short : goal.take_memory-requires-clause-short
take_memory-requires-clause-short g c = entry_short c.args.open_box.now.index.meaning c.args.entry.now c.requires.range c.requires.fits

pub append_text-requires-clause-short : goal.append_text-requires-clause-short
append_text-requires-clause-short g c = entry_short c.args.open_box.now.index.meaning c.args.entry.now c.requires.range c.requires.fits

pub returns-in_err-append_text-clause-any_moment : goal.returns-in_err-append_text-clause-any_moment
returns-in_err-append_text-clause-any_moment g c = λ memory.
    adds_roomier c.args.open_box.now.log c.take_memory.new.open_box.log _ _ _ (ap (λ b. b.log) c.take_memory.ensures.same) c.append_text.ensures.any_moment

pub returns-in_err-append_text-clause-others_stay : goal.returns-in_err-append_text-clause-others_stay
returns-in_err-append_text-clause-others_stay g c = λ memory.
    others_roomier c.args.open_box.now.log c.take_memory.new.open_box.log _ _ (ap (λ b. b.log) c.take_memory.ensures.same) c.append_text.ensures.others_stay

pub returns-clause-any_moment : goal.returns-clause-any_moment
returns-clause-any_moment g c = λ memory.
    adds_roomier c.args.open_box.now.log c.take_memory.new.open_box.log _ _ _ (ap (λ b. b.log) c.take_memory.ensures.same) c.append_text.ensures.any_moment

pub returns-clause-others_stay : goal.returns-clause-others_stay
returns-clause-others_stay g c = λ memory.
    others_roomier c.args.open_box.now.log c.take_memory.new.open_box.log _ _ (ap (λ b. b.log) c.take_memory.ensures.same) c.append_text.ensures.others_stay
