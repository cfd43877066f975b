use Rattle.std.proofs.Common.{ℕ, length, None, false}
use Rattle.dbox_file.specs.HeaderFields.{Completes}
use Rattle.dbox_file.proofs.header_line.message_header_size.Given as goal

-- what completes the fields so far makes the text complete, and nothing else does
abbrev pub invariant-loop-rest : goal.invariant-loop-rest
invariant-loop-rest l =
    ((n : ℕ) → Completes l.told.size l.told.time l.rest n → Completes None false l.text n)
    × ((n : ℕ) → Completes None false l.text n → Completes l.told.size l.told.time l.rest n)

abbrev pub decreases-loop-rest : goal.decreases-loop-rest
decreases-loop-rest l = length l.rest
