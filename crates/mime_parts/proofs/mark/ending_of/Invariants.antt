use Rattle.std.proofs.Common.{◌≡◌, ◌≤◌, ◌-◌, length, take, false}
use Rattle.std.specs.List.{list_any}
use Rattle.model_mime.specs.Parts.{ends_part}
use Rattle.mime_parts.proofs.mark.ending_of.Given as goal

abbrev pub invariant-loop-i : goal.invariant-loop-i
invariant-loop-i l = record { within : l.i ≤ length l.stack; none : list_any (λ b. ends_part b l.text) (take l.i l.stack) ≡ false }

abbrev pub decreases-loop-i : goal.decreases-loop-i
decreases-loop-i l = length l.stack - l.i
