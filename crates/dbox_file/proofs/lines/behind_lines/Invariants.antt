use Rattle.std.proofs.Common.{ℕ, List}
use Rattle.dbox_file.specs.declared.reading.Flaw.{Flaw}
use Rattle.dbox_file.specs.Reading.{FoundSome, Flawed}
use Rattle.dbox_file.specs.Rows.{IsRows}
use Rattle.dbox_file.proofs.lines.behind_lines.Given as goal

-- what is found or lacks behind the lines so far is found or lacks in all
abbrev pub invariant-loop-length : goal.invariant-loop-length
invariant-loop-length l =
    ((behind : List ℕ) → FoundSome (IsRows l.room) l.rest behind → FoundSome (IsRows 1048572) l.text behind)
    × ((flaw : Flaw) → Flawed (IsRows l.room) l.rest flaw → Flawed (IsRows 1048572) l.text flaw)

abbrev pub decreases-loop-length : goal.decreases-loop-length
decreases-loop-length l = l.room
