use Rattle.mail_save.proofs.Common.{All, take, RowInRange}
use Rattle.mail_save.proofs.record.known_rows.Given as goal

abbrev pub invariant-loop-row : goal.invariant-loop-row
invariant-loop-row l = All RowInRange (take l.row-index l.rows)
