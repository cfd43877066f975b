use Rattle.mail_ops.proofs.Common.{◌≡◌, map}
use Rattle.mail_ops.proofs.RowLemmas.{row_shown}
use Rattle.mail_ops.proofs.listing.rows_of.Given as goal

abbrev pub invariant-loop-row : goal.invariant-loop-row
invariant-loop-row l = l.rows.items ≡ map row_shown l.yielded
