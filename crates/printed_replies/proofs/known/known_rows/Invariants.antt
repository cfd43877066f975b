use Rattle.std.proofs.Common.{ℕ, ◌<◌, slice_index_or}
use Rattle.mdbox_base.specs.declared.replies.ListRow.{ListRow}
use Rattle.printed_replies.specs.PrintedReplies.{RowHasWords}
use Rattle.printed_replies.proofs.known.known_rows.Given as goal

abbrev pub invariant-loop-row : goal.invariant-loop-row
invariant-loop-row l = (k : ℕ) (d : ListRow) → k < l.row-index → RowHasWords (slice_index_or l.rows k d)
