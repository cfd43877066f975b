use Rattle.store_core.proofs.Common.{◌≡◌, ◌≤◌, length, take, count_by, bytes_eq}
use Rattle.store_core.proofs.store.listed_in.Given as goal

abbrev pub invariant-loop-row : goal.invariant-loop-row
invariant-loop-row l = (l.count ≡ count_by (λ row. bytes_eq row.guid l.guid.0) (take (length l.yielded) l.index.meaning.rows)) × (l.count ≤ length l.yielded)
