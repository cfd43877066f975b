use Rattle.store_core.proofs.Common.{◌≡◌, ◌≤◌, ◌*◌, take, count_by, sum_by, bytes_eq}
use Rattle.store_core.proofs.store.listed_in_all.Given as goal

abbrev pub invariant-loop-open_box : goal.invariant-loop-open_box
invariant-loop-open_box l =
    (l.count ≡ sum_by (λ b. count_by (λ row. bytes_eq row.guid l.guid.0) b.index.meaning.rows) (take l.open_box-index l.boxes)) × (l.count ≤ l.open_box-index * 4294967296)
