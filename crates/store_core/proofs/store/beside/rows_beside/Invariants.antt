use Rattle.store_core.proofs.Common.{◌≤◌, ◌*◌, ℕ, take, in_boxes, StandBeside}
use Rattle.store_core.proofs.store.beside.rows_beside.Given as goal

-- the rows of the mailboxes so far are counted
abbrev pub invariant-loop-open_box : goal.invariant-loop-open_box
invariant-loop-open_box l =
    StandBeside (λ uid. in_boxes uid (take l.open_box-index l.boxes)) l.map.meaning.records l.sums.items × ((uid : ℕ) → in_boxes uid (take l.open_box-index l.boxes) ≤ l.open_box-index * 1000000)
