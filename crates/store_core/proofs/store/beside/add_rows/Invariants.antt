use Rattle.store_core.proofs.Common.{◌+◌, length, take, number_beside, in_rows, StandBeside}
use Rattle.store_core.proofs.store.beside.add_rows.Given as goal

-- the rows so far are counted
abbrev pub invariant-loop-row : goal.invariant-loop-row
invariant-loop-row l = StandBeside (λ uid. number_beside uid l.map.meaning.records l.fn.sums.items + in_rows uid (take (length l.yielded) l.index.meaning.rows)) l.map.meaning.records l.sums.items
