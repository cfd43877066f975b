use Rattle.resync_task.proofs.Common.{◌≡◌, ◌+◌, take, wrong_beside}
use Rattle.store_core.specs.Dues.{number_beside}
use Rattle.resync_task.proofs.counting.counts_unlike.Given as goal

-- the wrong counts of the records so far
abbrev pub invariant-loop-place : goal.invariant-loop-place
invariant-loop-place l = l.counts ≡ wrong_beside (λ uid. number_beside uid l.map.meaning.records l.listed + number_beside uid l.map.meaning.records l.dues) (take l.place l.map.meaning.records)
