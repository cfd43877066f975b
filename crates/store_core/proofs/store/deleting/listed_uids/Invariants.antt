use Rattle.store_core.proofs.Common.{◌≡◌, map, BoxRow}
use Rattle.std.specs.Borrow.{Bor}
use Rattle.store_core.proofs.store.deleting.listed_uids.Given as goal

-- the map uids of the rows so far
abbrev pub invariant-loop-row : goal.invariant-loop-row
invariant-loop-row l = l.uids.items ≡ map (λ (row : Bor BoxRow). row.now.map_uid.0) l.yielded
