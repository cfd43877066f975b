use Rattle.store_core.proofs.Common.{◌≡◌, ◌-◌, take, length, change_beside}
use Rattle.std.proofs.Common.{fold}
use Rattle.store_core.proofs.due.lower_dues.Given as goal

-- the numbers after the map uids so far
abbrev pub invariant-loop-uid : goal.invariant-loop-uid
invariant-loop-uid l = record {
  so_far : l.dues.items ≡ fold (λ numbers uid. change_beside uid.0 (λ n. n - 1) l.map.meaning.records numbers) l.fn.dues.items (take l.uid-index l.uids);
  size : length l.dues.items ≡ length l.map.meaning.records;
}
