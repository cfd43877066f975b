use Rattle.map_index.proofs.Common.{map}
use Rattle.map_index.proofs.RisingLemmas.{RisesBelow}
use Rattle.map_index.proofs.named.rise.Given as goal

-- the map uids so far rise
abbrev pub invariant-loop-place : goal.invariant-loop-place
invariant-loop-place g l = RisesBelow (map g.T.NamesRecord.uid_of l.items) l.place
