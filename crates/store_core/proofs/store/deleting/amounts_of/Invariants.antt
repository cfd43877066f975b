use Rattle.store_core.proofs.AmountsLemmas.{Counting}
use Rattle.store_core.proofs.store.deleting.amounts_of.Given as goal

-- the map uids so far are counted
abbrev pub invariant-loop-uid : goal.invariant-loop-uid
invariant-loop-uid l = Counting l.uids l.uid-index l.amounts.items
