use Rattle.map_index.proofs.Common.{length, AllPairs, ◌↔◌, ArePlacedApart}
use Rattle.map_index.proofs.index.MapIndex.none_overlap.Given as goal

-- the places are apart if and only if the rest is
abbrev pub invariant-loop-first : goal.invariant-loop-first
invariant-loop-first l = AllPairs (ArePlacedApart l.self.meaning) l.rest ↔ AllPairs (ArePlacedApart l.self.meaning) l.fn.moved

abbrev pub decreases-loop-first : goal.decreases-loop-first
decreases-loop-first l = length l.rest
