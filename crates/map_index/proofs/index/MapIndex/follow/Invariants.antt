use Rattle.map_index.proofs.Common.{◌+◌, ◌≤◌, All, AllPairs, ArePlacedApart}
use Rattle.std.proofs.Common.{take}
use Rattle.model_meaning.specs.MapFits.{size_at}
use Rattle.map_index.proofs.index.MapIndex.follow.Given as goal

-- the regions so far are apart, and have ended
abbrev pub invariant-loop-place : goal.invariant-loop-place
invariant-loop-place l =
    All (λ p. p.offset + size_at l.self.meaning p.uid.0 ≤ l.end) (take l.place-index l.moved) × AllPairs (ArePlacedApart l.self.meaning) (take l.place-index l.moved)
