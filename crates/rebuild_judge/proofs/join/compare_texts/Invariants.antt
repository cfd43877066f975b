use Rattle.std.proofs.Common.{◌≡◌, ℕ, List, length, map}
use Rattle.attach_join.proofs.CheckLemmas.{AreSame}
use Rattle.rebuild_judge.proofs.join.compare_texts.Given as goal

-- the texts before are as long as they should be
abbrev pub invariant-loop-i : goal.invariant-loop-i
invariant-loop-i l = (octets : List (List ℕ)) → map length octets ≡ l.sizes → AreSame l.refs octets l.i
