use Rattle.attach_detach.proofs.CutLemmas.{IsCutTo}
use Rattle.attach_detach.proofs.cut.cut.Given as goal

abbrev pub invariant-loop-leaf : goal.invariant-loop-leaf
invariant-loop-leaf l = IsCutTo l.message l.leaves l.leaf-index l.at l.parts.items l.body.items
