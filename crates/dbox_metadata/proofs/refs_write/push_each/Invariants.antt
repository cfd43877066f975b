use Rattle.std.proofs.Common.{◌≡◌, ◌++◌, take}
use Rattle.dbox_metadata.proofs.RefLemmas.{others_text}
use Rattle.dbox_metadata.proofs.refs_write.push_each.Given as goal

abbrev pub invariant-loop-reference : goal.invariant-loop-reference
invariant-loop-reference l = l.out ≡ l.initial.out ++ others_text (take l.reference-index l.others)
