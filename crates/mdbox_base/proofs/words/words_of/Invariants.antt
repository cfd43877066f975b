use Rattle.std.proofs.Common.{take}
use Rattle.mdbox_base.proofs.WordPlaceLemmas.{AreSoFar}
use Rattle.mdbox_base.proofs.words.words_of.Given as goal

abbrev pub invariant-loop-text : goal.invariant-loop-text
invariant-loop-text l = AreSoFar (take l.text-index l.texts) l.words.items
