use Rattle.std.proofs.Common.{◌≡◌, ◌++◌, ◌∷◌, length, take}
use Rattle.mdbox_base.specs.Numbers.{decimal_text}
use Rattle.script_text.specs.Reading.{each_spaced}
use Rattle.script_text.proofs.write.push_keywords.Given as goal

-- the number and the keywords so far are written
abbrev pub invariant-loop-word : goal.invariant-loop-word
invariant-loop-word l = l.text ≡ l.fn.text ++ 32 ∷ (decimal_text (length l.words) ++ each_spaced (take l.word-index l.words))
