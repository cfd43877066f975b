use Rattle.std.proofs.Common.{◌≡◌, ◌++◌, length, All}
use Rattle.script_text.specs.Reading.{IsAtSpace, each_spaced}
use Rattle.script_text.proofs.SpacedLemmas.{HasNone}
use Rattle.script_text.proofs.keywords.texts_of.Given as goal

-- the words so far, and what is left of the text
abbrev pub invariant-loop-words : goal.invariant-loop-words
invariant-loop-words l = record {
  clear : All (HasNone 32) l.texts;
  text_is : l.text ≡ each_spaced l.texts ++ l.left;
  at : IsAtSpace l.left;
}

abbrev pub decreases-loop-words : goal.decreases-loop-words
decreases-loop-words l = length l.left
