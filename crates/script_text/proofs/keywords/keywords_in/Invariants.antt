use Rattle.std.proofs.Common.{length}
use Rattle.script_text.proofs.RowLemmas.{IsLeftOf}
use Rattle.script_text.proofs.keywords.keywords_in.Given as goal

-- the keywords so far, and what is left of the text
abbrev pub invariant-loop-words : goal.invariant-loop-words
invariant-loop-words l = IsLeftOf l.text l.before l.left l.many

abbrev pub decreases-loop-words : goal.decreases-loop-words
decreases-loop-words l = length l.left
