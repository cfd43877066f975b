use Rattle.std.proofs.Common.{◌≡◌, ◌≤◌, count_by, take}
use Rattle.request_text.specs.Outcomes.{is_no}
use Rattle.mdbox_top.proofs.numbers.refused_in.Given as goal

abbrev pub invariant-loop-answer : goal.invariant-loop-answer
invariant-loop-answer l = (l.refused ≡ count_by is_no (take l.answer-index l.replies)) × (l.refused ≤ l.answer-index)
