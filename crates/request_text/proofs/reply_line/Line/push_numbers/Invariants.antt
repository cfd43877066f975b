use Rattle.std.proofs.Common.{◌≡◌, ◌≤◌, ◌+◌, ◌*◌, ◌++◌, length, take}
use Rattle.request_text.specs.ReplyText.{numbers_text}
use Rattle.request_text.proofs.reply_line.Line.push_numbers.Given as goal

-- the numbers so far are added
abbrev pub invariant-loop-number : goal.invariant-loop-number
invariant-loop-number l = (l.self ≡ l.fn.self ++ numbers_text (take l.number-index l.numbers)) × (length l.self ≤ length l.fn.self + l.number-index * 41)
