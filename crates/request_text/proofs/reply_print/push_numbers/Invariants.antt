use Rattle.std.proofs.Common.{◌≡◌, ◌++◌, take}
use Rattle.request_text.specs.ReplyText.{numbers_text}
use Rattle.request_text.proofs.reply_print.push_numbers.Given as goal

-- the numbers so far are added
abbrev pub invariant-loop-number : goal.invariant-loop-number
invariant-loop-number l = l.text ≡ l.fn.text ++ numbers_text (take l.number-index l.numbers)
