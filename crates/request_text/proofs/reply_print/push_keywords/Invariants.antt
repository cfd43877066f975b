use Rattle.std.proofs.Common.{◌≡◌, ◌++◌, take}
use Rattle.request_text.specs.ReplyText.{keywords_text}
use Rattle.request_text.proofs.reply_print.push_keywords.Given as goal

-- the keywords so far are added
abbrev pub invariant-loop-word : goal.invariant-loop-word
invariant-loop-word l = l.text ≡ l.fn.text ++ keywords_text (take l.word-index l.words)
