use Rattle.std.proofs.Common.{◌≡◌, take, map, string_bytes}
use Rattle.request_text.proofs.keywords.texts_of.Given as goal

-- the words so far are copied
abbrev pub invariant-loop-word : goal.invariant-loop-word
invariant-loop-word l = l.texts ≡ map string_bytes (take l.word-index l.words)
