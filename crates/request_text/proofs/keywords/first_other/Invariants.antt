use Rattle.std.proofs.Common.{ℕ, ◌<◌, map, string_bytes}
use Rattle.mdbox_base.specs.Keywords.{IsKeyword}
use Rattle.request_text.specs.GivenWords.{text_at}
use Rattle.request_text.proofs.keywords.first_other.Given as goal

-- the words so far are keywords
abbrev pub invariant-loop-place : goal.invariant-loop-place
invariant-loop-place l = (earlier : ℕ) → earlier < l.place → IsKeyword (text_at (map string_bytes l.words) earlier)
