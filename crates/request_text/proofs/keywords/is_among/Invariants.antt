use Rattle.std.proofs.Common.{◌≡◌, ℕ, ◌<◌, map, string_bytes, get_or}
use Rattle.request_text.specs.GivenWords.{text_at}
use Rattle.request_text.proofs.keywords.is_among.Given as goal

-- the word stands at none of the places so far
abbrev pub invariant-loop-other : goal.invariant-loop-other
invariant-loop-other l = (k : ℕ) → k < l.other-index → text_at (map string_bytes l.words) (get_or l.places k 0) ≡ text_at (map string_bytes l.words) l.place → ⊥
