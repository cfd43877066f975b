use Rattle.std.proofs.Common.{◌≡◌, length}
use Rattle.mime_fields.specs.Alone.{is_alone}
use Rattle.mime_fields.proofs.value.Value.is_alone.Given as goal

abbrev pub invariant-loop-first : goal.invariant-loop-first
invariant-loop-first l = is_alone l.self l.left ≡ is_alone l.fn.self l.fn.word

abbrev pub decreases-loop-first : goal.decreases-loop-first
decreases-loop-first l = length l.left
