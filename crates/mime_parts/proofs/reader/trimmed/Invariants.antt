use Rattle.std.proofs.Common.{◌≡◌, ◌≤◌, length, take}
use Rattle.model_mime.specs.Parts.{trimmed_size}
use Rattle.mime_parts.proofs.reader.trimmed.Given as goal

abbrev pub invariant-loop-end : goal.invariant-loop-end
invariant-loop-end l = record { within : l.end ≤ length l.text; same : trimmed_size l.text ≡ trimmed_size (take l.end l.text) }

abbrev pub decreases-loop-end : goal.decreases-loop-end
decreases-loop-end l = l.end
