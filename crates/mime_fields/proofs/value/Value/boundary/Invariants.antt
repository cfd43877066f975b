use Rattle.std.proofs.Common.{length}
use Rattle.mime_fields.specs.Reading.{IsSearching}
use Rattle.mime_fields.proofs.value.Value.boundary.Given as goal

abbrev pub invariant-loop-parameter : goal.invariant-loop-parameter
invariant-loop-parameter l = IsSearching l.fn.self l.self

abbrev pub decreases-loop-parameter : goal.decreases-loop-parameter
decreases-loop-parameter l = length l.self
