use Rattle.std.proofs.Common.{◌≤◌, length}
use Rattle.mime_fields.specs.Reading.{IsQuoting}
use Rattle.mime_fields.proofs.value.Value.quoted.Given as goal

abbrev pub invariant-loop-octet : goal.invariant-loop-octet
invariant-loop-octet l = record { so_far : IsQuoting l.fn.self l.held l.self; less : length l.self ≤ length l.fn.self }

abbrev pub decreases-loop-octet : goal.decreases-loop-octet
decreases-loop-octet l = length l.self
