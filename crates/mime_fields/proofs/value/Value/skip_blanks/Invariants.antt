use Rattle.std.proofs.Common.{◌≡◌, ◌≤◌, length}
use Rattle.model_mime.specs.Fields.{behind_blanks}
use Rattle.mime_fields.proofs.value.Value.skip_blanks.Given as goal

abbrev pub invariant-loop-octet : goal.invariant-loop-octet
invariant-loop-octet l = record { same : behind_blanks l.self ≡ behind_blanks l.fn.self; less : length l.self ≤ length l.fn.self }

abbrev pub decreases-loop-octet : goal.decreases-loop-octet
decreases-loop-octet l = length l.self
