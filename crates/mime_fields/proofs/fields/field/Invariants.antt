use Rattle.std.proofs.Common.{◌≡◌, ◌-◌, length, drop}
use Rattle.model_mime.specs.Lines.{texts}
use Rattle.model_mime.specs.Fields.{value_of}
use Rattle.mime_fields.proofs.fields.field.Given as goal

abbrev pub invariant-loop-line : goal.invariant-loop-line
invariant-loop-line l = value_of l.fn.name (texts (drop l.at l.fn.block)) ≡ value_of l.fn.name (texts l.fn.block)

abbrev pub decreases-loop-line : goal.decreases-loop-line
decreases-loop-line l = length l.fn.block - l.at
