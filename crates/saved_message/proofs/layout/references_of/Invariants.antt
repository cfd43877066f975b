use Rattle.std.proofs.Common.{◌≡◌, map, take}
use Rattle.saved_message.specs.Region.{reference_to, unknown_id}
use Rattle.saved_message.proofs.layout.references_of.Given as goal

abbrev pub invariant-loop-part : goal.invariant-loop-part
invariant-loop-part l = l.refs.items ≡ map (λ d. reference_to d unknown_id) (take l.part-index l.parts)
