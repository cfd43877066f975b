use Rattle.std.proofs.Common.{◌≡◌, length, map, take}
use Rattle.model_storage.specs.References.{reference_text}
use Rattle.saved_message.specs.Region.{reference_to, unknown_id}
use Rattle.saved_message.proofs.layout.sizes_of.Given as goal

abbrev pub invariant-loop-part : goal.invariant-loop-part
invariant-loop-part l = l.sizes.items ≡ map (λ d. length (reference_text (reference_to d unknown_id))) (take l.part-index l.parts)
