use Rattle.std.proofs.Common.{ap, map, ◌∙◌}
use Rattle.std.proofs.lemmas.List.{take_all}
use Rattle.saved_message.specs.Region.{reference_to, unknown_id}
use Rattle.saved_message.proofs.ReferenceLemmas.{unknown_named}
use Rattle.saved_message.proofs.layout.references_of.Goals as goal

pub returns : goal.returns
returns c = c.of.ensures ∙ (c.loop-part.invariant ∙ (ap (map (λ d. reference_to d unknown_id)) (take_all c.loop-part.part-index c.args.parts.now c.loop-part-test.false) ∙ unknown_named c.args.parts.now))
