use Rattle.std.proofs.Common.{◌∙◌}
use Rattle.mdbox_base.proofs.StreamLemmas.{appended_next}
use Rattle.mdbox_base.proofs.stream.give_all.Goals as goal

pub loop-given-preserved : goal.loop-given-preserved
loop-given-preserved g c =
    let next = appended_next c.args.text.now c.loop-given.given c.in_ok-given.field-0 _ _ _ c.loop-given.invariant.within c.in_ok-given.ensures.within c.loop-given.invariant.appended c.in_ok-given.ensures.octets in
    record { within = next.0; appended = next.1; quiet = c.in_ok-given.ensures.quiet ∙ c.loop-given.invariant.quiet }
