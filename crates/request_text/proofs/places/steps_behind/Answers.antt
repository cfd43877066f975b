use Rattle.std.proofs.Common.{refl, sym, arith, take}
use Rattle.request_text.proofs.OrderLemmas.{none_told, steps_on}
use Rattle.request_text.proofs.places.steps_behind.Goals as goal

pub loop-at-init : goal.loop-at-init
loop-at-init c = record { within = c.requires.within; steps_are = sym (none_told c.args.request (take c.args.before c.args.journal.now) c.requires.own) }

pub loop-at-preserved : goal.loop-at-preserved
loop-at-preserved c =
    let i = c.loop-at.invariant in
    let less = c.loop-at-test.true in
    record { within = omega (arith, less); steps_are = steps_on c.args.journal.now c.loop-at.at _ _ c.args.request c.loop-at.steps c.noted-steps.result less refl i.steps_are c.noted-steps.ensures }
