use Rattle.std.proofs.Common.{sym, ◌∙◌, ap}
use Rattle.tests.proofs.RaceLemmas.{one_makes, two_makes, was_running}
use Rattle.tests.proofs.tasks.makes.Makes.turn.Goals as goal

pub invariant_of-self : goal.invariant_of-self
invariant_of-self g c = λ runs.
    one_makes c.self.inside.one.stage c.step.new.self.stage c.self.inside.two.stage c.self.inside.store c.step.new.store _ _ (c.step.ensures.ready runs) (c.step.ensures.claims runs).moves (c.step.ensures.claims runs).leaves
    (c.self.invariant (was_running c.self.inside.store.stopped c.step.new.store.stopped (λ up. ap (λ s. s.stopped) (c.step.ensures.keeps.still up).0 ∙ up) runs))

pub invariant_of-self-in-Two : goal.invariant_of-self-in-Two
invariant_of-self-in-Two g c = λ runs.
    two_makes c.self.inside.one.stage c.self.inside.two.stage c.step-in-Two.new.self.stage c.self.inside.store c.step-in-Two.new.store _ _ (c.step-in-Two.ensures.ready runs) (c.step-in-Two.ensures.claims runs).moves (c.step-in-Two.ensures.claims runs).leaves
    (c.self.invariant (was_running c.self.inside.store.stopped c.step-in-Two.new.store.stopped (λ up. ap (λ s. s.stopped) (c.step-in-Two.ensures.keeps.still up).0 ∙ up) runs))
