use Rattle.tests.proofs.RaceLemmas.{one_goes, two_goes, was_running}
use Rattle.tests.proofs.tasks.race.Race.turn.Goals as goal

pub invariant_of-self : goal.invariant_of-self
invariant_of-self g c = λ runs.
    one_goes c.self.inside.one c.step.new.self c.self.inside.two c.self.inside.store c.step.new.store _ _ (c.step.ensures.ready runs) (c.step.ensures.claims runs).moves (c.step.ensures.claims runs).leaves
    (c.self.invariant (was_running c.self.inside.store.stopped c.step.new.store.stopped c.step.ensures.still runs))

pub invariant_of-self-in-Two : goal.invariant_of-self-in-Two
invariant_of-self-in-Two g c = λ runs.
    two_goes c.self.inside.one c.self.inside.two c.step-in-Two.new.self c.self.inside.store c.step-in-Two.new.store _ _ (c.step-in-Two.ensures.ready runs) (c.step-in-Two.ensures.claims runs).moves (c.step-in-Two.ensures.claims runs).leaves
    (c.self.invariant (was_running c.self.inside.store.stopped c.step-in-Two.new.store.stopped c.step-in-Two.ensures.still runs))
