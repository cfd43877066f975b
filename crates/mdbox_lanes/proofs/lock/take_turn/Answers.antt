use Rattle.std.proofs.Common.{false, ◌∙◌}
use Rattle.mdbox_lanes.proofs.lock.take_turn.Goals as goal

pub give-requires-clause-charter : goal.give-requires-clause-charter
give-requires-clause-charter g c = c.take-world.ensures.same.1 tt false c.take-world.ensures.charter

pub returns-clause-same : goal.returns-clause-same
returns-clause-same g c =
    let given = c.give.ensures.same in
    let taken = c.take-world.ensures.same in
    (given.0 ∙ taken.0, λ charter finished under. given.1 charter finished (taken.1 charter finished under))
