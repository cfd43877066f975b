use Rattle.std.proofs.Common.{◌++◌, ◌∷◌, [], List, Option, sym, ◌∙◌, subst}
use Rattle.attach_detach.specs.declared.message.Prepared.{Prepared}
use Rattle.lanes.specs.Worlds.{AreGiven}
use Rattle.lanes.proofs.PartsLemmas.{given_last, some_given, no_items}
use Rattle.lanes.proofs.parts.last_given.Goals as goal

pub returns-in-Some-clause-given : goal.returns-in-Some-clause-given
returns-in-Some-clause-given c = λ requests lane request are.
    given_last requests (lane, request) c.pop.new.self.items c.in-Some.given (subst (λ (given : List (Option Prepared)). AreGiven (requests ++ (lane, request) ∷ []) given) c.in-Some.ensures.items are)

pub returns-in-None-clause-given : goal.returns-in-None-clause-given
returns-in-None-clause-given c = λ requests lane request are.
    let none = c.in-None.ensures.cases in
    absurd (some_given requests (lane, request) (subst (λ (given : List (Option Prepared)). AreGiven (requests ++ (lane, request) ∷ []) given) (no_items c.args.prepared.now.items (sym c.requires ∙ none.0)) are))
