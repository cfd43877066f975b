use Rattle.store_core.proofs.Common.{◌≢◌, List, All, sym, ◌∙◌, subst, OpenBox}
use Rattle.store_core.proofs.MadeLogLemmas.{all_left, none_found}
use Rattle.store_core.proofs.MadeCallLemmas.{taken_at}
use Rattle.store_core.proofs.store.boxes.take_made.Goals as goal

pub returns-in-Some-clause-taken : goal.returns-in-Some-clause-taken
returns-in-Some-clause-taken c = (taken_at c.args.number.0 c.in-Some.place c.args.made.now.items c.deref.result.now c.remove.result c.deref.ensures.value c.in-Some.ensures.some c.requires.apart c.remove.ensures.value).1

pub returns-in-Some-clause-left : goal.returns-in-Some-clause-left
returns-in-Some-clause-left c = c.remove.ensures.items ∙ (taken_at c.args.number.0 c.in-Some.place c.args.made.now.items c.deref.result.now c.remove.result c.deref.ensures.value c.in-Some.ensures.some c.requires.apart c.remove.ensures.value).0

pub returns-in-None-clause-taken : goal.returns-in-None-clause-taken
returns-in-None-clause-taken c = sym (none_found c.args.number.0 c.args.made.now.items (subst (λ (bs : List OpenBox). All (λ (b : OpenBox). b.number.0 ≢ c.args.number.0) bs) c.deref.ensures.value c.in-None.ensures.none))

pub returns-in-None-clause-left : goal.returns-in-None-clause-left
returns-in-None-clause-left c = sym (all_left c.args.number.0 c.args.made.now.items (subst (λ (bs : List OpenBox). All (λ (b : OpenBox). b.number.0 ≢ c.args.number.0) bs) c.deref.ensures.value c.in-None.ensures.none))
