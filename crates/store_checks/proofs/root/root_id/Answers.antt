use Rattle.std.proofs.Common.{◌≡◌, true, false, sym, ◌∙◌}
use Rattle.store_checks.proofs.RootHeadLemmas.{no_entry, has_id}
use Rattle.store_checks.proofs.root.root_id.Goals as goal

pub returns-then-branch-clause-refused : goal.returns-then-branch-clause-refused
returns-then-branch-clause-refused g c = no_entry c.in_ok-front.field-0 c.in-Some.front _ c.in-Some.is (c.in_ok-has_no_entry.ensures.0 c.if-branch.true) c.in_ok-front.ensures.front

pub returns-clause-found : goal.returns-clause-found
returns-clause-found g c = has_id c.in_ok-front.field-0 c.in-Some.front _ _ c.in-Some.is (λ none. let e : false ≡ true = sym c.if-branch.false ∙ c.in_ok-has_no_entry.ensures.1 none in cc e) c.id_in.ensures c.in_ok-front.ensures.front
