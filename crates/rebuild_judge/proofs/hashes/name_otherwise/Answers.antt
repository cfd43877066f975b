use Rattle.std.proofs.Common.{sym, ◌∙◌, ap}
use Rattle.std.proofs.lemmas.List.{nil_from_length}
use Rattle.model_taken.specs.NamedInstances.{names_otherwise}
use Rattle.rebuild_judge.proofs.HashLemmas.{names_on, names_yes}
use Rattle.rebuild_judge.proofs.hashes.name_otherwise.Goals as goal

pub returns-then-is_named_otherwise : goal.returns-then-is_named_otherwise
returns-then-is_named_otherwise c = λ named are. sym (c.loop-first.invariant named are ∙ names_yes named c.loop-first.rest.now c.in-Some.others.now c.in-Some.first.now c.is_named_otherwise.result c.in-Some.ensures.cases.0 (c.is_named_otherwise.ensures named are) c.if-is_named_otherwise.true)

pub loop-first-preserved : goal.loop-first-preserved
loop-first-preserved c = λ named are. c.loop-first.invariant named are ∙ names_on named c.loop-first.rest.now c.in-Some.others.now c.in-Some.first.now c.is_named_otherwise.result c.in-Some.ensures.cases.0 (c.is_named_otherwise.ensures named are) c.if-is_named_otherwise.false

pub returns : goal.returns
returns c = λ named are. sym (c.loop-first.invariant named are ∙ ap (names_otherwise named) (nil_from_length c.loop-first.rest.now c.in_default.ensures.cases))
