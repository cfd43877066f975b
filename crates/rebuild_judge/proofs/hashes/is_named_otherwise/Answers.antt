use Rattle.rebuild_judge.proofs.HashLemmas.{or_left, or_right}
use Rattle.rebuild_judge.proofs.hashes.is_named_otherwise.Goals as goal

pub returns-then-has_other : goal.returns-then-has_other
returns-then-has_other c = λ named are. or_left c.has_other.result _ _ (c.has_other.ensures named are) c.if-has_other.true

pub returns-else-has_other : goal.returns-else-has_other
returns-else-has_other c = λ named are. or_right c.has_other.result c.any_other.result _ _ (c.has_other.ensures named are) c.if-has_other.false c.any_other.ensures
