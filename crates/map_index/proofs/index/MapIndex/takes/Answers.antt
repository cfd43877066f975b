use Rattle.map_index.specs.Has.{HasRoom}
use Rattle.map_index.proofs.index.MapIndex.takes.Goals as goal

pub returns-then-is_other : goal.returns-then-is_other
unfolding HasRoom
returns-then-is_other c = (
  (λ h. let a = c.is_other.ensures.0 c.if-is_other.true in let b = c.fit_apart.ensures.0 h in (a.0, a.1, b.0, b.1)),
  (λ p. c.fit_apart.ensures.1 (p.2, p.3)),
)
