use Rattle.map_index.specs.Has.{HasAmount, KnowsBox}
use Rattle.map_index.proofs.index.MapIndex.can_delete.Goals as goal

pub returns-then-has_box : goal.returns-then-has_box
unfolding HasAmount KnowsBox
returns-then-has_box c = (
  (λ h. let b = c.can_lower.ensures.0 h in record { there = c.has_box.ensures.0 c.if-has_box.true; rising = b.0; counts = b.1 }),
  (λ p. c.can_lower.ensures.1 (p.rising, p.counts)),
)

pub returns-else-has_box : goal.returns-else-has_box
unfolding HasAmount KnowsBox
returns-else-has_box c = (
  (λ h. absurd (let g = c.if-has_box.false in cc (h, g))),
  (λ p. absurd (let f = c.has_box.ensures.1 p.there in let g = c.if-has_box.false in cc (f, g))),
)
