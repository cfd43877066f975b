use Rattle.map_index.specs.Has.{IsIn, IsUnused}
use Rattle.map_index.proofs.index.MapIndex.can_purge.Goals as goal

pub returns-then-are_lists : goal.returns-then-are_lists
unfolding IsIn IsUnused
returns-then-are_lists c = (
  (λ h.
      let a = c.are_lists.ensures.0 c.if-are_lists.true in
      let b = c.can_empty.ensures.0 h in
      record { file_number = a.0; moved_rising = a.1; dropped_rising = a.2; moved_here = b.0; dropped_here = b.1; each = b.2; target_fits = b.3 }),
  (λ p. c.can_empty.ensures.1 (p.moved_here, p.dropped_here, p.each, p.target_fits)),
)
