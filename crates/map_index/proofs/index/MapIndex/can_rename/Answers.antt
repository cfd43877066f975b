use Rattle.map_index.proofs.index.MapIndex.can_rename.Goals as goal

pub returns-then-can_be_renamed : goal.returns-then-can_be_renamed
returns-then-can_be_renamed c = (
  (λ h. record { there = c.can_be_renamed.ensures.0 c.if-can_be_renamed.true; name_new = c.is_new_name.ensures.0 h }),
  (λ p. c.is_new_name.ensures.1 p.name_new),
)
