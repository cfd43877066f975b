use Rattle.map_index.proofs.index.MapIndex.fit_apart.Goals as goal

pub returns-then-fit : goal.returns-then-fit
returns-then-fit c = ((λ h. (c.fit.ensures.0 c.if-fit.true, c.are_apart.ensures.0 h)), (λ p. c.are_apart.ensures.1 p.1))
