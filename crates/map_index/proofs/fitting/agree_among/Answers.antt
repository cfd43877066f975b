use Rattle.map_index.proofs.Common.{◌≡◌, ◌∙◌, sym, true, false, AgreesOn}
use Rattle.map_index.proofs.RisingLemmas.{pairs_split, pairs_joined}
use Rattle.map_index.proofs.fitting.agree_among.Goals as goal

pub returns-then-not-agrees : goal.returns-then-not-agrees
returns-then-not-agrees c = (
  (λ h. absurd (let w : false ≡ true = h in cc w)),
  (λ p.
      let all = (pairs_split AgreesOn c.in-Some.first.now c.in-Some.behind.now c.loop-first.rest.now c.in-Some.ensures.cases.0 (c.loop-first.invariant.1 p)).0 in
      sym c.if-not-agrees.true ∙ c.agrees.ensures.1 all),
)

pub loop-first-preserved : goal.loop-first-preserved
loop-first-preserved c = (
  (λ p. c.loop-first.invariant.0 (pairs_joined AgreesOn c.in-Some.first.now c.in-Some.behind.now c.loop-first.rest.now c.in-Some.ensures.cases.0 (c.agrees.ensures.0 c.if-not-agrees.false) p)),
  (λ p. (pairs_split AgreesOn c.in-Some.first.now c.in-Some.behind.now c.loop-first.rest.now c.in-Some.ensures.cases.0 (c.loop-first.invariant.1 p)).1),
)
