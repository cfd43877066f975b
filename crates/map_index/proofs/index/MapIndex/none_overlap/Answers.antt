use Rattle.map_index.proofs.Common.{◌≡◌, ◌∙◌, sym, true, false, refl, arith, ArePlacedApart}
use Rattle.map_index.proofs.RisingLemmas.{pairs_split, pairs_joined}
use Rattle.map_index.proofs.index.MapIndex.none_overlap.Goals as goal

pub returns-then-not-lies_apart : goal.returns-then-not-lies_apart
returns-then-not-lies_apart c = (
  (λ h. absurd (let w : false ≡ true = h in cc w)),
  (λ p.
      let all = (pairs_split (ArePlacedApart c.args.self.now.meaning) c.in-Some.first.now c.in-Some.behind.now c.loop-first.rest.now c.in-Some.ensures.cases.0 (c.loop-first.invariant.1 p)).0 in
      sym c.if-not-lies_apart.true ∙ c.lies_apart.ensures.1 all),
)

pub loop-first-preserved : goal.loop-first-preserved
loop-first-preserved c = (
  (λ p. c.loop-first.invariant.0 (pairs_joined (ArePlacedApart c.args.self.now.meaning) c.in-Some.first.now c.in-Some.behind.now c.loop-first.rest.now c.in-Some.ensures.cases.0 (c.lies_apart.ensures.0 c.if-not-lies_apart.false) p)),
  (λ p. (pairs_split (ArePlacedApart c.args.self.now.meaning) c.in-Some.first.now c.in-Some.behind.now c.loop-first.rest.now c.in-Some.ensures.cases.0 (c.loop-first.invariant.1 p)).1),
)

pub returns : goal.returns
returns c = (
  (λ h. c.loop-first.invariant.0 (λ i j d lt le. absurd (let none = c.in_default.ensures.cases in omega (arith, none, le, lt)))),
  (λ p. refl),
)
