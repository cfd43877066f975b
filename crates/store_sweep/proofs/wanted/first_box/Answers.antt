use Rattle.std.proofs.Common.{◌+◌, ◌-◌, ◌/◌, ◌≡◌, ℕ, subst, arith}
use Rattle.store_sweep.proofs.BoxSearchLemmas.{AreFrom, below_more, from_less, first_is}
use Rattle.store_sweep.proofs.wanted.first_box.Goals as goal

pub loop-low-preserved-then-unwrap-number : goal.loop-low-preserved-then-unwrap-number
loop-low-preserved-then-unwrap-number c = record {
  order = omega (arith, c.loop-low-test.true);
  within = c.loop-low.invariant.within;
  below = below_more c.args.number c.args.map.now.meaning.boxes (c.loop-low.low + (c.loop-low.high - c.loop-low.low) / 2) c.box_at.result c.unwrap.result c.known_facts.ensures.boxes.rising c.box_at.ensures c.unwrap.ensures (omega (arith, c.loop-low-test.true, c.loop-low.invariant.within)) c.if-unwrap-number.true;
  from = c.loop-low.invariant.from;
}

pub loop-low-preserved : goal.loop-low-preserved
loop-low-preserved c = record {
  order = omega (arith, c.loop-low-test.true);
  within = omega (arith, c.loop-low-test.true, c.loop-low.invariant.within);
  below = c.loop-low.invariant.below;
  from = from_less c.args.number c.args.map.now.meaning.boxes (c.loop-low.low + (c.loop-low.high - c.loop-low.low) / 2) c.box_at.result c.unwrap.result c.known_facts.ensures.boxes.rising c.box_at.ensures c.unwrap.ensures c.if-unwrap-number.false;
}

pub returns : goal.returns
returns c =
    let met : c.loop-low.high ≡ c.loop-low.low = omega (arith, c.loop-low-test.false, c.loop-low.invariant.order) in
    let F : ℕ → Type 0 = λ n. AreFrom c.args.number c.args.map.now.meaning.boxes n in
    first_is c.args.number c.args.map.now.meaning.boxes c.loop-low.low (omega (arith, c.loop-low.invariant.order, c.loop-low.invariant.within)) c.loop-low.invariant.below (subst F met c.loop-low.invariant.from)
