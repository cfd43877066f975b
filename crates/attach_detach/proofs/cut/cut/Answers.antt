use Rattle.std.proofs.Common.{refl, arith, ◌∙◌, ap, ◌++◌, List, ℕ}
use Rattle.attach_detach.proofs.CutLemmas.{in_order, goes, cut_end, end_of}
use Rattle.attach_detach.proofs.cut.cut.Goals as goal

pub between-requires : goal.between-requires
between-requires c = let order = in_order c.args.message.now c.args.leaves.now c.loop-leaf.leaf-index c.loop-leaf.at _ _ _ _ c.loop-leaf.invariant c.loop-leaf-test.true refl c.if-not-leaf.false in (order.0, omega (arith, order.1, order.2))

pub detached-requires : goal.detached-requires
detached-requires c = let order = in_order c.args.message.now c.args.leaves.now c.loop-leaf.leaf-index c.loop-leaf.at _ _ _ _ c.loop-leaf.invariant c.loop-leaf-test.true refl c.if-not-leaf.false in (order.1, order.2)

pub loop-leaf-preserved : goal.loop-leaf-preserved
loop-leaf-preserved c = goes c.args.message.now c.args.leaves.now c.loop-leaf.leaf-index c.loop-leaf.at _ _ _ _ _ _ c.in_ok-detached.field-0 c.loop-leaf.invariant c.loop-leaf-test.true refl c.if-not-leaf.false
    c.in_ok-detached.ensures (c.in_ok-extend_from_slice.ensures.items ∙ ap (λ (x : List ℕ). c.loop-leaf.body.items ++ x) c.between.ensures) c.in_ok-push.ensures.items

pub returns-clause-cut : goal.returns-clause-cut
returns-clause-cut c = rw (c.of.ensures, c.of-2.ensures) (cut_end c.args.message.now c.args.leaves.now c.loop-leaf.leaf-index c.loop-leaf.at _ _ _ c.loop-leaf.invariant c.loop-leaf-test.false
    (c.in_ok-extend_from_slice-2.ensures.items ∙ ap (λ (x : List ℕ). c.loop-leaf.body.items ++ x) (c.between-2.ensures ∙ end_of c.args.message.now c.loop-leaf.at)))
