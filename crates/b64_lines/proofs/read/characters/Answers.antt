use Rattle.b64_lines.proofs.CutLemmas.{cut_next, cut_broken, cut_empty, cut_end, cut_only, is_none, is_some}
use Rattle.b64_lines.proofs.read.characters.Goals as goal

pub returns-in_default-clause-none : goal.returns-in_default-clause-none
returns-in_default-clause-none c = let none = rw c.in_default.is at c.behind_break.ensures.none in
    cut_broken c.args.text.now _ _ _ c.args.n _ _ c.loop-rest.invariant c.requires c.loop-rest-test.true c.split_at.ensures.front c.split_at.ensures.by_index.0 none

pub loop-rest-preserved : goal.loop-rest-preserved
loop-rest-preserved c = let broken = c.in-Some.ensures.some in
    cut_next c.args.text.now _ _ _ _ c.args.n _ _ _ c.loop-rest.invariant c.requires c.loop-rest-test.true c.split_at.ensures.front broken c.split_at.ensures.by_index.0 c.in_ok-extend_from_slice.ensures.items

pub returns-then-is_empty-clause-none : goal.returns-then-is_empty-clause-none
returns-then-is_empty-clause-none c = cut_empty c.args.text.now _ c.args.n _ _ c.loop-rest.invariant c.requires (is_none _ _ c.is_empty.ensures c.if-is_empty.true)

pub returns-clause-some : goal.returns-clause-some
returns-clause-some c = cut_end c.args.text.now _ c.args.n _ _ _ c.loop-rest.invariant (is_some _ _ c.is_empty.ensures c.if-is_empty.false) c.loop-rest-test.false c.in_ok-extend_from_slice-2.ensures.items

pub returns-clause-only : goal.returns-clause-only
returns-clause-only c = cut_only c.args.text.now _ c.args.n _ _ _ c.loop-rest.invariant c.requires c.loop-rest-test.false c.in_ok-extend_from_slice-2.ensures.items
