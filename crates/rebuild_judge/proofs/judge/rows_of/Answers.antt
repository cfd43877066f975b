use Rattle.std.proofs.Common.{◌++◌, List, ap}
use Rattle.std.proofs.lemmas.List.{nil_from_length}
use Rattle.mdbox_base.specs.declared.entries.InstRow.{InstRow}
use Rattle.rebuild_judge.proofs.RowLemmas.{rows_end, rows_more, rows_short}
use Rattle.rebuild_judge.specs.Kept.{sized_rows}
use Rattle.rebuild_judge.proofs.judge.rows_of.Goals as goal

pub loop-reference-init : goal.loop-reference-init
loop-reference-init c = ap (λ (xs : List InstRow). xs ++ sized_rows c.args.refs.now c.args.sizes.now) c.empty-rows.ensures

pub returns-in_default-split_first : goal.returns-in_default-split_first
returns-in_default-split_first c = rows_short _ c.loop-reference.rows c.loop-reference.left.now c.loop-reference.told.now c.loop-reference.invariant (nil_from_length c.loop-reference.told.now c.in_default-split_first.ensures.cases)

pub loop-reference-preserved : goal.loop-reference-preserved
loop-reference-preserved c =
    rows_more _ c.loop-reference.rows _ c.loop-reference.left.now c.in-Some.others.now c.loop-reference.told.now c.in-Some-split_first.behind.now c.in-Some.reference.now c.in-Some-split_first.size.now c.row_of.result c.loop-reference.invariant c.in-Some.ensures.cases.0 c.in-Some-split_first.ensures.cases.0
    c.row_of.ensures c.in_ok-push.ensures.ok

pub returns : goal.returns
returns c = rows_end _ c.loop-reference.rows c.loop-reference.left.now c.loop-reference.told.now c.loop-reference.invariant (nil_from_length c.loop-reference.left.now c.in_default.ensures.cases)
