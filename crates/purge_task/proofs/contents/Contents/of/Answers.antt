use Rattle.purge_task.proofs.Common.{sym, ◌∙◌, subst, arith}
use Rattle.purge_task.proofs.ContentsLemmas.{IsWalked, walk_begins, walk_more, walk_ends}
use Rattle.purge_task.proofs.WalkLemmas.{row_bounds}
use Rattle.purge_task.proofs.contents.Contents.of.Goals as goal

pub loop-row-init : goal.loop-row-init
loop-row-init c = walk_begins c.args.map.now.meaning c.args.file.0

pub loop-row-preserved : goal.loop-row-preserved
loop-row-preserved c =
    subst (IsWalked c.args.map.now.meaning c.args.file.0) (sym c.with-contents.ensures) (walk_more c.args.map.now.meaning c.args.file.0 c.in-Some.row c.loop-row.contents c.requires (sym c.in-Some.is ∙ c.in_file.ensures) c.loop-row.invariant)

pub with-contents-requires-clause-ends : goal.with-contents-requires-clause-ends
with-contents-requires-clause-ends c =
    let b = row_bounds c.args.map.now.meaning c.args.file.0 c.loop-row.contents.end c.in-Some.row c.requires (sym c.in-Some.is ∙ c.in_file.ensures) in
    b.2

pub with-contents-requires-clause-messages : goal.with-contents-requires-clause-messages
with-contents-requires-clause-messages c =
    let few = c.loop-row.invariant.few in
    let ends = c.loop-row.invariant.ends in
    omega (arith, few, ends)

pub with-contents-requires-clause-wanted : goal.with-contents-requires-clause-wanted
with-contents-requires-clause-wanted c =
    let short = c.loop-row.invariant.short in
    let ends = c.loop-row.invariant.ends in
    omega (arith, short, ends)

pub loop-row-smaller : goal.loop-row-smaller
loop-row-smaller c =
    let b = row_bounds c.args.map.now.meaning c.args.file.0 c.loop-row.contents.end c.in-Some.row c.requires (sym c.in-Some.is ∙ c.in_file.ensures) in
    let low = b.0 in
    let some = b.1 in
    let ends = b.2 in
    rw c.with-contents.ensures (omega (arith, low, some, ends))

pub returns : goal.returns
returns c = walk_ends c.args.map.now.meaning c.args.file.0 c.loop-row.contents (sym c.in_default.is ∙ c.in_file.ensures) c.loop-row.invariant
