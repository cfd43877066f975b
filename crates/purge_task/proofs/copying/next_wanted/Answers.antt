use Rattle.purge_task.proofs.Common.{sym, ◌∙◌, arith}
use Rattle.purge_task.proofs.NextLemmas.{next_begins, next_passes, next_is, next_ends}
use Rattle.purge_task.proofs.WalkLemmas.{row_bounds}
use Rattle.purge_task.proofs.copying.next_wanted.Goals as goal

pub loop-row-init : goal.loop-row-init
loop-row-init c = next_begins c.args.map.now.meaning c.args.file.0 c.args.from

pub loop-row-preserved : goal.loop-row-preserved
loop-row-preserved c = next_passes c.args.map.now.meaning c.args.file.0 c.args.from c.loop-row.from c.in-Some.row c.requires (sym c.in-Some.is ∙ c.in_file.ensures) (omega arith) c.loop-row.invariant

pub overflow_add-from : goal.overflow_add-from
overflow_add-from c = let b = row_bounds c.args.map.now.meaning c.args.file.0 c.loop-row.from c.in-Some.row c.requires (sym c.in-Some.is ∙ c.in_file.ensures) in let ends = b.2 in omega (arith, ends)

pub loop-row-smaller : goal.loop-row-smaller
loop-row-smaller c =
    let b = row_bounds c.args.map.now.meaning c.args.file.0 c.loop-row.from c.in-Some.row c.requires (sym c.in-Some.is ∙ c.in_file.ensures) in
    let low = b.0 in
    let some = b.1 in
    let ends = b.2 in
    omega (arith, low, some, ends)

pub returns-then-row-gt0-clause-some : goal.returns-then-row-gt0-clause-some
returns-then-row-gt0-clause-some c = next_is c.args.map.now.meaning c.args.file.0 c.args.from c.loop-row.from c.in-Some.row c.requires (sym c.in-Some.is ∙ c.in_file.ensures) c.if-row-gt0.true c.loop-row.invariant

pub returns-clause-none : goal.returns-clause-none
returns-clause-none c = next_ends c.args.map.now.meaning c.args.file.0 c.args.from c.loop-row.from (sym c.in_default.is ∙ c.in_file.ensures) c.loop-row.invariant
