use Rattle.std.proofs.Common.{◌++◌, List, map, ◌∙◌, ap, refl, take_all}
use Rattle.store_instances.specs.NamedRows.{named_row}
use Rattle.store_instances.specs.declared.named.NamedRow.{NamedRow}
use Rattle.store_instances.proofs.GatheredLemmas.{row_next}
use Rattle.store_instances.proofs.named.add_rows.Goals as goal

pub loop-row-preserved : goal.loop-row-preserved
loop-row-preserved c = row_next c.args.named.now c.loop-row.row-index _ _ c.args.rows.now.items c.loop-row.rows.items c.push.new.self.items c.loop-row-test.true refl c.loop-row.invariant c.in_ok-push.ensures.items

pub returns : goal.returns
returns c = c.loop-row.invariant ∙ ap (λ (rows : List _). c.args.rows.now.items ++ map named_row rows) (take_all c.loop-row.row-index c.args.named.now c.loop-row-test.false)
