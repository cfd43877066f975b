use Rattle.map_rows.proofs.Common.{◌∙◌, arith}
use Rattle.map_rows.proofs.NameLemmas.{next_there, one_further, no_row}
use Rattle.map_rows.proofs.names.lower_each.Goals as goal

pub lower_naming-requires-clause-there : goal.lower_naming-requires-clause-there
lower_naming-requires-clause-there c = next_there c.loop-row.named.items c.args.named.now.items c.args.rows.now c.loop-row.row-index _ c.loop-row.invariant.names c.requires.there c.loop-row-test.true

pub loop-row-preserved : goal.loop-row-preserved
loop-row-preserved c = record {
  are = c.lower_naming.ensures.are;
  names = λ p.
      let a = c.lower_naming.ensures.names p in
      let b = c.loop-row.invariant.names p in
      let m = one_further p c.args.rows.now c.loop-row.row-index no_row c.loop-row-test.true in
      omega (arith, a, b, m);
  len = c.lower_naming.ensures.space.0 ∙ c.loop-row.invariant.len;
  capacity = c.lower_naming.ensures.space.1 ∙ c.loop-row.invariant.capacity;
}
