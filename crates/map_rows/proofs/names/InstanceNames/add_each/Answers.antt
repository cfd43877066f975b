use Rattle.map_rows.proofs.Common.{List, ap, arith, InstRow, times}
use Rattle.map_rows.proofs.NameLemmas.{next_only, one_further, all_taken, no_row}
use Rattle.map_rows.proofs.names.InstanceNames.add_each.Goals as goal

pub add-requires-clause-only : goal.add-requires-clause-only
add-requires-clause-only c = next_only c.loop-row.self.named c.args.self.now.named c.args.rows.now c.loop-row.row-index _ c.loop-row.invariant.are c.loop-row.invariant.names c.requires.only c.requires.agree c.loop-row-test.true

pub add-requires-clause-room : goal.add-requires-clause-room
add-requires-clause-room c =
    let a = c.loop-row.invariant.room in
    let b = c.requires.room in
    let t = c.loop-row-test.true in
    omega (arith, a, b, t)

pub loop-row-preserved : goal.loop-row-preserved
loop-row-preserved c = record {
  are = c.add.ensures.are;
  names = λ p.
      let a = c.add.ensures.names p in
      let b = c.loop-row.invariant.names p in
      let m = one_further p c.args.rows.now c.loop-row.row-index no_row c.loop-row-test.true in
      omega (arith, a, b, m);
  room = (let a = c.add.ensures.room in let b = c.loop-row.invariant.room in let r = c.requires.room in let t = c.loop-row-test.true in omega (arith, a, b, r, t));
}

pub returns : goal.returns
returns c =
    let all = all_taken c.args.rows.now c.loop-row.row-index c.loop-row-test.false in
    record {
      names = λ p. let a = c.loop-row.invariant.names p in let b = ap (λ (xs : List InstRow). times p xs) all in omega (arith, a, b);
      room = (let a = c.loop-row.invariant.room in let t = c.loop-row-test.false in let u = c.loop-row.auto.row-index-end in omega (arith, a, t, u));
    }
