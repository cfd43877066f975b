use Rattle.map_rows.proofs.Common.{◌∙◌, List, map, length, ap, sym, subst, refl, arith, InstRow, MapRecord, meant_record, AreNamesOf, instances_of}
use Rattle.map_rows.proofs.NameLemmas.{fewer, left_first, next_named, next_dropped, next_missing}
use Rattle.map_rows.proofs.names.lower_records.Goals.{in-Some, in-None}
use Rattle.map_rows.proofs.names.lower_records.Goals as goal

pub loop-uid-init : goal.loop-uid-init
loop-uid-init c = record {
  are = c.requires.are;
  names = subst (λ (ms : List MapRecord). AreNamesOf c.args.named.now.items (instances_of ms)) (sym (left_first c.args.uids.now (map meant_record c.args.records.now))) c.requires.names;
  count = omega arith;
  len = refl;
  capacity = refl;
}

pub lower_each-count-requires-clause-there : goal.lower_each-count-requires-clause-there
lower_each-count-requires-clause-there c =
    rw c.as_slice.ensures
    (next_named c.loop-uid.named.items c.args.uids.now c.loop-uid.uid-index _ c.args.records.now c.in-Some.record.now c.requires.rising c.requires.uids c.loop-uid-test.true c.loop-uid.invariant.names c.in-Some.ensures)

pub overflow_add-count : goal.overflow_add-count
overflow_add-count c =
    let names = rw c.as_slice.ensures at c.lower_each-count.ensures.names in
    let less = fewer _ _ _ names in
    let before = c.loop-uid.invariant.count in
    let most = c.requires.count in
    let count = c.lower_each-count.ensures.count in
    let long = ap (λ (rows : List InstRow). length rows) c.as_slice.ensures in
    omega (arith, less, before, most, count, long)

pub loop-uid-preserved : goal.loop-uid-preserved
loop-uid-preserved c =
    elim c.match-with_uid.branch [
      | in-Some w ↦
          let names = rw w.as_slice.ensures at w.lower_each-count.ensures.names in
          let less = fewer _ _ _ names in
          let long = ap (λ (rows : List InstRow). length rows) w.as_slice.ensures in
          let before = c.loop-uid.invariant.count in
          let count = w.lower_each-count.ensures.count in
          rw (w.named-is, w.count-is)
          (record {
            are = w.lower_each-count.ensures.are;
            names = next_dropped c.loop-uid.named.items _ c.args.uids.now c.loop-uid.uid-index _ c.args.records.now w.in-Some.record.now c.requires.rising c.requires.uids c.loop-uid-test.true c.loop-uid.invariant.names w.in-Some.ensures names;
            count = omega (arith, less, before, count, long);
            len = w.lower_each-count.ensures.space.0 ∙ c.loop-uid.invariant.len;
            capacity = w.lower_each-count.ensures.space.1 ∙ c.loop-uid.invariant.capacity;
          })
      | in-None w ↦
          rw (w.named-is, w.count-is)
          (record {
            are = c.loop-uid.invariant.are;
            names = next_missing c.loop-uid.named.items c.args.uids.now c.loop-uid.uid-index _ c.args.records.now c.requires.uids c.loop-uid-test.true c.loop-uid.invariant.names w.in-None.ensures;
            count = c.loop-uid.invariant.count;
            len = c.loop-uid.invariant.len;
            capacity = c.loop-uid.invariant.capacity;
          })
    ]
