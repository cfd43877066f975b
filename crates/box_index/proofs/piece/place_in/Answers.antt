use Rattle.std.proofs.Common.{arith, rules, ltb, sym, ap, ◌∙◌}
use Rattle.std.proofs.lemmas.Bool.{ltb-true, ltb-false}
use Rattle.std.proofs.lemmas.List.Sorted.{IsPartitionPoint-from_clause, IsPartitionedBy-ltb}
use Rattle.box_index.specs.declared.index.BoxRow.{BoxRow}
use Rattle.box_index.proofs.RisingLemmas.{rise-no_less, lacks-around}
use Rattle.box_index.proofs.piece.place_in.Goals as goal

-- another row stands there
pub returns-in_default-clause-none : goal.returns-in_default-clause-none
returns-in_default-clause-none c =
    let rising = c.requires in
    let parted = IsPartitionedBy-ltb (λ (row : BoxRow). row.uid.0) _ c.args.uid.0 (rise-no_less rising.0 rising.1 _ rising.2) in
    let point = IsPartitionPoint-from_clause (λ (row : BoxRow). ltb row.uid.0 c.args.uid.0) _ _ c.partition_point-place.ensures.partitioned parted (λ a r q k. search rules) in
    let there = c.in-Some.ensures.lookup in
    λ none. lacks-around rising.0 rising.1 c.args.uid.0 c.partition_point-place.result c.args.rows.now rising.2 (λ k d lt. ltb-true _ _ (point.0 k d (omega arith) lt)) (λ k d le lt. ltb-false _ _ (point.1 k d le lt))
    (λ d some e. c.if-row-uid.false (ap (λ (row : BoxRow). row.uid.0) (there.3.1 d) ∙ sym e))

-- no row stands there
pub returns-in_default-2-clause-none : goal.returns-in_default-2-clause-none
returns-in_default-2-clause-none c =
    let rising = c.requires in
    let parted = IsPartitionedBy-ltb (λ (row : BoxRow). row.uid.0) _ c.args.uid.0 (rise-no_less rising.0 rising.1 _ rising.2) in
    let point = IsPartitionPoint-from_clause (λ (row : BoxRow). ltb row.uid.0 c.args.uid.0) _ _ c.partition_point-place.ensures.partitioned parted (λ a r q k. search rules) in
    let past = ltb-false _ _ (sym (rw c.in_default.is at c.get.ensures.lookup.0)) in
    λ none. lacks-around rising.0 rising.1 c.args.uid.0 c.partition_point-place.result c.args.rows.now rising.2 (λ k d lt. ltb-true _ _ (point.0 k d (omega arith) lt)) (λ k d le lt. ltb-false _ _ (point.1 k d le lt))
    (λ d some e. omega (arith, past, some))
