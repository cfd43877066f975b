use Rattle.std.proofs.Common.{rules, sym, ap, ◌∙◌, arith}
use Rattle.std.proofs.lemmas.Bool.{ltb-true, ltb-false}
use Rattle.std.proofs.lemmas.List.Sorted.{IsPartitionPoint-from_clause}
use Rattle.sis_store.specs.Hashes.{is_key_before, is_key_of}
use Rattle.sis_store.proofs.HashLemmas.{parted, least_wanted, none_wanted}
use Rattle.sis_store.proofs.hashes.first_past.Goals as goal

pub returns-in-Some-clause-some : goal.returns-in-Some-clause-some
returns-in-Some-clause-some c =
    let point = IsPartitionPoint-from_clause (is_key_before c.args.hash c.args.size c.args.after) c.args.keys.now c.partition_point-place.result c.partition_point-place.ensures.partitioned (parted c.args.hash c.args.size c.args.after c.args.keys.now c.requires) (λ a r q k. search rules) in
    let there = c.in-Some.ensures.lookup in
    least_wanted c.args.hash c.args.size c.args.after c.args.keys.now c.partition_point-place.result c.in-Some.key.now c.requires point (ltb-true _ _ (sym there.0)) (λ d. sym (there.3.1 d)) (sym c.is_of.ensures ∙ c.if-is_of.true)

pub returns-in_default-clause-none : goal.returns-in_default-clause-none
returns-in_default-clause-none c =
    let point = IsPartitionPoint-from_clause (is_key_before c.args.hash c.args.size c.args.after) c.args.keys.now c.partition_point-place.result c.partition_point-place.ensures.partitioned (parted c.args.hash c.args.size c.args.after c.args.keys.now c.requires) (λ a r q k. search rules) in
    let there = c.in-Some.ensures.lookup in
    λ none. none_wanted c.args.hash c.args.size c.args.after c.args.keys.now c.partition_point-place.result c.requires point (λ d lt. ap (is_key_of c.args.hash c.args.size) (sym (there.3.1 d)) ∙ sym c.is_of.ensures ∙ c.if-is_of.false)

pub returns-in_default-2-clause-none : goal.returns-in_default-2-clause-none
returns-in_default-2-clause-none c =
    let point = IsPartitionPoint-from_clause (is_key_before c.args.hash c.args.size c.args.after) c.args.keys.now c.partition_point-place.result c.partition_point-place.ensures.partitioned (parted c.args.hash c.args.size c.args.after c.args.keys.now c.requires) (λ a r q k. search rules) in
    let past = ltb-false _ _ (sym (rw c.in_default.is at c.get.ensures.lookup.0)) in
    λ none. none_wanted c.args.hash c.args.size c.args.after c.args.keys.now c.partition_point-place.result c.requires point (λ d lt. absurd (omega (arith, past, lt)))
