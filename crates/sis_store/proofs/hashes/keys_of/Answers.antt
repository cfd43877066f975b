use Rattle.std.proofs.Common.{map, ap, ◌∙◌, take_all}
use Rattle.std.specs.Prelude.{sum_by}
use Rattle.std.proofs.lemmas.List.Sorted.{sum_by-IsPermutation}
use Rattle.sis_store.specs.Hashes.{hash_key}
use Rattle.sis_store.proofs.HashLemmas.{in_order, sums_map}
use Rattle.sis_store.proofs.hashes.keys_of.Goals as goal

pub returns-clause-order : goal.returns-clause-order
returns-clause-order c = in_order c.sort_unstable.new.self.items c.sort_unstable.ensures.sorted

pub returns-clause-same : goal.returns-clause-same
returns-clause-same c = λ f.
    sum_by-IsPermutation f c.loop-row.keys.items c.sort_unstable.new.self.items c.sort_unstable.ensures.permutation
    ∙ ap (sum_by f) (c.loop-row.invariant ∙ ap (map hash_key) (take_all c.loop-row.row-index c.args.rows.now c.loop-row-test.false)) ∙ sums_map f hash_key c.args.rows.now
