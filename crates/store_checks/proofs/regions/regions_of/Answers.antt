use Rattle.std.proofs.Common.{map, ◌∙◌, ap, subst, List, IsPermutation, take_all, arith, get_or, ◌+◌}
use Rattle.store_checks.specs.declared.regions.Region.{Region}
use Rattle.store_checks.specs.Lengths.{region_of, IsNoLater}
use Rattle.store_checks.proofs.SortLemmas.{region_next, chained, no_later, no_later_trans}
use Rattle.store_checks.proofs.regions.regions_of.Goals as goal

pub loop-place-preserved : goal.loop-place-preserved
loop-place-preserved c = region_next c.args.map.now.meaning.records c.loop-place.place c.row_at.result c.unwrap-row.result c.loop-place.regions.items c.push.new.self.items c.row_at.ensures c.unwrap-row.ensures c.loop-place.invariant c.in_ok-push.ensures.items

pub returns-clause-same : goal.returns-clause-same
returns-clause-same c =
    subst (λ (rs : List Region). IsPermutation rs c.sort_unstable.new.self.items)
    (c.loop-place.invariant ∙ ap (map region_of) (take_all c.loop-place.place c.args.map.now.meaning.records (omega (arith, c.rows-place-end.ensures)))) c.sort_unstable.ensures.permutation

pub returns-clause-order : goal.returns-clause-order
returns-clause-order c =
    chained IsNoLater no_later_trans c.sort_unstable.new.self.items (λ k d lt. no_later (get_or c.sort_unstable.new.self.items k d) (get_or c.sort_unstable.new.self.items (k + 1) d) (c.sort_unstable.ensures.sorted k d (omega arith) lt))
