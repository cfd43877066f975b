use Rattle.std.proofs.Common.{◌≡◌, ◌<◌, [], length, map}
use Rattle.std.specs.Prelude.{AllPairs}
use Rattle.store_rebuild.proofs.MapTextLemmas.{with_rows}
use Rattle.store_rebuild.proofs.map.files_skipped.Given as goal

abbrev pub invariant-loop-last : goal.invariant-loop-last
invariant-loop-last l = record {
  left : with_rows l.rest (map (λ f. f.0) l.files.items) ≡ with_rows l.skipped [];
  rising : AllPairs (λ a b. a.0 < b.0) l.files.items;
}

abbrev pub decreases-loop-last : goal.decreases-loop-last
decreases-loop-last l = length l.rest
