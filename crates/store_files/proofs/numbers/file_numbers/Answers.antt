use Rattle.std.proofs.Common.{List, ℕ, ◌++◌, ◌∙◌, ap}
use Rattle.std.proofs.lemmas.List.Filters.{dedup_is}
use Rattle.store_files.proofs.NumberListLemmas.{region_kept, sealed_kept, numbers_rise}
use Rattle.store_files.proofs.numbers.file_numbers.Goals as goal

pub returns-clause-rising : goal.returns-clause-rising
returns-clause-rising c = numbers_rise c.sort_unstable.new.self.items c.dedup.new.self.items c.sort_unstable.ensures.sorted (dedup_is _ _ _ c.dedup.ensures.filtered)

pub returns-clause-regions : goal.returns-clause-regions
returns-clause-regions c = λ number any.
    region_kept c.args.map.now.meaning.records c.args.map.now.meaning.sealed c.add_sealed.new.numbers.items c.sort_unstable.new.self.items c.dedup.new.self.items number
    (c.in_ok-add_sealed.ensures ∙ ap (λ (ns : List ℕ). ns ++ c.args.map.now.meaning.sealed) c.in_ok-numbers.ensures) c.sort_unstable.ensures.permutation (dedup_is _ _ _ c.dedup.ensures.filtered) any

pub returns-clause-sealed : goal.returns-clause-sealed
returns-clause-sealed c = λ number any.
    sealed_kept c.in_ok-numbers.numbers.items c.args.map.now.meaning.sealed c.add_sealed.new.numbers.items c.sort_unstable.new.self.items c.dedup.new.self.items number
    c.in_ok-add_sealed.ensures c.sort_unstable.ensures.permutation (dedup_is _ _ _ c.dedup.ensures.filtered) any
