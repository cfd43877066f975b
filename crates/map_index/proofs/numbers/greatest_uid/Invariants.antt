use Rattle.map_index.proofs.Common.{◌≡◌, max, fold, drop}
use Rattle.model_meaning.specs.MapMeaning.{greatest}
use Rattle.map_index.proofs.numbers.greatest_uid.Given as goal

-- the greatest so far, and the rest
abbrev pub invariant-loop-item : goal.invariant-loop-item
invariant-loop-item g l = fold (λ most x. max most (g.T.NamesRecord.uid_of x)) l.most (drop l.item-index l.items) ≡ greatest g.T.NamesRecord.uid_of l.items
