use Rattle.map_index.proofs.Common.{◌≡◌, subst, Option, MapEntry}
use Rattle.std.specs.Prelude.{MatchOption}
use Rattle.map_index.specs.Needs.{TakesMemory}
use Rattle.map_index.proofs.index.MapIndex.apply.Goals as goal

pub returns-in_err-reserve_for-in-Some-clause-adding_only : goal.returns-in_err-reserve_for-in-Some-clause-adding_only
returns-in_err-reserve_for-in-Some-clause-adding_only c = λ failed.
    (subst (λ (o : Option MapEntry). MatchOption o (TakesMemory c.args.entry.now → ⊥) (λ copy. (copy ≡ c.args.entry.now) × TakesMemory c.args.entry.now)) c.in-Some.is c.in_ok-copy.ensures.copy).1
