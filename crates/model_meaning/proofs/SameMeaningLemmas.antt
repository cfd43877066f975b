-- Each meaning of a map log is the same as itself, and meanings are the same step by step.
use Rattle.std.specs.Prelude.{refl}
use Rattle.std.proofs.Common.{sym, ◌∙◌}
use Rattle.model_meaning.specs.MapMeaning.{MapMeaning}
use Rattle.model_meaning.specs.SameMeaning.{MeansSame}

pub means_itself : (m : MapMeaning) → MeansSame m m
means_itself m = record { store = refl; records = refl; numbers = refl; names = refl; sealed = refl; highest = refl }

pub means_back : (m n : MapMeaning) → MeansSame m n → MeansSame n m
means_back m n h = record { store = sym h.store; records = sym h.records; numbers = sym h.numbers; names = sym h.names; sealed = sym h.sealed; highest = sym h.highest }

pub means_along : (m n k : MapMeaning) → MeansSame m n → MeansSame n k → MeansSame m k
means_along m n k h g = record {
  store = g.store ∙ h.store;
  records = g.records ∙ h.records;
  numbers = g.numbers ∙ h.numbers;
  names = g.names ∙ h.names;
  sealed = g.sealed ∙ h.sealed;
  highest = g.highest ∙ h.highest;
}
