-- What an index is seen as.
use Rattle.std.specs.Prelude.{ℕ}
use Rattle.model_meaning.specs.BoxMeaning.{BoxMeaning}

-- what the entries of the log mean, and how many messages can be added without memory
pub record BoxState : Type 0 where
  pub meaning : BoxMeaning
  pub room : ℕ
