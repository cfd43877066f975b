-- Keywords as they are given to a command.
use Rattle.std.specs.Prelude.{◌≡◌, ℕ, List, [], get_or, Contains}

-- the word at a place
abbrev pub text_at : List (List ℕ) → ℕ → List ℕ
text_at words place = get_or words place []

-- the word at a place also stands at one of these
abbrev pub StandsAgain : List (List ℕ) → List ℕ → ℕ → Type 0
StandsAgain words places place = (other : ℕ) × Contains places other × (text_at words other ≡ text_at words place)
