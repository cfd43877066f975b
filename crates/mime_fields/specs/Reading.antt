-- What the readers of a value give.
use Rattle.std.specs.Prelude.{ℕ, suc, length, ◌≤◌, List, ◌≡◌, ◌++◌, Option, Some, None}
use Rattle.model_mime.specs.Fields.{quoted, parameter, boundary_among}
use Rattle.mime_fields.specs.declared.held.Held.{Held}
use Rattle.mime_fields.specs.Holding.{held}

-- A text is read from a value, and held.
pub record IsHeld (read : List ℕ → Option (List ℕ × List ℕ)) (old : List ℕ) (value : Held) (new : List ℕ) : Type 0 where
  pub text : List ℕ
  pub holds : value ≡ held text
  pub gives : read old ≡ Some (text, new)

-- what is read behind a text that was read before
abbrev pub with_front : List ℕ → Option (List ℕ × List ℕ) → Option (List ℕ × List ℕ)
with_front front None = None
with_front front (Some (text, rest)) = Some (front ++ text, rest)

-- A quoted string is read up to here, and held so far.
pub record IsQuoting (old : List ℕ) (value : Held) (here : List ℕ) : Type 0 where
  pub text : List ℕ
  pub holds : value ≡ held text
  pub same : quoted old ≡ with_front text (quoted here)

-- A parameter is read, and its value held.
pub record IsParameter (old name : List ℕ) (value : Held) (new : List ℕ) : Type 0 where
  pub text : List ℕ
  pub holds : value ≡ held text
  pub gives : parameter old ≡ Some (record { name = name; value = text; rest = new })

-- A boundary is looked for among parameters, and the search has come up to here.
pub record IsSearching (old here : List ℕ) : Type 0 where
  pub most : ℕ
  pub enough : length here ≤ most
  pub same : boundary_among (suc (length old)) old ≡ boundary_among (suc most) here
