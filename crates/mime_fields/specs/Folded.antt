-- A value that goes on in the lines below it.
use Rattle.std.specs.Prelude.{ℕ, List, ◌++◌}
use Rattle.model_mime.specs.Lines.{texts}
use Rattle.model_mime.specs.Fields.{continuation}

-- the rest of a line, and the lines below that continue it
abbrev pub folded : List ℕ → List ℕ → List ℕ
folded line below = line ++ continuation (texts below)
