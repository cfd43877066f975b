-- A value that is a word alone.
use Rattle.std.specs.Prelude.{ℕ, Bool, false, ◌&&◌, ◌==◌, List, [], ◌∷◌, length}
use Rattle.std.specs.Char.{eq_ignore_ascii_case}
use Rattle.model_mime.specs.Fields.{behind_blanks}

-- a value begins with a word, in any case, and has blanks alone behind it
abbrev pub is_alone : List ℕ → List ℕ → Bool
is_alone [] [] = length (behind_blanks []) == 0
is_alone [] (w ∷ word) = false
is_alone (c ∷ value) [] = length (behind_blanks (c ∷ value)) == 0
is_alone (c ∷ value) (w ∷ word) = eq_ignore_ascii_case c w && is_alone value word
