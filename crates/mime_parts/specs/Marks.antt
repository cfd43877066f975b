-- What a line is to the boundaries that are open.
use Rattle.std.specs.Prelude.{◌≡◌, ℕ, List, ◌∷◌, ◌++◌, length, true, false}
use Rattle.std.specs.List.{list_any}
use Rattle.model_mime.specs.Parts.{ends_part, is_closing, is_delimiter}
use Rattle.mime_parts.specs.declared.mark.Mark.{Mark}
use Rattle.mime_parts.specs.declared.mark.Mark.TheVariants as marks
use Rattle.mime_parts.specs.declared.mark.Ending.{Ending}
use Rattle.mime_parts.specs.declared.mark.Ending.TheVariants as endings

-- what a line is to a boundary
abbrev pub MarkSays : Mark → List ℕ → List ℕ → Type 0
MarkSays marks.Nothing boundary text = ends_part boundary text ≡ false
MarkSays marks.Delimiter boundary text = (is_closing boundary text ≡ false) × (is_delimiter boundary text ≡ true)
MarkSays marks.Closing boundary text = is_closing boundary text ≡ true

-- the outermost boundary that a line ends a part of
pub record EndsAt (stack : List (List ℕ)) (text : List ℕ) (k : ℕ) (P : List ℕ → List ℕ → Type 0) : Type 0 where
  pub outer : List (List ℕ)
  pub boundary : List ℕ
  pub inner : List (List ℕ)
  pub parts : stack ≡ outer ++ boundary ∷ inner
  pub place : length outer ≡ k
  pub before : list_any (λ b. ends_part b text) outer ≡ false
  pub says : P boundary text

abbrev pub LineEnds : Ending → List (List ℕ) → List ℕ → Type 0
LineEnds endings.Nothing stack text = list_any (λ b. ends_part b text) stack ≡ false
LineEnds (endings.Delimiter k) stack text = EndsAt stack text k (MarkSays marks.Delimiter)
LineEnds (endings.Closing k) stack text = EndsAt stack text k (MarkSays marks.Closing)
