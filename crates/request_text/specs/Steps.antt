-- Where requests' steps stand, gathered in one walk over the journal.
use Rattle.std.specs.Prelude.{◌≡◌, ◌<◌, ℕ, List, length, slice_get, Option, Some, None}
use Rattle.mdbox_base.specs.declared.script.Half.{Half}
use Rattle.mdbox_base.specs.declared.script.Half.TheVariants as half
use Rattle.mdbox_base.specs.declared.script.JournalEntry.{JournalEntry}
use Rattle.request_text.specs.BatchText.{request_steps}
use Rattle.request_text.specs.declared.places.Steps.{Steps}

-- the place that is there, or else this one
abbrev pub or_place : Option ℕ → ℕ → Option ℕ
or_place None place = Some place
or_place (Some earlier) place = Some earlier

abbrev pub with_place : Half → ℕ → Steps → Steps
with_place half.Whole place steps = record steps { whole = or_place steps.whole place }
with_place half.CopyHalf place steps = record steps { copied = or_place steps.copied place }
with_place half.ExpungeHalf place steps = record steps { removed = or_place steps.removed place }

-- a row for each of so many requests
pub record AreStepsOf (journal : List JournalEntry) (count : ℕ) (rows : List Steps) : Type 0 where
  pub count_is : length rows ≡ count
  pub each : (request : ℕ) → request < count → slice_get rows request ≡ Some (request_steps journal request)
