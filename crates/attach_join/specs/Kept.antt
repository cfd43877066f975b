-- Instances whose octets are kept in the ranges of their references, until their texts are written there.
use Rattle.std.specs.Prelude.{◌≡◌, ◌+◌, ◌-◌, ℕ, List, [], ◌∷◌, ◌++◌, length, take, drop, None}
use Rattle.mdbox_base.specs.declared.entries.InstRow.{InstRow}
use Rattle.mdbox_base.specs.declared.metadata.ExtRef.{ExtRef}
use Rattle.model_attach.specs.Rejoined.{first_bad, found_size, part_text}

-- the text of an instance, of so many octets as its row says, is as long as its reference's range
abbrev pub HasLongText : ExtRef → InstRow → Type 0
HasLongText ref row = (octets : List ℕ) → length octets ≡ row.size → length (part_text ref.form octets) ≡ ref.count

-- so it is of each, and there is one row for each reference
abbrev pub TextsFit : List ExtRef → List InstRow → Type 0
TextsFit [] [] = Unit {0}
TextsFit [] (row ∷ rows) = ⊥
TextsFit (ref ∷ refs) [] = ⊥
TextsFit (ref ∷ refs) (row ∷ rows) = HasLongText ref row × TextsFit refs rows

-- A body of so many octets, references, and instances of the sizes that their rows say have a whole of this size.
pub record FitInto (whole stored : ℕ) (refs : List ExtRef) (rows : List InstRow) : Type 0 where
  pub ranges : first_bad 0 stored refs ≡ None
  pub size : found_size stored refs ≡ whole
  pub texts : TextsFit refs rows

-- The octets that are kept of the instances: those of each at the end of its range.
abbrev pub kept_in : List ExtRef → List InstRow → List ℕ → List ℕ
kept_in [] rows whole = []
kept_in (ref ∷ refs) [] whole = []
kept_in (ref ∷ refs) (row ∷ rows) whole = take row.size (drop (ref.start + ref.count - row.size) whole) ++ kept_in refs rows whole
