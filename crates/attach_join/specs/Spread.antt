-- The octets of a whole that stand outside of all ranges of references.
use Rattle.std.specs.Prelude.{◌≡◌, ◌≤◌, length, ◌+◌, ◌-◌, ℕ, List, [], ◌∷◌, ◌++◌, take, drop}
use Rattle.model_attach.specs.Rejoined.{part_text}
use Rattle.mdbox_base.specs.declared.metadata.ExtRef.{ExtRef}

-- of what stands from a place on
abbrev pub outside_from : ℕ → List ExtRef → List ℕ → List ℕ
outside_from place [] text = text
outside_from place (ref ∷ refs) text = take (ref.start - place) text ++ outside_from (ref.start + ref.count) refs (drop (ref.start + ref.count - place) text)

abbrev pub outside : List ExtRef → List ℕ → List ℕ
outside refs whole = outside_from 0 refs whole

-- the ranges stand one behind another, from a place on
abbrev pub InRow : ℕ → List ExtRef → Type 0
InRow place [] = Unit {0}
InRow place (ref ∷ refs) = (place ≤ ref.start) × InRow (ref.start + ref.count) refs

-- the range of each reference has the text of its instance; of what stands from a place on
abbrev pub RangesAreFilled : ℕ → List ExtRef → List (List ℕ) → List ℕ → Type 0
RangesAreFilled place [] [] text = Unit {0}
RangesAreFilled place [] (octets ∷ instances) text = ⊥
RangesAreFilled place (ref ∷ refs) [] text = ⊥
RangesAreFilled place (ref ∷ refs) (octets ∷ instances) text =
    (place ≤ ref.start) × (ref.start + ref.count - place ≤ length text) × (take ref.count (drop (ref.start - place) text) ≡ part_text ref.form octets)
    × RangesAreFilled (ref.start + ref.count) refs instances (drop (ref.start + ref.count - place) text)
