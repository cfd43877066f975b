-- The rows that the entries of a log make.
use Rattle.std.specs.Prelude.{Bool, not, List, [], ◌∷◌, ◌++◌, map, filter, flat_map, if◌then◌else◌}

-- the rows that an entry makes, whether it removes a row, and how it changes a row that stays
pub record Rules (E R : Type 0) : Type 0 where
  pub made : E → List R
  pub removes : E → R → Bool
  pub changed : E → R → R

-- a row behind later entries: none where one of them removes it, else as they change it
abbrev pub row_behind : {E R : Type 0} → Rules E R → List E → R → List R
row_behind rules [] row = row ∷ []
row_behind rules (entry ∷ rest) row = if rules.removes entry row then [] else row_behind rules rest (rules.changed entry row)

-- The rows: each that an entry makes and no later entry removes, in order, as the later entries change it.
abbrev pub rows_of : {E R : Type 0} → Rules E R → List E → List R
rows_of rules [] = []
rows_of rules (entry ∷ rest) = flat_map (row_behind rules rest) (rules.made entry) ++ rows_of rules rest

-- One entry more: the rows that it doesn't remove, as it changes them, and then those that it makes.
abbrev pub rows_by : {E R : Type 0} → Rules E R → E → List R → List R
rows_by rules entry rows = map (rules.changed entry) (filter (λ row. not (rules.removes entry row)) rows) ++ rules.made entry
