-- Rows of a listing that are gathered one by one.
use Rattle.mail_ops.proofs.Common.{◌≡◌, List, [], ◌∷◌, ◌++◌, map, refl, sym, ◌∙◌, ap, map-append, ListRow, LogRow, listed_row, row_of}
use denote.Ref.{Bor}
use Rattle.box_index.specs.declared.index.BoxRow.{BoxRow}

-- the row that lists a message of the index
abbrev pub row_shown : Bor BoxRow → ListRow
row_shown row = listed_row (row_of row.now)

-- one row more
pub row_more : (seen : List (Bor BoxRow)) (row : Bor BoxRow) (old new : List ListRow) → old ≡ map row_shown seen → new ≡ old ++ row_shown row ∷ [] → new ≡ map row_shown (seen ++ row ∷ [])
row_more seen row old new so_far e = e ∙ ap (λ (xs : List ListRow). xs ++ row_shown row ∷ []) so_far ∙ sym (map-append row_shown seen (row ∷ []))

-- all of them
pub rows_all : (seen : List (Bor BoxRow)) (all : List BoxRow) (rows : List LogRow) (items : List ListRow) → map (λ (row : Bor BoxRow). row.now) seen ≡ all → map row_of all ≡ rows → items ≡ map row_shown seen → items ≡ map listed_row rows
rows_all seen all rows items seen_is all_is so_far = so_far ∙ each seen ∙ ap (map listed_row) (ap (map row_of) seen_is ∙ all_is)
  where
    each : (xs : List (Bor BoxRow)) → map row_shown xs ≡ map listed_row (map row_of (map (λ (row : Bor BoxRow). row.now) xs))
    each [] = refl
    each (x ∷ xs) = ap (λ (rest : List ListRow). row_shown x ∷ rest) (each xs)
