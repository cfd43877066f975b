-- Numbers that stand beside the records of a map, in their order.
use Rattle.std.specs.Prelude.{◌≡◌, ◌==◌, ℕ, List, map, count_by, sum_by}
use Rattle.model_meaning.specs.BoxMeaning.{LogRow}
use Rattle.model_meaning.specs.MapMeaning.{MapRecord}
use Rattle.store_core.specs.declared.store.OpenBox.{OpenBox}

-- how many rows have this map uid
abbrev pub in_rows : ℕ → List LogRow → ℕ
in_rows uid rows = count_by (λ row. row.map_uid == uid) rows

abbrev pub in_boxes : ℕ → List OpenBox → ℕ
in_boxes uid boxes = sum_by (λ b. in_rows uid b.index.meaning.rows) boxes

-- each record has the number that its map uid gives
abbrev pub StandBeside : (ℕ → ℕ) → List MapRecord → List ℕ → Type 0
StandBeside number rows numbers = numbers ≡ map (λ row. number row.uid) rows
