-- Records as look-ups show them.
use Rattle.map_index.proofs.Common.{◌≡◌, Option, Some, None, refl, ap, ◌∙◌, option_map, MapRecord, MapRow, shown_record}
use Rattle.map_rows.specs.declared.rows.Record.{Record}
use Rattle.map_rows.specs.Lookups.{meant_record}

row_of_each : (o : Option Record) → option_map (λ r. r.row) o ≡ option_map shown_record (option_map meant_record o)
row_of_each None = refl
row_of_each (Some r) = refl

-- the row of a record that was found is what is shown of it
pub row_shown : (o : Option Record) (found : Option MapRecord) → option_map meant_record o ≡ found → option_map (λ r. r.row) o ≡ option_map shown_record found
row_shown o found e = row_of_each o ∙ ap (option_map shown_record) e

-- what is shown is of a record
pub shown_behind : (found : Option MapRecord) (row : MapRow) → Some row ≡ option_map shown_record found → (r : MapRecord) × (found ≡ Some r) × (row ≡ shown_record r)
shown_behind None row e = absurd (let w : Some row ≡ None = e in cc w)
shown_behind (Some r) row e = (r, refl, cc e)

pub none_behind : (found : Option MapRecord) → None ≡ option_map shown_record found → found ≡ None
none_behind None e = refl
none_behind (Some r) e = absurd (let w : None ≡ Some (shown_record r) = e in cc w)
