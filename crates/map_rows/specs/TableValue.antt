-- What a table of records is seen as.
use Rattle.std.specs.Prelude.{ℕ, List}
use Rattle.model_meaning.specs.MapMeaning.{MapRecord}

-- the records, and how many records and namings of instances can be added without memory
pub record TableValue : Type 0 where
  pub records : List MapRecord
  pub record_room : ℕ
  pub instance_room : ℕ
