-- What an order is seen as.
use Rattle.std.specs.Prelude.{ℕ, List}
use Rattle.map_rows.specs.declared.order.OrderKey.{OrderKey}

-- the keys, and how many more can be added without memory
pub record OrderValue : Type 0 where
  pub keys : List OrderKey
  pub room : ℕ
