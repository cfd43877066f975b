-- Clocks.
use Rattle.std.specs.Prelude.{ℕ, List}

-- A clock that stands still: its time in Unix seconds, the numbers of the calls that fail, and how many calls and faults there were.
pub record MemoryClock : Type 0 where
  pub seconds : ℕ
  pub fails : List ℕ
  pub calls : ℕ
  pub faults : ℕ
