-- The digits of a body's size.
use Rattle.std.specs.Prelude.{◌≡◌, ◌≤◌, ◌==◌, ℕ, Bool, List, length, Some}
use Rattle.mdbox_base.specs.Numbers.{hex_from}

-- sixteen hexadecimal digits of a number that is at most 4,294,967,295
pub record IsSize (digits : List ℕ) (size : ℕ) : Type 0 where
  pub count : length digits ≡ 16
  pub value : hex_from 0 digits ≡ Some size
  pub fits : size ≤ 4294967295

abbrev pub is_zero_digit : ℕ → Bool
is_zero_digit c = c == 48
