-- Numbers as text: hexadecimal digits of either case as they are read, and the texts that are written.
use Rattle.std.specs.Prelude.{◌≡◌, ◌≤◌, ◌+◌, ◌-◌, ◌*◌, ◌&&◌, ℕ, Bool, false, List, [], ◌∷◌, length, if◌then◌else◌, Option, Some, None, option_and_then, nat_le}
use Rattle.std.specs.Fmt.{digits, decimal}

abbrev pub is_between : ℕ → ℕ → ℕ → Bool
is_between low high n = nat_le low n && nat_le n high

-- the value of a hexadecimal digit: `0` to `9`, `a` to `f`, `A` to `F`
abbrev pub hex_digit_value : ℕ → Option ℕ
hex_digit_value c =
    if is_between 48 57 c then Some (c - 48)
    else (if is_between 97 102 c then Some (c - 87)
    else (if is_between 65 70 c then Some (c - 55) else None))

-- the number that hexadecimal digits spell when they follow those of `high`
abbrev pub hex_from : ℕ → List ℕ → Option ℕ
hex_from high [] = Some high
hex_from high (c ∷ rest) = option_and_then (λ d. hex_from (16 * high + d) rest) (hex_digit_value c)

-- these are so many digits at most, at least one, of this number; zeros may lead
pub record IsHex (most : ℕ) (digits : List ℕ) (n : ℕ) : Type 0 where
  pub some : 1 ≤ length digits
  pub short : length digits ≤ most
  pub value : hex_from 0 digits ≡ Some n

-- the lower-case hexadecimal digits of a number below 2 ^ 64, without leading zeros: the standard library's `{:x}`
abbrev pub hex_text : ℕ → List ℕ
hex_text n = digits 16 false n

-- the decimal digits of a number below 2 ^ 64, without leading zeros: the standard library's `{}`
abbrev pub decimal_text : ℕ → List ℕ
decimal_text n = decimal n
