-- Plain words on octets and numbers.
use Rattle.std.specs.Prelude.{ℕ, Bool, not, ◌==◌, ◌<◌, ◌≤◌, ◌+◌, List, [], ◌∷◌, length, All, if◌then◌else◌, ◌≢◌, IsUtf8}
use Rattle.std.specs.List.{list_any}
use Rattle.std.specs.Str.{bytes_eq}

-- each is an octet
abbrev pub IsOctets : List ℕ → Type 0
IsOctets text = All (λ octet. octet < 256) text

-- how many different texts there are
abbrev pub count_different : List (List ℕ) → ℕ
count_different [] = 0
count_different (text ∷ texts) = if list_any (bytes_eq text) texts then count_different texts else count_different texts + 1

-- an octet isn't this mark
abbrev pub is_other_than : ℕ → ℕ → Bool
is_other_than mark octet = not (octet == mark)

-- a number of a storage file, a mailbox, a record or a generation
pub record IsNumber (n : ℕ) : Type 0 where
  pub low : 1 ≤ n
  pub high : n ≤ 4294967294

-- a mailbox name: 1 to 255 octets of UTF-8, none of them a control octet
pub record IsName (text : List ℕ) : Type 0 where
  pub some : 1 ≤ length text
  pub short : length text ≤ 255
  pub printing : All (λ octet. 32 ≤ octet) text
  pub no_delete : All (λ octet. octet ≢ 127) text
  pub utf8 : IsUtf8 text
