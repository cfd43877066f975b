-- The written form of a storage file, which is one of its spellings, and an example.
use Rattle.std.specs.Prelude.{◌≤◌, ◌+◌, ◌/◌, ◌%◌, ℕ, zero, suc, List, [], ◌∷◌, ◌++◌, length, replicate, flat_map, codes, if◌then◌else◌, nat_lt}
use Rattle.std.specs.List.{AllByRecursion}
use Rattle.mdbox_base.specs.Numbers.{hex_text}
use Rattle.model_storage.specs.StorageFile.{IsLine, line_text, Message}

-- an upper-case hexadecimal digit
abbrev pub upper_digit : ℕ → ℕ
upper_digit d = if nat_lt d 10 then 48 + d else 55 + d

-- so many upper-case hexadecimal digits of a number, zeros in front
abbrev pub upper_digits : ℕ → ℕ → List ℕ
upper_digits zero n = []
upper_digits (suc count) n = upper_digits count (n / 16) ++ upper_digit (n % 16) ∷ []

-- a message that a storage file can have
pub record FitsInFile (m : Message) : Type 0 where
  pub size : length m.body ≤ 4294967295
  pub each : AllByRecursion IsLine m.lines
  pub block : length (flat_map line_text m.lines) + 5 ≤ 1048576

-- a message as it is written: spaces and upper-case digits in its header
abbrev pub written_message : Message → List ℕ
written_message m = (1 ∷ 2 ∷ 78 ∷ (replicate 10 32 ++ (upper_digits 16 (length m.body) ++ 10 ∷ []))) ++ (m.body ++ (10 ∷ 1 ∷ 3 ∷ 10 ∷ (flat_map line_text m.lines ++ 10 ∷ [])))

-- a header line as it is written, with the creation time in lower-case digits
abbrev pub written_header : ℕ → List ℕ
written_header time = codes "2 M1e C" ++ (hex_text time ++ 10 ∷ [])

abbrev pub first_header : List ℕ
first_header = codes "2 M1e C65000000" ++ 10 ∷ []

abbrev pub first_message : Message
first_message = record {
  body = codes "Hello world";
  lines = record { key = 82; value = codes "65000001" } ∷ record { key = 86; value = codes "b" }
      ∷ record { key = 71; value = codes "00112233445566770000000100000010" } ∷ record { key = 80; value = codes "abc" } ∷ [];
}

abbrev pub first_octets : List ℕ
first_octets = first_header ++ ((1 ∷ 2 ∷ []) ++ (codes "N          000000000000000b" ++ (10 ∷ (codes "Hello world" ++ ((10 ∷ 1 ∷ 3 ∷ 10 ∷ []) ++ (codes "R65000001" ++ (10 ∷ (codes "Vb" ++ (10 ∷ (codes "G00112233445566770000000100000010" ++ (10 ∷ (codes "Pabc" ++ (10 ∷ 10 ∷ [])))))))))))))
