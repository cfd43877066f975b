-- The fields of a header line, read one after another.
use Rattle.std.specs.Prelude.{◌≡◌, ◌≤◌, ℕ, Bool, true, false, Option, Some, None, List, [], ◌∷◌, ◌++◌, length, take, drop, flat_map, IsTrue, ◌⊎◌}
use Rattle.std.specs.List.{AllByRecursion, list_all}
use Rattle.mdbox_base.specs.Numbers.{IsHex}
use Rattle.model_storage.specs.Grammars.{RunEnds}
use Rattle.model_storage.specs.StorageFile.{Line, IsField, field_text, values_of, is_letter_or_digit, IsHeaderLine}

-- a header line of this length, with this size of message headers, stands at the front
abbrev pub HasHeaderLine : List ℕ → ℕ → ℕ → Type 0
HasHeaderLine octets size n = (header : List ℕ) × (behind : List ℕ) × (octets ≡ header ++ behind) × IsHeaderLine header n × (length header ≡ size)

abbrev pub line_of : ℕ → List ℕ → Line
line_of key value = record { key = key; value = value }

-- with the size told so far, further values of `M` make it this number
abbrev pub SizeIs : Option ℕ → List (List ℕ) → ℕ → Type 0
SizeIs None values n = (digits : List ℕ) × (values ≡ digits ∷ []) × IsHex 8 digits n
SizeIs (Some m) values n = (values ≡ []) × (n ≡ m)

-- where the time was told no further value of `C` may come, else one in hexadecimal digits
abbrev pub TimeFits : Bool → List (List ℕ) → Type 0
TimeFits false values = (values ≡ []) ⊎ ((n : ℕ) × (digits : List ℕ) × (values ≡ digits ∷ []) × IsHex 16 digits n)
TimeFits true values = values ≡ []

-- behind the fields that told so much, these end a header line with this number
pub record CanEnd (size : Option ℕ) (time : Bool) (fields : List Line) (n : ℕ) : Type 0 where
  pub each : AllByRecursion IsField fields
  pub size_is : SizeIs size (values_of 77 fields) n
  pub time_fits : TimeFits time (values_of 67 fields)

-- behind the fields that told so much, this text ends a header line with this number
abbrev pub Completes : Option ℕ → Bool → List ℕ → ℕ → Type 0
Completes size time text n = (fields : List Line) × (text ≡ flat_map field_text fields) × CanEnd size time fields n

-- this field stands at the front, and this follows it
pub record IsNextField (text : List ℕ) (field : Line) (behind : List ℕ) : Type 0 where
  pub fits : IsField field
  pub spelled : text ≡ field_text field ++ behind
  pub ends : RunEnds is_letter_or_digit behind

-- so many letters and digits stand at the front, and no more
pub record IsRunLength (text : List ℕ) (n : ℕ) : Type 0 where
  pub within : n ≤ length text
  pub each : IsTrue (list_all is_letter_or_digit (take n text))
  pub ends : RunEnds is_letter_or_digit (drop n text)
