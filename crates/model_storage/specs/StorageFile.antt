-- The storage file of mdbox (`m.N`; Dovecot's documentation of dbox): a header line, and messages one directly after another.
use Rattle.std.specs.Prelude.{◌≡◌, ◌≢◌, ◌≤◌, ◌+◌, ◌==◌, ◌||◌, ℕ, Bool, not, List, [], ◌∷◌, ◌++◌, length, drop, filter, map, flat_map, IsTrue, Some, ◌⊎◌, Result, Ok, Err}
use Rattle.std.specs.List.{AllByRecursion, list_all}
use Rattle.mdbox_base.specs.Numbers.{IsHex, is_between, hex_from}
use Rattle.model_storage.specs.declared.places.MessageAt.{MessageAt}
use Rattle.model_storage.specs.declared.places.PlaceError.{PlaceError}
use Rattle.model_storage.specs.declared.places.PlaceError.TheVariants as at
use Rattle.model_storage.specs.declared.places.ScanError.{ScanError}
use Rattle.model_storage.specs.declared.places.ScanError.TheVariants as scan
use Rattle.model_storage.specs.Grammars.{Begins, IsFrontOf}

-- a line of metadata: a key octet and a value. A field of the header line too
pub record Line : Type 0 where
  pub key : ℕ
  pub value : List ℕ

-- an octet other than LF
abbrev pub is_no_end : ℕ → Bool
is_no_end c = not (c == 10)

-- neither the key nor the value has an LF
pub record IsLine (line : Line) : Type 0 where
  pub key : IsTrue (is_no_end line.key)
  pub value : IsTrue (list_all is_no_end line.value)

-- the key, the value, LF
abbrev pub line_text : Line → List ℕ
line_text line = line.key ∷ (line.value ++ 10 ∷ [])

-- a row of metadata lines, read
pub record AreLines (text : List ℕ) (lines : List Line) : Type 0 where
  pub each : AllByRecursion IsLine lines
  pub spelled : text ≡ flat_map line_text lines

-- a message as a storage file has it
pub record Message : Type 0 where
  pub body : List ℕ
  pub lines : List Line

-- The header of a message with a body of this size: 01 02, `N`, ten octets of 20 to 7E, sixteen hexadecimal
-- digits, LF. It has 30 octets. Which ten octets, and the case of the digits, is left open.
pub record IsMessageHeader (octets : List ℕ) (size : ℕ) : Type 0 where
  pub filler : List ℕ
  pub digits : List ℕ
  pub spelled : octets ≡ 1 ∷ 2 ∷ 78 ∷ (filler ++ (digits ++ 10 ∷ []))
  pub filler_length : length filler ≡ 10
  pub filler_octets : IsTrue (list_all (is_between 32 126) filler)
  pub digits_length : length digits ≡ 16
  pub value : hex_from 0 digits ≡ Some size
  pub fits : size ≤ 4294967295

-- The block of metadata: LF 01 03 LF, the lines, and an empty line. It has at most 1,048,576 octets.
pub record IsBlock (octets : List ℕ) (lines : List Line) : Type 0 where
  pub each : AllByRecursion IsLine lines
  pub spelled : octets ≡ 10 ∷ 1 ∷ 3 ∷ 10 ∷ (flat_map line_text lines ++ 10 ∷ [])
  pub short : length octets ≤ 1048576

-- The octets are a spelling of the message: its header, its body, its block of metadata.
pub record IsMessage (octets : List ℕ) (m : Message) : Type 0 where
  pub header : List ℕ
  pub block : List ℕ
  pub spelled : octets ≡ header ++ (m.body ++ block)
  pub begins : IsMessageHeader header (length m.body)
  pub ends : IsBlock block m.lines

-- messages, one directly after another, to the end
abbrev pub AreMessages : List ℕ → List Message → Type 0
AreMessages octets [] = octets ≡ []
AreMessages octets (m ∷ rest) = (first : List ℕ) × (behind : List ℕ) × (octets ≡ first ++ behind) × IsMessage first m × AreMessages behind rest

-- an ASCII letter
abbrev pub is_letter : ℕ → Bool
is_letter c = is_between 65 90 c || is_between 97 122 c

abbrev pub is_letter_or_digit : ℕ → Bool
is_letter_or_digit c = is_letter c || is_between 48 57 c

-- a field of the header line: a letter, and a value of letters and digits, which may be empty
pub record IsField (field : Line) : Type 0 where
  pub letter : IsTrue (is_letter field.key)
  pub value : IsTrue (list_all is_letter_or_digit field.value)

-- a space, the letter, the value
abbrev pub field_text : Line → List ℕ
field_text field = 32 ∷ field.key ∷ field.value

-- the values of the lines or fields with this key
abbrev pub values_of : ℕ → List Line → List (List ℕ)
values_of key lines = map (λ l. l.value) (filter (λ l. l.key == key) lines)

-- exactly one has the key, with so many hexadecimal digits at most, of this number
abbrev pub HasOneHex : ℕ → ℕ → List Line → ℕ → Type 0
HasOneHex key most lines n = (digits : List ℕ) × (values_of key lines ≡ digits ∷ []) × IsHex most digits n

-- none has the key, or one with so many hexadecimal digits at most
abbrev pub HasAtMostOneHex : ℕ → ℕ → List Line → Type 0
HasAtMostOneHex key most lines = (values_of key lines ≡ []) ⊎ ((n : ℕ) × HasOneHex key most lines n)

-- A header line with this number n as the size of message headers: `2`, fields, LF, in at most 512 octets. `M` (77), the size of
-- message headers, stands there once, `C` (67), the creation time, at most once. Any other field may repeat.
pub record IsHeaderLine (octets : List ℕ) (n : ℕ) : Type 0 where
  pub fields : List Line
  pub spelled : octets ≡ 50 ∷ (flat_map field_text fields ++ 10 ∷ [])
  pub each : AllByRecursion IsField fields
  pub short : length octets ≤ 512
  pub size : HasOneHex 77 8 fields n
  pub time : HasAtMostOneHex 67 16 fields

-- The octets are a storage file: a header line for message headers of 30 octets, and these messages.
pub record IsFile (octets : List ℕ) (header : List ℕ) (messages : List Message) : Type 0 where
  pub rest : List ℕ
  pub parts : octets ≡ header ++ rest
  pub begins : IsHeaderLine header 30
  pub follow : AreMessages rest messages

-- where a message stands whose header begins at this offset
abbrev pub place_at : ℕ → Message → MessageAt
place_at offset m = record {
  offset = offset;
  body = offset + 30;
  size = length m.body;
  lines = offset + 30 + length m.body + 4;
  end = offset + 30 + length m.body + 4 + length (flat_map line_text m.lines) + 1;
}

-- where messages stand, one directly after another from this offset on
abbrev pub message_places_from : ℕ → List Message → List MessageAt
message_places_from offset [] = []
message_places_from offset (m ∷ rest) = place_at offset m ∷ message_places_from (place_at offset m).end rest

-- a message stands at this offset, and this is its place
abbrev pub StandsAt : List ℕ → ℕ → MessageAt → Type 0
StandsAt octets offset place = (first : List ℕ) × (behind : List ℕ) × (m : Message) × (drop offset octets ≡ first ++ behind) × IsMessage first m × (place ≡ place_at offset m)

-- no whole message stands at this offset
abbrev pub StandsNone : List ℕ → ℕ → Type 0
StandsNone octets offset = ¬ Begins IsMessage (drop offset octets)

-- What stands at an offset: a message, or the front of one, which may be empty, or neither.
abbrev pub PlaceGives : List ℕ → ℕ → Result MessageAt PlaceError → Type 0
PlaceGives octets offset (Ok place) = StandsAt octets offset place
PlaceGives octets offset (Err (at.Truncated n)) = (n ≡ offset) × StandsNone octets offset × IsFrontOf IsMessage (drop offset octets)
PlaceGives octets offset (Err (at.BadMessage n)) = (n ≡ offset) × StandsNone octets offset × ¬ IsFrontOf IsMessage (drop offset octets)

-- These are the places of a storage file's messages.
abbrev pub HasPlaces : List ℕ → List MessageAt → Type 0
HasPlaces octets places = (header : List ℕ) × (messages : List Message) × IsFile octets header messages × (places ≡ message_places_from (length header) messages)

-- Behind a good header line and whole messages the rest, from this offset on, isn't empty, and no whole message stands there.
pub record StopsAt (octets : List ℕ) (offset : ℕ) (rest : List ℕ) : Type 0 where
  pub header : List ℕ
  pub front : List ℕ
  pub messages : List Message
  pub parts : octets ≡ header ++ (front ++ rest)
  pub begins : IsHeaderLine header 30
  pub whole : AreMessages front messages
  pub offset_is : offset ≡ length header + length front
  pub some : rest ≢ []
  pub none : ¬ Begins IsMessage rest

-- The octets aren't a storage file, for this cause.
abbrev pub IsRefused : List ℕ → ScanError → Type 0
IsRefused octets scan.BadHeader = ¬ Begins IsHeaderLine octets
IsRefused octets (scan.HeaderSize size) = (size ≢ 30) × ((header : List ℕ) × (behind : List ℕ) × (octets ≡ header ++ behind) × IsHeaderLine header size)
IsRefused octets (scan.Truncated offset) = (rest : List ℕ) × StopsAt octets offset rest × IsFrontOf IsMessage rest
IsRefused octets (scan.BadMessage offset) = (rest : List ℕ) × StopsAt octets offset rest × ¬ IsFrontOf IsMessage rest
IsRefused octets scan.NoMemory = ⊥

-- What a scan of the octets gives, but for lack of memory: the places of the messages, or the cause of refusal.
abbrev pub ScanGives : List ℕ → Result (List MessageAt) ScanError → Type 0
ScanGives octets (Ok places) = HasPlaces octets places
ScanGives octets (Err error) = IsRefused octets error
