-- What the header fields of an entity say (RFC 2045, sections 5 and 6; RFC 2046, section 5.1.1).
use Rattle.std.specs.Prelude.{◌==◌, ◌&&◌, ℕ, zero, suc, Bool, true, not, nat_le, nat_eq, List, [], ◌∷◌, ◌++◌, length, take, drop, take_while, if◌then◌else◌, Option, Some, None, codes}
use Rattle.std.specs.List.{list_all, list_any, ends_with}
use Rattle.std.specs.Char.{is_ascii_graphic}
use Rattle.std.specs.Str.{str_eq_ignore_ascii_case}
use Rattle.model_mime.specs.declared.mime.Coding.{Coding}
use Rattle.model_mime.specs.declared.mime.Coding.TheVariants as codings
use Rattle.model_mime.specs.declared.mime.Kind.{Kind}
use Rattle.model_mime.specs.declared.mime.Kind.TheVariants as kinds
use Rattle.model_mime.specs.declared.mime.Fields.{Fields}
use Rattle.model_mime.specs.Lines.{texts, is_blank}

-- what is left behind the octets in front that pass a test
abbrev pub behind_all : (ℕ → Bool) → List ℕ → List ℕ
behind_all test [] = []
behind_all test (c ∷ rest) = if test c then behind_all test rest else c ∷ rest

-- what is left behind the blanks in front
abbrev pub behind_blanks : List ℕ → List ℕ
behind_blanks text = behind_all is_blank text

-- A text is a word, in any case.
abbrev pub is_word : List ℕ → List ℕ → Bool
is_word text word = str_eq_ignore_ascii_case text word

-- the lines in front that begin with a blank, one behind another without their line breaks
abbrev pub continuation : List (List ℕ) → List ℕ
continuation [] = []
continuation ([] ∷ lines) = []
continuation ((c ∷ line) ∷ lines) = if is_blank c then (c ∷ line) ++ continuation lines else []

-- The value of the first field of a name, which is given with its colon and stands in any case: what follows the colon,
-- with the continuation lines.
abbrev pub is_field_named : List ℕ → List ℕ → Bool
is_field_named name line = is_word (take (length name) line) name

abbrev pub value_of : List ℕ → List (List ℕ) → Option (List ℕ)
value_of name [] = None
value_of name (line ∷ lines) = if is_field_named name line then Some (drop (length name) line ++ continuation lines) else value_of name lines

-- the octets that have a meaning of their own in a field (RFC 2045, section 5.1)
abbrev pub specials : List ℕ
specials = codes "()<>@,;:\\/[]?=" ++ (34 ∷ [])

-- an octet of a token
abbrev pub is_token : ℕ → Bool
is_token c = is_ascii_graphic c && not (list_any (λ s. nat_eq s c) specials)

-- A token in front, and what is left; None where there is none.
unfoldable pub token : List ℕ → Option (List ℕ × List ℕ)
token text = if length (take_while is_token text) == 0 then None else Some (take_while is_token text, drop (length (take_while is_token text)) text)

-- A quoted string behind its first quote, where a backslash makes the next octet stand for itself: what it stands
-- for, and what is left; None where it doesn't end.
abbrev pub with_octet : ℕ → Option (List ℕ × List ℕ) → Option (List ℕ × List ℕ)
with_octet c None = None
with_octet c (Some (text, rest)) = Some ((c ∷ text), rest)

abbrev pub quoted : List ℕ → Option (List ℕ × List ℕ)
quoted [] = None
quoted (c ∷ []) = if c == 34 then Some ([], []) else None
quoted (c ∷ d ∷ rest) =
    if c == 34 then Some ([], d ∷ rest)
    else (if c == 92 then with_octet d (quoted rest)
    else with_octet c (quoted (d ∷ rest)))

-- A parameter's value: a token or a quoted string.
unfoldable pub parameter_value : List ℕ → Option (List ℕ × List ℕ)
parameter_value [] = None
parameter_value (c ∷ rest) = if c == 34 then quoted rest else token (c ∷ rest)

-- what is left behind an octet that has to stand in front
abbrev pub behind : ℕ → List ℕ → Option (List ℕ)
behind mark [] = None
behind mark (c ∷ rest) = if c == mark then Some rest else None

infixl 10 ◌>>=◌
abbrev pub ◌>>=◌ : {A B : Type 0} → Option A → (A → Option B) → Option B
None >>= f = None
(Some x) >>= f = f x

-- a parameter, and what is left behind it
pub record Parameter : Type 0 where
  pub name : List ℕ
  pub value : List ℕ
  pub rest : List ℕ

-- A parameter ends at the end of the value or at a semicolon.
abbrev pub ends_parameter : List ℕ → Bool
ends_parameter [] = true
ends_parameter (c ∷ rest) = c == 59

-- A parameter, with blanks around its name, the equals sign and its value.
unfoldable pub parameter : List ℕ → Option Parameter
parameter text = do
  name ← token (behind_blanks text)
  equals ← behind 61 (behind_blanks name.1)
  value ← parameter_value (behind_blanks equals)
  if ends_parameter (behind_blanks value.1) then Some (record { name = name.0; value = value.0; rest = behind_blanks value.1 }) else None

-- The boundary among parameters: the value of the first that has this name. None where reading fails before it, or
-- there is none. At most so many are read.
abbrev pub boundary_or : (List ℕ → Option (List ℕ)) → Option Parameter → Option (List ℕ)
boundary_or more None = None
boundary_or more (Some p) = if is_word p.name (codes "boundary") then Some p.value else (behind 59 p.rest >>= more)

unfoldable pub boundary_among : ℕ → List ℕ → Option (List ℕ)
boundary_among zero text = None
boundary_among (suc most) text = boundary_or (boundary_among most) (parameter text)

-- the boundary among the parameters that follow a semicolon
abbrev pub boundary_behind : List ℕ → Option (List ℕ)
boundary_behind parameters = behind 59 parameters >>= boundary_among (length parameters)

-- What a boundary has to be: 1 to 70 printing octets, of which the last is no space.
abbrev pub is_printing : ℕ → Bool
is_printing c = nat_le 32 c && nat_le c 126

unfoldable pub is_boundary : List ℕ → Bool
is_boundary text = nat_le 1 (length text) && nat_le (length text) 70 && list_all is_printing text && not (ends_with nat_eq text (codes " "))

abbrev pub multipart : Option (List ℕ) → Kind
multipart None = kinds.Unreadable
multipart (Some text) = if is_boundary text then kinds.Multipart text else kinds.Unreadable

-- the kind by the type, where what follows the subtype is either nothing or parameters behind a semicolon
unfoldable pub kind_by : List ℕ → List ℕ → Kind
kind_by type parameters =
    if is_word type (codes "text") then kinds.Text
    else (if is_word type (codes "message") then kinds.Message
    else (if is_word type (codes "multipart") then multipart (boundary_behind parameters)
    else kinds.Other))

-- A Content-Type: a type, a slash, a subtype, and then the end or a semicolon.
unfoldable pub typed : List ℕ → Option Kind
typed value = do
  type ← token (behind_blanks value)
  slash ← behind 47 type.1
  subtype ← token slash
  if ends_parameter (behind_blanks subtype.1) then Some (kind_by type.0 (behind_blanks subtype.1)) else None

abbrev pub kind_or : Kind → Option Kind → Kind
kind_or else_ None = else_
kind_or else_ (Some kind) = kind

-- the kind by the value of Content-Type
abbrev pub kind_of : Option (List ℕ) → Kind
kind_of None = kinds.Missing
kind_of (Some value) = kind_or kinds.Unreadable (typed value)

-- a text without the blanks at its end
abbrev pub before_blanks : List ℕ → List ℕ
before_blanks [] = []
before_blanks (c ∷ rest) = if list_all is_blank (c ∷ rest) then [] else c ∷ before_blanks rest

-- the coding by the value of Content-Transfer-Encoding
unfoldable pub coding_of : Option (List ℕ) → Coding
coding_of None = codings.Plain
coding_of (Some value) = if is_word (before_blanks (behind_blanks value)) (codes "base64") then codings.Base64 else codings.Plain

-- What a header block says.
unfoldable pub fields_of : List ℕ → Fields
fields_of block = record {
  kind = kind_of (value_of (codes "content-type:") (texts block));
  coding = coding_of (value_of (codes "content-transfer-encoding:") (texts block));
}
