-- Base64 text in lines (RFC 4648, section 4; RFC 2045, section 6.8).
use Rattle.std.specs.Prelude.{◌≡◌, ◌-◌, ◌%◌, ◌<◌, ◌≤◌, ℕ, zero, suc, List, [], ◌∷◌, ◌++◌, length, Bool, false, if◌then◌else◌}
use Rattle.base64.specs.Engines.{standard}
use Rattle.base64.specs.GeneralPurpose.{encode_of, IsBytes}
use Rattle.mdbox_base.specs.declared.metadata.LineForm.{LineForm}

-- the padded encoding of octets in the standard alphabet, without line breaks
abbrev pub padded : List ℕ → List ℕ
padded octets = encode_of standard octets

abbrev pub line_break : Bool → List ℕ
line_break crlf = if crlf then 13 ∷ 10 ∷ [] else 10 ∷ []

-- Characters in lines of n, with a break between two lines, where so many more fit into the first line.
unfoldable pub in_lines : ℕ → List ℕ → ℕ → List ℕ → List ℕ
in_lines n break fit [] = []
in_lines n break zero (c ∷ rest) = break ++ (c ∷ in_lines n break (n - 1) rest)
in_lines n break (suc fit) (c ∷ rest) = c ∷ in_lines n break fit rest

-- The text of a form and any octets: their padded encoding in lines of the form's length.
abbrev pub text_of : LineForm → List ℕ → List ℕ
text_of form octets = in_lines form.length (line_break form.crlf) form.length (padded octets)

-- a form that lines can have
pub record IsForm (form : LineForm) : Type 0 where
  pub least : 4 ≤ form.length
  pub most : form.length ≤ 996
  pub fours : form.length % 4 ≡ 0

-- The text is canonical: it is not empty, and it is that of this form and these octets.
-- A single line is as long as its form says, and its form has LF.
pub record IsCanonical (text : List ℕ) (form : LineForm) (octets : List ℕ) : Type 0 where
  pub some : 0 < length octets
  pub octets_fit : IsBytes octets
  pub form_fits : IsForm form
  pub single : length (padded octets) ≤ form.length → (form.length ≡ length (padded octets)) × (form.crlf ≡ false)
  pub spelled : text ≡ text_of form octets
