-- Metadata of a message: lines of known keys, each at most once, and unknown lines. Keys are Dovecot's; `X` is this
-- project's own form.
use Rattle.std.specs.Prelude.{◌≡◌, ◌≢◌, ◌==◌, ◌&&◌, ◌||◌, ℕ, Bool, not, List, [], ◌∷◌, ◌++◌, length, filter, flat_map, IsTrue, Option, Some, None, Ok, ◌⊎◌, is_some}
use Rattle.hex.specs.Hex.{decode_of, encode_lower}
use Rattle.mdbox_base.specs.Numbers.{IsHex, hex_text}
use Rattle.mdbox_base.specs.Words.{IsName}
use Rattle.mdbox_base.specs.declared.ids.Guid.{Guid}
use Rattle.mdbox_base.specs.declared.metadata.ExtRef.{ExtRef}
use Rattle.model_storage.specs.declared.metadata_value.Metadata.{Metadata}
use Rattle.model_storage.specs.References.{AreReferences, references_text}
use Rattle.model_storage.specs.StorageFile.{Line, IsLine, AreLines, line_text, values_of}

-- the known keys: `R` received time, `Z` physical size, `V` virtual size, `G` GUID, `B` mailbox of origin, `X` references
abbrev pub is_number_key : ℕ → Bool
is_number_key key = key == 82 || key == 90 || key == 86

abbrev pub is_known_key : ℕ → Bool
is_known_key key = is_number_key key || key == 71 || key == 66 || key == 88

-- a number has 1 to 16 hexadecimal digits, of either case; zeros may lead
abbrev pub IsNumberText : List ℕ → ℕ → Type 0
IsNumberText text n = IsHex 16 text n

-- a GUID has 32 hexadecimal digits, of either case
pub record IsGuidText (text : List ℕ) (guid : Guid) : Type 0 where
  pub length : length text ≡ 32
  pub octets : decode_of text ≡ Ok guid.0

-- an origin is a mailbox name
pub record IsOriginText (text : List ℕ) (name : List ℕ) : Type 0 where
  pub same : text ≡ name
  pub fits : IsName text

-- no line has the key and there is no value, or one line has it and its text is so read
abbrev pub HasAtMostOne : {X : Type 0} → (List ℕ → X → Type 0) → ℕ → List Line → Option X → Type 0
HasAtMostOne Reads key lines None = values_of key lines ≡ []
HasAtMostOne Reads key lines (Some x) = (text : List ℕ) × (values_of key lines ≡ text ∷ []) × Reads text x

-- the same, but for one line whose text can't be read: it is an unknown line, and there is no value
abbrev pub HasAtMostOneReadable : {X : Type 0} → (List ℕ → X → Type 0) → ℕ → List Line → Option X → Type 0
HasAtMostOneReadable Reads key lines None = (values_of key lines ≡ []) ⊎ ((text : List ℕ) × (values_of key lines ≡ text ∷ []) × ((x : _) → Reads text x → ⊥))
HasAtMostOneReadable Reads key lines (Some x) = (text : List ℕ) × (values_of key lines ≡ text ∷ []) × Reads text x

-- no line has the key and there is no reference, or one line has it and spells these
abbrev pub HasReferences : List Line → List ExtRef → Type 0
HasReferences lines [] = values_of 88 lines ≡ []
HasReferences lines (ref ∷ refs) = (text : List ℕ) × (values_of 88 lines ≡ text ∷ []) × AreReferences text (ref ∷ refs)

-- an unknown line, where a GUID and an origin were read or not
abbrev pub is_unknown : Bool → Bool → Line → Bool
is_unknown guid origin line =
    not (is_number_key line.key || (line.key == 71 && guid) || (line.key == 66 && origin) || line.key == 88)

-- The lines say this: each known key at most once, and the unknown lines in their order.
pub record IsMetadata (lines : List Line) (meta : Metadata) : Type 0 where
  pub received : HasAtMostOne IsNumberText 82 lines meta.received
  pub physical : HasAtMostOne IsNumberText 90 lines meta.physical
  pub virtual_size : HasAtMostOne IsNumberText 86 lines meta.virtual_size
  pub guid : HasAtMostOneReadable IsGuidText 71 lines meta.guid
  pub origin : HasAtMostOneReadable IsOriginText 66 lines meta.origin
  pub refs : HasReferences lines meta.refs
  pub unknown : meta.unknown ≡ flat_map line_text (filter (is_unknown (is_some meta.guid) (is_some meta.origin)) lines)

-- The text is lines that say this.
pub record IsMetadataText (text : List ℕ) (meta : Metadata) : Type 0 where
  pub lines : List Line
  pub are : AreLines text lines
  pub say : IsMetadata lines meta

-- The written form: `R`, `Z`, `V`, `G`, `B` and `X`, each where it has a value, and then the unknown lines. Hexadecimal
-- digits are lower case, those of a number without leading zeros.
abbrev pub optional_line : {X : Type 0} → ℕ → (X → List ℕ) → Option X → List Line
optional_line key text None = []
optional_line key text (Some x) = record { key = key; value = text x } ∷ []

abbrev pub references_line : List ExtRef → List Line
references_line [] = []
references_line (ref ∷ refs) = record { key = 88; value = references_text (ref ∷ refs) } ∷ []

abbrev pub known_lines : Metadata → List Line
known_lines meta =
    optional_line 82 hex_text meta.received ++ (optional_line 90 hex_text meta.physical ++ (optional_line 86 hex_text meta.virtual_size
    ++ (optional_line 71 (λ guid. encode_lower guid.0) meta.guid ++ (optional_line 66 (λ name. name) meta.origin ++ references_line meta.refs))))

abbrev pub metadata_text : Metadata → List ℕ
metadata_text meta = flat_map line_text (known_lines meta) ++ meta.unknown

-- The line may stand behind these: a known key stands at most once, also where its value was unknown, and the value of a
-- number or of references is in its grammar.
pub record MayFollow (before : List Line) (line : Line) : Type 0 where
  pub spelled : IsLine line
  pub once : IsTrue (is_known_key line.key) → values_of line.key before ≡ []
  pub number : IsTrue (is_number_key line.key) → (n : ℕ) × IsNumberText line.value n
  pub references : line.key ≡ 88 → (refs : List ExtRef) × AreReferences line.value refs

-- each may stand behind those before it
abbrev pub FollowOneAnother : List Line → List Line → Type 0
FollowOneAnother before [] = Unit {0}
FollowOneAnother before (line ∷ rest) = MayFollow before line × FollowOneAnother (before ++ line ∷ []) rest

-- The first bad line begins at this offset: good lines stand before it, and what stands there, to its LF or to the end
-- of the text, isn't a line that may follow them.
pub record IsFirstBadLine (text : List ℕ) (offset : ℕ) : Type 0 where
  pub good : List Line
  pub rest : List ℕ
  pub parts : text ≡ flat_map line_text good ++ rest
  pub place : offset ≡ length (flat_map line_text good)
  pub follow : FollowOneAnother [] good
  pub more : rest ≢ []
  pub bad : (line : Line) (behind : List ℕ) → rest ≡ line_text line ++ behind → MayFollow good line → ⊥
