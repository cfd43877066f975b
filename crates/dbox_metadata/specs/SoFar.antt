-- What a reader has taken of the lines before a place.
use Rattle.std.specs.Prelude.{◌≡◌, ◌≢◌, ℕ, Bool, true, false, List, [], ◌∷◌, ◌++◌}
use Rattle.model_storage.specs.StorageFile.{Line, IsLine, line_text, values_of}
use Rattle.model_storage.specs.Metadata.{IsMetadata, MayFollow}
use Rattle.dbox_metadata.specs.declared.reader.Reader.{Reader}

abbrev pub meta_line : ℕ → List ℕ → Line
meta_line key value = record { key = key; value = value }

-- whether a line has the key
abbrev pub HasSeen : Bool → ℕ → List Line → Type 0
HasSeen true key lines = values_of key lines ≢ []
HasSeen false key lines = values_of key lines ≡ []

-- the lines say what the reader holds, and it knows which of the keys stood there whose value may be unknown
pub record HasTaken (lines : List Line) (reader : Reader) : Type 0 where
  pub say : IsMetadata lines reader.meta
  pub guid : HasSeen reader.guid_seen 71 lines
  pub origin : HasSeen reader.origin_seen 66 lines

-- a reader that has taken some lines takes this one too, where it may follow them, and else says no
abbrev pub TakesNext : Reader → Line → Reader → Bool → Type 0
TakesNext before line after true = (lines : List Line) → HasTaken lines before → MayFollow lines line × HasTaken (lines ++ line ∷ []) after
TakesNext before line after false = (lines : List Line) → HasTaken lines before → ¬ MayFollow lines line

-- this line stands at the front, and this follows it
pub record IsNextLine (text : List ℕ) (line : Line) (behind : List ℕ) : Type 0 where
  pub fits : IsLine line
  pub spelled : text ≡ line_text line ++ behind
