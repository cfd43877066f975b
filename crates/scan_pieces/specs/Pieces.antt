-- What parts of a storage file tell of it.
use Rattle.std.specs.Prelude.{◌≡◌, ◌+◌, ℕ, List, [], ◌∷◌, ◌++◌, length, codes, ⊤, Result, Ok, Err}
use Rattle.dbox_file.specs.HeaderFields.{HasHeaderLine}
use Rattle.dbox_file.specs.Reading.{Flawed}
use Rattle.dbox_file.specs.declared.reading.Flaw.TheVariants.{Short, Bad}
use Rattle.model_storage.specs.declared.places.MessageAt.{MessageAt}
use Rattle.model_storage.specs.declared.places.PlaceError.{PlaceError}
use Rattle.model_storage.specs.declared.places.PlaceError.TheVariants as at
use Rattle.model_storage.specs.declared.places.ScanError.{ScanError}
use Rattle.model_storage.specs.declared.places.ScanError.TheVariants as scan
use Rattle.model_storage.specs.Grammars.{Begins, IsFrontOf}
use Rattle.model_storage.specs.StorageFile.{Line, Message, IsBlock, IsMessage, IsRefused, place_at}

-- What stands at the beginning of a text that follows this offset of a file: a message, or a prefix of one, or neither.
abbrev pub TextGives : List ℕ → ℕ → Result MessageAt PlaceError → Type 0
TextGives text offset (Ok place) = (first : List ℕ) × (rest : List ℕ) × (m : Message) × (text ≡ first ++ rest) × IsMessage first m × (place ≡ place_at offset m)
TextGives text offset (Err (at.Truncated n)) = (n ≡ offset) × (¬ Begins IsMessage text) × IsFrontOf IsMessage text
TextGives text offset (Err (at.BadMessage n)) = (n ≡ offset) × (¬ Begins IsMessage text) × ¬ IsFrontOf IsMessage text

-- the header of a message without a body
abbrev pub empty_header : List ℕ
empty_header = 1 ∷ 2 ∷ (codes "N          0000000000000000" ++ 10 ∷ [])

-- What stands at the beginning of a text that follows a body: a block of metadata of which a message without a body would end
-- there, or a prefix of one, or neither.
abbrev pub BlockGives : List ℕ → Result MessageAt PlaceError → Type 0
BlockGives text (Ok place) = (block : List ℕ) × (rest : List ℕ) × (lines : List Line) × (text ≡ block ++ rest) × IsBlock block lines × (place.end ≡ 30 + length block)
BlockGives text (Err (at.Truncated n)) = Flawed IsBlock text Short
BlockGives text (Err (at.BadMessage n)) = Flawed IsBlock text Bad

-- The length of the header line, or why it is none. Memory may be lacking.
abbrev pub HeaderGives : List ℕ → Result ℕ ScanError → Type 0
HeaderGives octets (Ok n) = HasHeaderLine octets n 30
HeaderGives octets (Err scan.BadHeader) = IsRefused octets scan.BadHeader
HeaderGives octets (Err (scan.HeaderSize size)) = IsRefused octets (scan.HeaderSize size)
HeaderGives octets (Err (scan.Truncated offset)) = ⊥
HeaderGives octets (Err (scan.BadMessage offset)) = ⊥
HeaderGives octets (Err scan.NoMemory) = ⊤
