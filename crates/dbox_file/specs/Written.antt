-- The parts of a message as it is written.
use Rattle.std.specs.Prelude.{ℕ, List, [], ◌∷◌, ◌++◌, replicate}
use Rattle.model_storage.specs.WrittenFile.{upper_digits}

-- the header of a body of this size
abbrev pub header_text : ℕ → List ℕ
header_text size = 1 ∷ 2 ∷ 78 ∷ (replicate 10 32 ++ (upper_digits 16 size ++ 10 ∷ []))

-- the block of these metadata lines
abbrev pub block_text : List ℕ → List ℕ
block_text lines = 10 ∷ 1 ∷ 3 ∷ 10 ∷ (lines ++ 10 ∷ [])
