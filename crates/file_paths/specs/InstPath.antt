-- Paths of instances.
use Rattle.std.specs.Prelude.{ℕ, List, [], ◌∷◌, ◌++◌, codes}
use Rattle.hex.specs.Hex.{encode_lower}

-- the path of what has this name in the folder of the instances whose hashes begin with these octets
abbrev pub inst_path : ℕ → ℕ → List ℕ → List ℕ
inst_path first second text =
    codes "attachments/" ++ (encode_lower (first ∷ []) ++ (codes "/" ++ (encode_lower (second ∷ []) ++ (codes "/" ++ text))))
