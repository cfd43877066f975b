-- Symbols of base64, two at a time.
use Rattle.std.specs.Prelude.{◌≡◌, ◌<◌, ◌*◌, ◌/◌, ◌%◌, ℕ, List, [], ◌∷◌, drop, slice_index, take}
use Rattle.base64.specs.Engines.{standard}
use Rattle.base64.specs.Rfc4648.{encode_symbols}

-- the symbols of octets in the standard alphabet, without padding
abbrev pub symbols_of : List ℕ → List ℕ
symbols_of octets = encode_symbols standard.encode_table octets

-- the two symbols of twelve bits
abbrev pub pair_of : ℕ → List ℕ
pair_of bits = slice_index standard.encode_table (bits / 64) ∷ slice_index standard.encode_table (bits % 64) ∷ []

-- the pairs of all twelve bits, one behind another
abbrev pub ArePairs : List ℕ → Type 0
ArePairs pairs = (bits : ℕ) → bits < 4096 → take 2 (drop (2 * bits) pairs) ≡ pair_of bits
