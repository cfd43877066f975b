-- Grammars: octets and what they spell.
use Rattle.std.specs.Prelude.{◌≡◌, ℕ, List, ◌++◌, Bool, false, [], ◌∷◌}

-- A grammar says which octets spell which value.
abbrev pub Grammar : Type 0 → Type 1
Grammar X = List ℕ → X → Type 0

-- a spelling stands at the front of the octets
abbrev pub Begins : {X : Type 0} → Grammar X → List ℕ → Type 0
Begins {X = X} G octets = (first : List ℕ) × (behind : List ℕ) × (value : X) × (octets ≡ first ++ behind) × G first value

-- the octets are the front of a spelling
abbrev pub IsFrontOf : {X : Type 0} → Grammar X → List ℕ → Type 0
IsFrontOf {X = X} G octets = (more : List ℕ) × (value : X) × G (octets ++ more) value

-- no spelling is the front of another, and each spells one value
abbrev pub IsPrefixFree : {X : Type 0} → Grammar X → Type 0
IsPrefixFree {X = X} G = (a b x y : List ℕ) (m n : X) → G a m → G b n → a ++ x ≡ b ++ y → (a ≡ b) × (m ≡ n)

-- a text without such octets ends where such an octet or nothing comes
abbrev pub RunEnds : (ℕ → Bool) → List ℕ → Type 0
RunEnds test [] = Unit {0}
RunEnds test (c ∷ rest) = test c ≡ false
