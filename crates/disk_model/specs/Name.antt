-- Names of files as keys, and what they name.
use Rattle.std.specs.Prelude.{◌≡◌, ◌==◌, ◌&&◌, ◌<◌, ◌^◌, ℕ, Bool, true, false, List, [], ◌∷◌, length, All, ⊤}
use Rattle.disk_model.specs.declared.name.FileName.{FileName}
use Rattle.disk_model.specs.declared.name.FileName.TheVariants.{Root, Map, Box, Mail, Inst}

abbrev pub same_octets : List ℕ → List ℕ → Bool
same_octets [] [] = true
same_octets [] (y ∷ ys) = false
same_octets (x ∷ xs) [] = false
same_octets (x ∷ xs) (y ∷ ys) = (x == y) && same_octets xs ys

-- a test whether two names are the same
unfoldable pub same_name : FileName → FileName → Bool
same_name Root Root = true
same_name (Map g) (Map h) = g == h
same_name (Box k g) (Box l h) = (k == l) && (g == h)
same_name (Mail n) (Mail m) = n == m
same_name (Inst a i) (Inst b j) = same_octets a b && same_octets i j
same_name _ _ = false

-- the name as the code's type can hold it
abbrev pub IsNameInRange : FileName → Type 0
IsNameInRange Root = ⊤
IsNameInRange (Map generation) = generation < 2 ^ 32
IsNameInRange (Box number generation) = (number < 2 ^ 32) × (generation < 2 ^ 32)
IsNameInRange (Mail number) = number < 2 ^ 32
IsNameInRange (Inst hash id) = (length hash ≡ 20) × (length id ≡ 16) × All (λ octet. octet < 256) hash × All (λ octet. octet < 256) id

-- a log of the store, and no storage file and no instance
abbrev pub is_log : FileName → Bool
is_log Root = true
is_log (Map generation) = true
is_log (Box number generation) = true
is_log (Mail number) = false
is_log (Inst hash id) = false

abbrev pub IsLogName : FileName → Type 0
IsLogName name = is_log name ≡ true

-- the name of a log as the code's type can hold it
abbrev pub IsLogInRange : FileName → Type 0
IsLogInRange name = IsLogName name × IsNameInRange name
