-- Texts of keywords, and which entries can't have them.
use Rattle.std.specs.Prelude.{◌≡◌, ◌==◌, ◌<◌, ◌^◌, ◌⊎◌, ℕ, List, Bool, ◌∷◌, ◌++◌, length, flat_map}
use Rattle.std.specs.List.{AllByRecursion}
use Rattle.model_logs.specs.Entries.{four, name_text, words_text, added_words, WordsInRange, SetInRange}

-- each has fewer than 256 octets
abbrev pub AreShort : List (List ℕ) → Type 0
AreShort words = AllByRecursion (λ word. length word < 256) words

-- so many keywords don't stand in front
abbrev pub HasNoTexts : ℕ → List ℕ → Type 0
HasNoTexts count text = (words : List (List ℕ)) (rest : List ℕ) → length words ≡ count → text ≡ flat_map name_text words ++ rest → ⊥

-- the text isn't what stands behind the GUID of an added message, where keywords may stand there or not
abbrev pub HasNoWords : Bool → List ℕ → Type 0
HasNoWords may text = (words : List (List ℕ)) → WordsInRange may words → text ≡ added_words may words → ⊥

abbrev pub IsNoAddition : ℕ → List ℕ → Type 0
IsNoAddition version fields = (front : List ℕ) (words : List (List ℕ)) → length front ≡ 37 → WordsInRange (version == 2) words → fields ≡ front ++ added_words (version == 2) words → ⊥

abbrev pub IsNotWorded : ℕ → List ℕ → Type 0
IsNotWorded version fields = (uid : ℕ) (words : List (List ℕ)) → uid < 2 ^ 32 → SetInRange (version == 2) words → fields ≡ four uid ++ words_text words → ⊥

-- An entry that the octets are may have keywords: its letter is `A` or `K`, and the version is 2.
abbrev pub MayHaveWords : ℕ → List ℕ → Type 0
MayHaveWords version octets = (version ≡ 2) × (fields : List ℕ) × ((octets ≡ 65 ∷ fields) ⊎ (octets ≡ 75 ∷ fields))
