-- What a reader finds at the front of a text.
use Rattle.std.specs.Prelude.{◌≡◌, ℕ, Bool, List, ◌++◌, length, IsTrue}
use Rattle.std.specs.List.{list_all}
use Rattle.model_storage.specs.Grammars.{Grammar, Begins, IsFrontOf}
use Rattle.dbox_file.specs.declared.reading.Flaw.{Flaw}
use Rattle.dbox_file.specs.declared.reading.Flaw.TheVariants.{Short, Bad}

-- a spelling of this value stands at the front, and this rest follows it
abbrev pub StandsFirst : {X : Type 0} → Grammar X → List ℕ → X → List ℕ → Type 0
StandsFirst G text value rest = (spelling : List ℕ) × (text ≡ spelling ++ rest) × G spelling value

-- a spelling stands at the front, and this rest follows it
abbrev pub FoundSome : {X : Type 0} → Grammar X → List ℕ → List ℕ → Type 0
FoundSome {X = X} G text rest = (value : X) × StandsFirst G text value rest

-- no spelling stands at the front: the text is short where it is the front of one, else it is bad
abbrev pub Flawed : {X : Type 0} → Grammar X → List ℕ → Flaw → Type 0
Flawed G text Short = (¬ Begins G text) × IsFrontOf G text
Flawed G text Bad = (¬ Begins G text) × (¬ IsFrontOf G text)

-- these octets and no others
abbrev pub IsText : List ℕ → List ℕ → Unit {0} → Type 0
IsText wanted octets u = octets ≡ wanted

-- so many octets that pass the test
abbrev pub IsRun : ℕ → (ℕ → Bool) → List ℕ → Unit {0} → Type 0
IsRun count test octets u = (length octets ≡ count) × IsTrue (list_all test octets)
