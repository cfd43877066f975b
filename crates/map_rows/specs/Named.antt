-- Instances that records name, each once, with how often they do.
use Rattle.std.specs.Prelude.{◌≡◌, ◌≤◌, ◌<◌, ◌+◌, ◌&&◌, ◌==◌, ℕ, Bool, true, List, [], ◌∷◌, length, All, AllPairs, flat_map, slice_index_or, if◌then◌else◌}
use Rattle.std.specs.Str.{bytes_eq}
use Rattle.mdbox_base.specs.Words.{IsOctets}
use Rattle.mdbox_base.specs.declared.entries.InstRow.{InstRow}
use Rattle.model_meaning.specs.MapMeaning.{MapRecord}
use Rattle.map_rows.specs.declared.names.NamedInstance.{NamedInstance}
use Rattle.map_rows.specs.Keys.{guid_number}
use Rattle.map_rows.specs.Orders.{times}

-- how often instances are named that pass
abbrev pub namings_of : (InstRow → Bool) → List NamedInstance → ℕ
namings_of p [] = 0
namings_of p (n ∷ named) = (if p n.row then n.namings else 0) + namings_of p named

-- all namings
abbrev pub all_namings : List NamedInstance → ℕ
all_namings named = namings_of (λ row. true) named

-- each is named as often as it is in this list
abbrev pub AreNamesOf : List NamedInstance → List InstRow → Type 0
AreNamesOf named instances = (p : InstRow → Bool) → namings_of p named ≡ times p instances

-- an instance is this one
abbrev pub is_instance : InstRow → InstRow → Bool
is_instance a b = bytes_eq b.id.0 a.id.0 && (bytes_eq b.hash.0 a.hash.0 && (b.size == a.size))

-- no other instance has this one's id
abbrev pub IsOnlyNaming : InstRow → NamedInstance → Type 0
IsOnlyNaming row n = n.row.id.0 ≡ row.id.0 → n.row ≡ row

-- an instance with its id as a number
pub record IsNumbered (n : NamedInstance) : Type 0 where
  pub number : n.number ≡ guid_number n.row.id.0
  pub long : length n.row.id.0 ≡ 16
  pub octets : IsOctets n.row.id.0

-- in order of id
pub record AreNumbered (named : List NamedInstance) : Type 0 where
  pub rising : AllPairs (λ a b. a.number < b.number) named
  pub each : All IsNumbered named

-- an instance that is named once at least, with its id as a number
pub record IsNaming (n : NamedInstance) : Type 0 where
  pub is : IsNumbered n
  pub some : 1 ≤ n.namings

-- in order of id
pub record AreNamings (named : List NamedInstance) : Type 0 where
  pub rising : AllPairs (λ a b. a.number < b.number) named
  pub each : All IsNaming named

-- the naming of a number stands there
pub record IsNamedAt (named : List NamedInstance) (number place : ℕ) : Type 0 where
  pub within : place < length named
  pub is : (d : NamedInstance) → (slice_index_or named place d).number ≡ number

-- no naming has the number: those before this place have lesser ones, and the others greater ones
pub record IsGapFor (named : List NamedInstance) (number place : ℕ) : Type 0 where
  pub within : place ≤ length named
  pub before : (k : ℕ) (d : NamedInstance) → k < place → (slice_index_or named k d).number < number
  pub behind : (k : ℕ) (d : NamedInstance) → place ≤ k → k < length named → number < (slice_index_or named k d).number

-- the namings, and how many more can be added without memory
pub record NamesValue : Type 0 where
  pub named : List NamedInstance
  pub room : ℕ

-- the instances that records name, once for each naming
abbrev pub instances_of : List MapRecord → List InstRow
instances_of rows = flat_map (λ row. row.instances) rows
