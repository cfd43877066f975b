-- Paths of instances.
use Rattle.std.specs.Prelude.{◌≡◌, ℕ, List, length}
use Rattle.mdbox_base.specs.Words.{IsOctets}
use Rattle.mdbox_base.specs.declared.ids.Hash.{Hash}
use Rattle.mdbox_base.specs.declared.ids.InstId.{InstId}
use Rattle.model_storage.specs.References.{instance_path}

-- a hash has 20 octets, an id 16
pub record NamesInstance (hash : Hash) (id : InstId) : Type 0 where
  pub hash_length : length hash.0 ≡ 20
  pub hash_octets : IsOctets hash.0
  pub id_length : length id.0 ≡ 16
  pub id_octets : IsOctets id.0

-- the text is the path of this instance
abbrev pub IsInstancePath : List ℕ → Hash → InstId → Type 0
IsInstancePath text hash id = NamesInstance hash id × (text ≡ instance_path hash id)
