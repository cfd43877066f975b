-- The instances that the references of a found message name.
use Rattle.std.specs.Prelude.{◌&&◌, ◌||◌, ℕ, Bool, false, not, List, [], ◌∷◌, length, if◌then◌else◌, Option, Some, None}
use Rattle.std.specs.List.{list_any}
use Rattle.std.specs.Str.{bytes_eq}
use Rattle.disk_model.specs.Disk.{Files}
use Rattle.disk_model.specs.declared.name.FileName.TheVariants as file
use Rattle.mdbox_base.specs.declared.entries.InstRow.{InstRow}
use Rattle.mdbox_base.specs.declared.ids.Hash.{Hash}
use Rattle.mdbox_base.specs.declared.ids.InstId.{InstId}
use Rattle.mdbox_base.specs.declared.metadata.ExtRef.{ExtRef}

-- an instance that is there: as a record of the map names it, and its octets
pub record InstanceFound : Type 0 where
  pub row : InstRow
  pub octets : List ℕ

-- the reference names this id, but with another hash
abbrev pub is_other_hash : Hash → InstId → ExtRef → Bool
is_other_hash hash id ref = bytes_eq id.0 ref.id.0 && not (bytes_eq hash.0 ref.hash.0)

-- Some reference names an id that one of these instances, or an earlier reference, has with another hash.
abbrev pub names_otherwise : List InstRow → List ExtRef → Bool
names_otherwise named [] = false
names_otherwise named (ref ∷ refs) =
    list_any (λ row. is_other_hash row.hash row.id ref) named || (list_any (λ other. is_other_hash ref.hash ref.id other) refs || names_otherwise named refs)

abbrev pub found_first : ExtRef → Option (List ℕ) → Option (List InstanceFound) → Option (List InstanceFound)
found_first ref (Some octets) (Some rest) = Some (record { row = record { hash = ref.hash; id = ref.id; size = length octets }; octets = octets } ∷ rest)
found_first ref octets rest = None

-- the instances of references, in order; None if one of them isn't there
abbrev pub instances_there : Files → List ExtRef → Option (List InstanceFound)
instances_there files [] = Some []
instances_there files (ref ∷ refs) = found_first ref (files (file.Inst ref.hash.0 ref.id.0)) (instances_there files refs)

-- The instances of a message's references, after messages that name these. None if one isn't there, or if an earlier message or
-- an earlier reference names its id with another hash.
abbrev pub instances_for : Files → List InstRow → List ExtRef → Option (List InstanceFound)
instances_for files named refs = if names_otherwise named refs then None else instances_there files refs
