-- Instances on a disk.
use Rattle.std.specs.Prelude.{◌≡◌, ◌≢◌, ◌⊎◌, ℕ, true, List, [], take, drop, All, Option, Some, None}
use Rattle.std.specs.Option.{option_map_or}
use Rattle.disk_model.specs.Disk.{Files, History, IfTold, Between, MayLeave, named, reading}
use Rattle.disk_model.specs.declared.name.FileName.{FileName}
use Rattle.disk_model.specs.declared.name.FileName.TheVariants.{Inst}
use Rattle.mdbox_base.specs.declared.entries.InstRow.{InstRow}
use Rattle.mdbox_base.specs.declared.ids.Hash.{Hash}
use Rattle.mdbox_base.specs.declared.ids.InstId.{InstId}
use Rattle.sis_store.specs.declared.instance.KnownInstance.{KnownInstance}
use Rattle.sis_store.specs.Instances.{InstancesValue, instance_in, is_of_kind, next_id}

abbrev pub instance_file : InstRow → FileName
instance_file row = Inst row.hash.0 row.id.0

-- the file of the known instance of an id
abbrev pub file_of : InstId → List KnownInstance → FileName
file_of id known = Inst (option_map_or (λ k. k.row.hash.0) (instance_in id known) []) id.0

-- the file of the next instance, if it has this hash
abbrev pub next_instance_file : Hash → InstancesValue → FileName
next_instance_file hash value = Inst hash.0 (next_id value).0

-- no known instance of this hash and size has these octets
abbrev pub IsUnlikeKnown : Hash → ℕ → List ℕ → List KnownInstance → Option History → Type 0
IsUnlikeKnown hash size octets known history = IfTold history (λ disk. All (λ k. is_of_kind hash size k.row ≡ true → reading (disk (instance_file k.row)) ≢ Some octets) known)

-- each other file is as it was, with its name synced
abbrev pub OnlyNamesSynced : FileName → Option History → Option History → Type 0
OnlyNamesSynced name = Between (λ old new. (other : FileName) → other ≢ name → new other ≡ named (old other))

-- an image has nothing of this file, or what a crash could leave of it before
abbrev pub IsGoneOrLeft : FileName → Option History → Files → Type 0
IsGoneOrLeft name old image = IfTold old (λ disk. (image name ≡ None) ⊎ MayLeave (disk name) (image name))

-- What is read of an instance from an offset on, at most so many octets; nothing where its file isn't there.
abbrev pub octets_read : ℕ → ℕ → Option (List ℕ) → List ℕ
octets_read offset size None = []
octets_read offset size (Some octets) = take size (drop offset octets)
