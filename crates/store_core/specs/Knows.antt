-- What a store knows of the files and instances that are there, of those that may be gone, and of the GUIDs that were given.
use Rattle.std.specs.Prelude.{◌==◌, ◌&&◌, ◌||◌, nat_le, nat_lt, ℕ, Bool, true, false, List, is_some}
use Rattle.std.specs.List.{list_any}
use Rattle.std.specs.Option.{option_map_or}
use Rattle.std.specs.Str.{bytes_eq}
use Rattle.mdbox_base.specs.declared.entries.InstRow.{InstRow}
use Rattle.model_meaning.specs.MapMeaning.{MapMeaning, instance_number, is_own, is_sealed, number_at}
use Rattle.sis_store.specs.Instances.{instance_in}
use Rattle.storage_files.specs.Files.{end_in, file_in}
use Rattle.store_core.specs.Value.{StoreValue}

-- a storage file is there
abbrev pub knows_file : {D : Type 0} → StoreValue D → ℕ → Bool
knows_file store number = is_some (end_in number store.files.files)

-- The store may have given this GUID: its file was drawn, and a message can have been stored at its offset. A file that the store
-- has no more may have had one; one that isn't made yet has none.
abbrev pub may_have_given : {D : Type 0} → StoreValue D → List ℕ → Bool
may_have_given store guid =
    is_own store.map.store guid && (nat_le (number_at 8 guid) store.drawn.file && option_map_or (λ f. option_map_or (λ end. nat_lt (number_at 12 guid) end) f.end false) (file_in (number_at 8 guid) store.files.files) true)

-- the instance of this row's id is known, with its hash
abbrev pub knows_instance : {D : Type 0} → StoreValue D → InstRow → Bool
knows_instance store row = option_map_or (λ k. bytes_eq k.row.hash.0 row.hash.0) (instance_in row.id store.instances.known) false

-- The store may have removed this instance: its running number was drawn, or it has none of this store.
abbrev pub may_be_gone : {D : Type 0} → StoreValue D → InstRow → Bool
may_be_gone store row = nat_le (instance_number store.map.store row.id.0) store.drawn.instance

-- the map tells that a storage file is there: a record has its region in it, or it is sealed
abbrev pub is_told_of : MapMeaning → ℕ → Bool
is_told_of m number = list_any (λ row. row.file == number) m.records || is_sealed m number
