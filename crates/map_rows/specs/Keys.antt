-- The keys of records: their GUIDs and their places as numbers.
use Rattle.std.specs.Prelude.{◌+◌, ◌*◌, ℕ, List, Option, Some, None}
use Rattle.std.specs.Int.{w128, from_be_bytes}
use Rattle.mdbox_base.specs.declared.entries.MapPlace.{MapPlace}
use Rattle.model_meaning.specs.MapMeaning.{MapRecord, place_given}
use Rattle.map_rows.specs.declared.order.OrderKey.{OrderKey}

-- a GUID as a number
unfoldable pub guid_number : List ℕ → ℕ
guid_number guid = from_be_bytes w128 guid

abbrev pub guid_key : MapRecord → OrderKey
guid_key row = record { number = guid_number row.guid; uid = record { 0 = row.uid } }

-- a place in a file as a number
abbrev pub place_number : ℕ → ℕ → ℕ
place_number file offset = file * 4294967296 + offset

abbrev pub place_key : MapRecord → OrderKey
place_key row = record { number = place_number row.file row.offset; uid = record { 0 = row.uid } }

-- a key with the number of the place that a list gives its record in this file
abbrev pub key_at : OrderKey → ℕ → Option MapPlace → OrderKey
key_at key target None = key
key_at key target (Some place) = record { number = place_number target place.offset; uid = key.uid }

abbrev pub moved_key : ℕ → List MapPlace → OrderKey → OrderKey
moved_key target moved key = key_at key target (place_given key.uid.0 moved)
